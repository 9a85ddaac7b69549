use Rattle.std.proofs.Common.{◌++◌, ◌-◌, length}
use Rattle.grammars.specs.Grammar.{row}
use Rattle.kt_grammar.specs.Built as built
use Rattle.kt_grammar.specs.Parsed.{ResumesOn}
use Rattle.kt_grammar.specs.Rows as rows
use Rattle.kt_bodies.proofs.bodies.Bodies.further.Given as goal

abbrev pub invariant-loop-all : goal.invariant-loop-all
invariant-loop-all g l = ResumesOn (row rows.after_statement) (λ xs c. xs ++ built.statements_behind c) l.self.tokens.now l.fn.at l.fn.before l.at l.all

abbrev pub decreases-loop-all : goal.decreases-loop-all
decreases-loop-all g l = length l.self.tokens.now - l.at.at

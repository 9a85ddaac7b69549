use Rattle.std.proofs.Common.{◌++◌, ◌-◌, length}
use Rattle.grammars.specs.Grammar.{row}
use Rattle.kt_grammar.specs.Built as built
use Rattle.kt_grammar.specs.Parsed.{ResumesOn}
use Rattle.kt_grammar.specs.Rows as rows
use Rattle.kt_when.proofs.heads.further_conditions.Given as goal

abbrev pub invariant-loop-next : goal.invariant-loop-next
invariant-loop-next g l = ResumesOn (row rows.conditions) (λ xs c. xs ++ built.conditions_of c) l.bodies.tokens.now l.fn.at l.fn.before l.at l.all

abbrev pub decreases-loop-next : goal.decreases-loop-next
decreases-loop-next g l = length l.bodies.tokens.now - l.at.at

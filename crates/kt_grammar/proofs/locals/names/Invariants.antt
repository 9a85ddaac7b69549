use Rattle.std.proofs.Common.{◌++◌, ◌-◌, length}
use Rattle.grammars.specs.Grammar.{row}
use Rattle.kt_grammar.specs.Built as built
use Rattle.kt_grammar.specs.Parsed.{Resumes}
use Rattle.kt_grammar.specs.Rows as rows
use Rattle.kt_grammar.proofs.locals.names.Given as goal

abbrev pub invariant-loop-alloc : goal.invariant-loop-alloc
invariant-loop-alloc l = Resumes (row rows.names) (λ ns x. ns ++ built.names_of x) l.tokens l.fn.at l.fn.before l.at l.all

abbrev pub decreases-loop-alloc : goal.decreases-loop-alloc
decreases-loop-alloc l = length l.tokens - l.at

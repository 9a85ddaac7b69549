use Rattle.std.proofs.Common.{◌++◌, ◌-◌, length}
use Rattle.grammars.specs.Grammar.{row}
use Rattle.kt_grammar.specs.Built as built
use Rattle.kt_grammar.specs.Parsed.{Resumes}
use Rattle.kt_grammar.specs.Rows as rows
use Rattle.kt_grammar.proofs.locals.bare_names.Given as goal

abbrev pub invariant-loop-next : goal.invariant-loop-next
invariant-loop-next l = Resumes (row rows.bare_names) (λ ns x. ns ++ built.bare_names_of x) l.tokens l.fn.at l.fn.before l.at l.all

abbrev pub decreases-loop-next : goal.decreases-loop-next
decreases-loop-next l = length l.tokens - l.at

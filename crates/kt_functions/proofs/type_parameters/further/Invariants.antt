use Rattle.std.proofs.Common.{◌++◌, ◌-◌, length}
use Rattle.grammars.specs.Grammar.{row}
use Rattle.kt_grammar.specs.DeclarationsBuilt as built
use Rattle.kt_grammar.specs.Parsed.{ResumesOn}
use Rattle.kt_grammar.specs.Rows as rows
use Rattle.kt_functions.proofs.type_parameters.further.Given as goal

abbrev pub invariant-loop-next : goal.invariant-loop-next
invariant-loop-next l = ResumesOn (row rows.more_type_parameters) (λ xs c. xs ++ built.more_type_parameters_of c) l.tokens l.fn.at l.fn.before l.at l.all

abbrev pub decreases-loop-next : goal.decreases-loop-next
decreases-loop-next l = length l.tokens - l.at.at

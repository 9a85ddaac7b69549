use Rattle.std.proofs.Common.{[], ◌++◌, ◌-◌, length}
use Rattle.kt_grammar.specs.DeclarationsBuilt as built
use Rattle.kt_grammar.specs.Parsed.{ResumesOn}
use Rattle.kt_grammar.specs.Rows as rows
use Rattle.kt_functions.proofs.modifier_words.modifiers.Given as goal

abbrev pub invariant-loop-all : goal.invariant-loop-all
invariant-loop-all l = ResumesOn rows.modifiers (λ xs c. xs ++ built.modifiers_of c) l.tokens l.fn.at [] l.at l.all

abbrev pub decreases-loop-all : goal.decreases-loop-all
decreases-loop-all l = length l.tokens - l.at.at

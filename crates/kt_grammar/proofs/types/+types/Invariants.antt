use Rattle.std.proofs.Common.{◌∷◌, [], ◌++◌, length, ◌+◌, ◌-◌, ◌*◌}
use Rattle.grammars.specs.Grammar.{row}
use Rattle.kt_grammar.specs.Parsed.{Resumes}
use Rattle.kt_grammar.specs.Rows as rows
use Rattle.kt_grammar.specs.TypesBuilt as built
use Rattle.kt_grammar.proofs.types.+types.Given as goal

abbrev pub decreases-type_at : goal.decreases-type_at
decreases-type_at l = 5 * (length l.tokens.now - l.at) + 3

abbrev pub decreases-core_type : goal.decreases-core_type
decreases-core_type l = 5 * (length l.tokens.now - l.at) + 2

abbrev pub decreases-named_type : goal.decreases-named_type
decreases-named_type l = 5 * (length l.tokens.now - l.at) + 1

abbrev pub decreases-bracketed_type : goal.decreases-bracketed_type
decreases-bracketed_type l = 5 * (length l.tokens.now - l.at) + 1

abbrev pub decreases-behind_first : goal.decreases-behind_first
decreases-behind_first l = 5 * (length l.tokens.now - l.at) + 0

abbrev pub decreases-result_type : goal.decreases-result_type
decreases-result_type l = 5 * (length l.tokens.now - l.at) + 0

abbrev pub decreases-more_types : goal.decreases-more_types
decreases-more_types l = 5 * (length l.tokens.now - l.at) + 4

abbrev pub decreases-type_arguments : goal.decreases-type_arguments
decreases-type_arguments l = 5 * (length l.tokens.now - l.at) + 0

abbrev pub decreases-more_type_arguments : goal.decreases-more_type_arguments
decreases-more_type_arguments l = 5 * (length l.tokens.now - l.at) + 0

abbrev pub decreases-type_argument : goal.decreases-type_argument
decreases-type_argument l = 5 * (length l.tokens.now - l.at) + 4

abbrev pub invariant-more_types-loop-alloc : goal.invariant-more_types-loop-alloc
invariant-more_types-loop-alloc l = Resumes (row rows.types) (λ ts x. ts ++ built.types_of x) l.tokens l.fn.at (l.fn.head ∷ []) l.at l.all

abbrev pub decreases-more_types-loop-alloc : goal.decreases-more_types-loop-alloc
decreases-more_types-loop-alloc l = length l.tokens - l.at

abbrev pub invariant-more_type_arguments-loop-next : goal.invariant-more_type_arguments-loop-next
invariant-more_type_arguments-loop-next l = Resumes (row rows.more_type_arguments) (λ ts x. ts ++ built.more_type_arguments_of x) l.tokens l.fn.at (l.fn.head ∷ []) l.at l.all

abbrev pub decreases-more_type_arguments-loop-next : goal.decreases-more_type_arguments-loop-next
decreases-more_type_arguments-loop-next l = length l.tokens - l.at

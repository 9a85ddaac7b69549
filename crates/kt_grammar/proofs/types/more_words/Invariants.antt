use Rattle.std.proofs.Common.{◌∷◌, [], ◌++◌, length, ◌-◌}
use Rattle.kt_grammar.specs.Parsed.{Resumes}
use Rattle.kt_grammar.specs.Rows.{dotted_names}
use Rattle.kt_grammar.specs.TypesBuilt as built
use Rattle.kt_grammar.proofs.types.more_words.Given as goal

abbrev pub invariant-loop-next : goal.invariant-loop-next
invariant-loop-next l = Resumes dotted_names (λ ws x. ws ++ built.words_behind x) l.tokens l.fn.at (l.fn.head ∷ []) l.at l.words

abbrev pub decreases-loop-next : goal.decreases-loop-next
decreases-loop-next l = length l.tokens - l.at

-- The innermost string that is open.
use Rattle.std.proofs.Common.{◌≡◌, ℕ, ◌+◌, ◌<◌, List, [], ◌∷◌, length, take, get_or, reverse, ap, ◌∙◌}
use Rattle.std.proofs.lemmas.List.{take_more, reverse-append}
use Rattle.kt_lexer.specs.declared.pieces.Open.{Open}

-- the brackets below an index, from the innermost on
pub below_more : (xs : List Open) (n : ℕ) (d : Open) → n < length xs → reverse (take (n + 1) xs) ≡ get_or xs n d ∷ reverse (take n xs)
below_more xs n d h = ap reverse (take_more xs n d h) ∙ reverse-append (take n xs) (get_or xs n d ∷ [])

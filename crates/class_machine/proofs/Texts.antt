-- Texts on the heap and on the stack.
use Rattle.std.proofs.Common.{◌≡◌, ℕ, suc, ◌<◌, Bool, true, List, [], ◌∷◌, refl, ap, ◌∙◌}
use Rattle.std.specs.Prelude.{slice_index, ◌&&◌}
use Rattle.std.specs.List.{list_all}
use Rattle.std.specs.Char.{is_ascii}
use Rattle.std.proofs.lemmas.Bool.{lt-ltb}

pub all_ascii : (bs : List ℕ) → ((i : ℕ) → slice_index bs i < 128) → list_all is_ascii bs ≡ true
all_ascii [] h = refl
all_ascii (b ∷ bs) h = ap (λ (t : Bool). t && list_all is_ascii bs) (lt-ltb b 128 (h 0)) ∙ all_ascii bs (λ i. h (suc i))

-- Things of one kind, one after the other.
use Rattle.std.proofs.Common.{◌≡◌, ℕ, ◌+◌, ◌<◌, List, [], ◌∷◌, ◌++◌, length, get_or, take, ap, ◌∙◌, append-nil}
use Rattle.std.specs.List.{AllByRecursion, flat_map}
use Rattle.std.proofs.lemmas.List.{take_more}
use Rattle.std.proofs.lemmas.List.Elements.{All-from_recursion, All-get_or}
use Rattle.std.proofs.lemmas.Grind.{flat_map-append}
use Rattle.class_file.specs.ClassBytes.{Each}

-- some bytes are the thing's
abbrev pub IsSpelled : {A : Type 0} → (A → List ℕ → Type 0) → A → Type 0
IsSpelled P x = (bytes : List ℕ) × P x bytes

all_spelled : {A : Type 0} (P : A → List ℕ → Type 0) (xs : List A) (bytes : List ℕ) → Each P xs bytes → AllByRecursion (IsSpelled P) xs
all_spelled P [] bytes e = tt
all_spelled P (x ∷ xs) bytes e = ((e.0, e.3), all_spelled P xs e.1 e.4)

-- each of the things is spelled
pub spelled_at : {A : Type 0} (P : A → List ℕ → Type 0) (xs : List A) (bytes : List ℕ) (i : ℕ) (d : A) → Each P xs bytes → i < length xs → IsSpelled P (get_or xs i d)
spelled_at P xs bytes i d e lt = All-get_or (IsSpelled P) xs i d lt (All-from_recursion (IsSpelled P) xs (all_spelled P xs bytes e))

-- one thing more
pub flat_map_more : {A : Type 0} (f : A → List ℕ) (xs : List A) (i : ℕ) (d : A) → i < length xs → flat_map f (take (i + 1) xs) ≡ flat_map f (take i xs) ++ f (get_or xs i d)
flat_map_more f xs i d lt = ap (flat_map f) (take_more xs i d lt) ∙ flat_map-append f (take i xs) (get_or xs i d ∷ []) ∙ ap (λ b. flat_map f (take i xs) ++ b) (one (f (get_or xs i d)))
  where
    one : (b : List ℕ) → b ++ [] ≡ b
    one b = append-nil b

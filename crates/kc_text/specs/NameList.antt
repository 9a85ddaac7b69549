-- Lists of different texts.
use Rattle.std.specs.Prelude.{◌≡◌, ℕ, ◌<◌, List, [], ◌∷◌, ◌++◌, length, slice_get, Contains, ◌⊎◌}

-- no text stands at two places
abbrev pub AllDifferent : List (List ℕ) → Type 0
AllDifferent names = (i j : ℕ) → i < length names → slice_get names i ≡ slice_get names j → i ≡ j

-- the list has the name already and stays, or gains it at its end
abbrev pub AddsOnce : List (List ℕ) → List (List ℕ) → List ℕ → Type 0
AddsOnce old new name = (Contains old name × (new ≡ old)) ⊎ (¬ (Contains old name) × (new ≡ old ++ name ∷ []))

-- each number of the old list has its text in the new one
abbrev pub KeepsNumbers : List (List ℕ) → List (List ℕ) → Type 0
KeepsNumbers old new = (number : ℕ) → number < length old → slice_get new number ≡ slice_get old number

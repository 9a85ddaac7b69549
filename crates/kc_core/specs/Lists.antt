-- Reading a list at a place, after a write or with more behind it.
use Rattle.std.proofs.Common.{◌≡◌, ℕ, zero, suc, ◌<◌, List, [], ◌∷◌, ◌++◌, length, Some, refl, ap, arith}
use Rattle.std.specs.Prelude.{slice_get, slice_set}

pub get_same : {A : Type 0} (xs : List A) (i : ℕ) (a : A) → i < length xs → slice_get (slice_set xs i a) i ≡ Some a
get_same [] i a h = absurd (omega arith)
get_same (x ∷ xs) zero a h = refl
get_same (x ∷ xs) (suc i) a h = get_same xs i a (omega arith)

pub get_other : {A : Type 0} (xs : List A) (i k : ℕ) (a : A) → (k ≡ i → ⊥) → slice_get (slice_set xs i a) k ≡ slice_get xs k
get_other [] i k a h = refl
get_other (x ∷ xs) zero zero a h = absurd (h refl)
get_other (x ∷ xs) zero (suc k) a h = refl
get_other (x ∷ xs) (suc i) zero a h = refl
get_other (x ∷ xs) (suc i) (suc k) a h = get_other xs i k a (λ e. h (ap suc e))

pub set_length : {A : Type 0} (xs : List A) (i : ℕ) (a : A) → length (slice_set xs i a) ≡ length xs
set_length [] i a = refl
set_length (x ∷ xs) zero a = refl
set_length (x ∷ xs) (suc i) a = ap suc (set_length xs i a)

pub there : {A : Type 0} (xs : List A) (i : ℕ) → i < length xs → (a : A) × (slice_get xs i ≡ Some a)
there [] i h = absurd (omega arith)
there (x ∷ xs) zero h = (x, refl)
there (x ∷ xs) (suc i) h = there xs i (omega arith)

pub within : {A : Type 0} (xs : List A) (i : ℕ) (a : A) → slice_get xs i ≡ Some a → i < length xs
within [] i a h = cc
within (x ∷ xs) zero a h = omega arith
within (x ∷ xs) (suc i) a h = let r = within xs i a h in omega (arith, r)

pub still_there : {A : Type 0} (xs ys : List A) (i : ℕ) (a : A) → slice_get xs i ≡ Some a → slice_get (xs ++ ys) i ≡ Some a
still_there [] ys i a h = cc
still_there (x ∷ xs) ys zero a h = h
still_there (x ∷ xs) ys (suc i) a h = still_there xs ys i a h

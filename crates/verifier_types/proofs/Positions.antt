-- The first place where a test holds, with one element more at a time.
use Rattle.std.proofs.Common.{◌≡◌, ℕ, suc, ◌+◌, ◌<◌, Bool, true, false, cond, List, [], ◌∷◌, ◌++◌, length, get_or, take, Option, Some, None, refl, sym, ap, ap₂, ◌∙◌, arith, length-take-le}
use Rattle.std.specs.List.{position, position_from, list_any}
use Rattle.std.specs.Option.{is_some}
use Rattle.std.specs.Prelude.{◌||◌}
use Rattle.std.proofs.lemmas.Iterator.Adapters.{position_from-zero}
use Rattle.std.proofs.lemmas.List.{take_more}
use Rattle.verifier_types.specs.Places.{or_place, place_if}

module _ {A : Type 0} (p : A → Bool) where
  push : (k : ℕ) (xs : List A) (x : A) → position_from p k (xs ++ x ∷ []) ≡ or_place (position_from p k xs) (place_if (p x) (k + length xs))
  push k [] x = let e : k + 0 ≡ k = omega arith in rw e (last (p x))
    where
      last : (b : Bool) → cond b (Some k) None ≡ place_if b k
      last true = refl
      last false = refl
  push k (y ∷ xs) x =
      let e : k + 1 + length xs ≡ k + suc (length xs) = omega arith in
      by (p y) (push (k + 1) xs x ∙ ap (λ n. or_place (position_from p (k + 1) xs) (place_if (p x) n)) e)
    where
      by : (b : Bool) → position_from p (k + 1) (xs ++ x ∷ []) ≡ or_place (position_from p (k + 1) xs) (place_if (p x) (k + suc (length xs)))
          → cond b (Some k) (position_from p (k + 1) (xs ++ x ∷ [])) ≡ or_place (cond b (Some k) (position_from p (k + 1) xs)) (place_if (p x) (k + suc (length xs)))
      by true ih = refl
      by false ih = ih

  pub more : (xs : List A) (i : ℕ) (x : A) → x ≡ get_or xs i x → i < length xs → position p (take (i + 1) xs) ≡ or_place (position p (take i xs)) (place_if (p x) i)
  more xs i x is lt =
      let n : 0 + length (take i xs) ≡ i = omega (arith, length-take-le i xs) in
      position_from-zero p (take (i + 1) xs)
      ∙ ap (position_from p 0) (take_more xs i x lt) ∙ push 0 (take i xs) (get_or xs i x)
      ∙ ap₂ (λ (y : A) (m : ℕ). or_place (position_from p 0 (take i xs)) (place_if (p y) m)) (sym is) n
      ∙ ap (λ (o : Option ℕ). or_place o (place_if (p x) i)) (sym (position_from-zero p (take i xs)))

  found_from : (k : ℕ) (xs : List A) → is_some (position_from p k xs) ≡ list_any p xs
  found_from k [] = refl
  found_from k (x ∷ xs) = by (p x) (found_from (k + 1) xs)
    where
      by : (b : Bool) → is_some (position_from p (k + 1) xs) ≡ list_any p xs → is_some (cond b (Some k) (position_from p (k + 1) xs)) ≡ (b || list_any p xs)
      by true ih = refl
      by false ih = ih

  pub is_found : (xs : List A) → is_some (position p xs) ≡ list_any p xs
  is_found xs = ap is_some (position_from-zero p xs) ∙ found_from 0 xs

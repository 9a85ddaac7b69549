-- Lists from their end.
use Rattle.std.proofs.Common.{◌≡◌, ℕ, ◌+◌, ◌-◌, List, [], ◌∷◌, ◌++◌, length, map, drop, reverse, refl, sym, ap, ◌∙◌, append_assoc, arith}
use Rattle.std.proofs.lemmas.List.{map-append, reverse-append, reverse-reverse, length-append, drop-append-le}

-- the last elements, so many of them or all
abbrev pub last_of : {T : Type 0} → ℕ → List T → List T
last_of n xs = drop (length xs - n) xs

module _ {S T : Type 0} (f : S → T) where
  map-reverse : (xs : List S) → map f (reverse xs) ≡ reverse (map f xs)
  map-reverse [] = refl
  map-reverse (x ∷ xs) =
      ap (map f) (reverse-append (x ∷ []) xs) ∙ map-append f (reverse xs) (x ∷ []) ∙ ap (λ (ys : List T). ys ++ f x ∷ []) (map-reverse xs) ∙ sym (reverse-append (f x ∷ []) (map f xs))

  -- what a list is by a list of the same from its end
  pub turned : (xs ys : List S) (zs : List T) → ys ≡ reverse xs → map f xs ≡ reverse zs → map f ys ≡ zs
  turned xs ys zs is from_end = ap (map f) is ∙ map-reverse xs ∙ ap reverse from_end ∙ reverse-reverse zs

  last_behind : (xs : List T) (x : T) (n m : ℕ) → n ≡ m + 1 → last_of n (xs ++ x ∷ []) ≡ last_of m xs ++ x ∷ []
  last_behind xs x n m e =
      ap (λ (k : ℕ). drop k (xs ++ x ∷ [])) (omega (arith, e, length-append xs (x ∷ [])))
      ∙ drop-append-le (length xs - m) xs (x ∷ []) (omega arith)

  -- one more element from the end
  pub one_taken : (all new : List S) (x : S) (xs ys : List T) (n m : ℕ) → new ≡ all ++ x ∷ [] → ys ≡ xs ++ f x ∷ [] → n ≡ m + 1 → map f new ++ reverse (last_of m xs) ≡ map f all ++ reverse (last_of n ys)
  one_taken all new x xs ys n m is behind e =
      ap (λ (all : List S). map f all ++ reverse (last_of m xs)) is
      ∙ ap (λ (ts : List T). ts ++ reverse (last_of m xs)) (map-append f all (x ∷ []))
      ∙ append_assoc (map f all) (f x ∷ []) (reverse (last_of m xs))
      ∙ ap (λ (ts : List T). map f all ++ ts) (sym (reverse-append (last_of m xs) (f x ∷ [])) ∙ ap reverse (sym (ap (last_of n) behind ∙ last_behind xs (f x) n m e)))

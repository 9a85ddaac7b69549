-- What is known against what a given frame says, place by place.
use Rattle.std.proofs.Common.{◌≡◌, ◌≢◌, ℕ, zero, suc, ◌+◌, ◌-◌, ◌<◌, ◌≤◌, Bool, true, false, eqb, List, [], ◌∷◌, ◌++◌, length, drop, drop-cons, get_or, map, Bor, refl, sym, ap, ◌∙◌, add-one, arith, length-append, length-drop}
use Rattle.std.specs.Prelude.{◌&&◌, nat_le, reverse}
use Rattle.std.proofs.Math.ListN.{replicate}
use Rattle.std.proofs.lemmas.Bool.{leb-true, le-leb, eq-eqb, ne_eqb, eqb-true, eqb-false}
use Rattle.std.proofs.lemmas.List.{reverse-append, length-reverse, length-map, get_or-map, get_or-drop, drop-drop, nil_from_length}
use Rattle.class_file.specs.declared.class.Set.{Set}
use Rattle.class_file.specs.declared.class.VType.{VType}
use Rattle.class_file.specs.declared.class.VType.TheVariants.{Top, Long}
use Rattle.class_file.specs.Members.{assignable}
use Rattle.class_file.specs.Typing.{all_assignable, width}
use Rattle.class_file.specs.Verification.{spread, padded}
use Rattle.verifier_types.specs.declared.types.VerificationType.{VerificationType}
use Rattle.verifier_types.specs.Seen.{type_of}
use Rattle.verifier_types.proofs.Lists.{unequal, map_reverse}
use Rattle.verifier.specs.Fits.{fits_at}

and_true : (b : Bool) → (b && true) ≡ b
and_true true = refl
and_true false = refl

and_false : (b : Bool) → (b && false) ≡ false
and_false true = refl
and_false false = refl

and_assoc : (a b c : Bool) → (a && (b && c)) ≡ ((a && b) && c)
and_assoc true b c = refl
and_assoc false b c = refl

and_swap : (a b : Bool) → (a && b) ≡ (b && a)
and_swap true b = sym (and_true b)
and_swap false b = sym (and_false b)

counted : (w n : ℕ) (b : Bool) → w ≤ n → (nat_le w n && b) ≡ b
counted w n b h = ap (λ (x : Bool). x && b) (le-leb w n h)

eqb_up : (m n : ℕ) → eqb m n ≡ eqb (suc m) (suc n)
eqb_up m n = by (eqb m n) refl
  where
    by : (b : Bool) → eqb m n ≡ b → b ≡ eqb (suc m) (suc n)
    by true k = sym (eq-eqb (suc m) (suc n) (ap suc (eqb-true m n k)))
    by false k = sym (ne_eqb (suc m) (suc n) (λ e. eqb-false m n k (omega (arith, e))))

module _ (set : Set) where
  -- ---- local variables

  top_above : (t : VType) → assignable set t Top ≡ true
  top_above _ = refl

  one : (l t : VType) (ls us : List VType) (max : ℕ) → all_assignable set (l ∷ ls) (padded max (t ∷ us)) ≡ (assignable set l t && all_assignable set ls (padded (max - 1) us))
  one l t ls us max =
      let less : max - suc (length us) ≡ max - 1 - length us = omega arith in
      ap (λ (n : ℕ). assignable set l t && all_assignable set ls (us ++ replicate n Top)) less

  front : (xs : List VType) (t : VType) (ts : List VType) (max : ℕ) → all_assignable set xs (padded max (spread (t ∷ ts))) ≡ (nat_le (width t) (length xs) && (assignable set (get_or xs 0 Top) t && all_assignable set (drop (width t) xs) (padded (max - width t) (spread ts))))
  front [] Long ts max = refl
  front [] _ ts max = refl
  front (x ∷ []) Long ts max = and_false (assignable set x Long)
  front (x ∷ y ∷ xs) Long ts max =
      let less : max - 1 - 1 ≡ max - 2 = omega arith in
      one x Long (y ∷ xs) (Top ∷ spread ts) max
      ∙ ap (λ (b : Bool). assignable set x Long && b)
      (one y Top xs (spread ts) (max - 1) ∙ ap (λ (b : Bool). b && all_assignable set xs (padded (max - 1 - 1) (spread ts))) (top_above y)
      ∙ ap (λ (n : ℕ). all_assignable set xs (padded n (spread ts))) less)
      ∙ sym (counted 2 (length (x ∷ y ∷ xs)) (assignable set x Long && all_assignable set xs (padded (max - 2) (spread ts))) (omega arith))
  front (x ∷ xs) t ts max = one x t xs (spread ts) max ∙ sym (counted 1 (length (x ∷ xs)) (assignable set x t && all_assignable set xs (padded (max - 1) (spread ts))) (omega arith))

  within : (n at w : ℕ) → at ≤ n → nat_le w (n - at) ≡ nat_le (at + w) n
  within n at w h = grind arith

  -- the next of the given types
  next_given : (ls : List VType) (at : ℕ) (t : VType) (ts : List VType) (max : ℕ) → at ≤ length ls → all_assignable set (drop at ls) (padded (max - at) (spread (t ∷ ts))) ≡ (fits_at set ls at t && all_assignable set (drop (at + width t) ls) (padded (max - (at + width t)) (spread ts)))
  next_given ls at t ts max h =
      let here : get_or (drop at ls) 0 Top ≡ get_or ls at Top = get_or-drop at ls 0 Top ∙ ap (λ (n : ℕ). get_or ls n Top) (omega arith) in
      let less : max - at - width t ≡ max - (at + width t) = omega arith in
      front (drop at ls) t ts (max - at)
      ∙ ap (λ (n : ℕ). nat_le (width t) n && (assignable set (get_or (drop at ls) 0 Top) t && all_assignable set (drop (width t) (drop at ls)) (padded (max - at - width t) (spread ts)))) (length-drop at ls)
      ∙ ap (λ (b : Bool). b && (assignable set (get_or (drop at ls) 0 Top) t && all_assignable set (drop (width t) (drop at ls)) (padded (max - at - width t) (spread ts)))) (within (length ls) at (width t) h)
      ∙ ap (λ (l : VType). nat_le (at + width t) (length ls) && (assignable set l t && all_assignable set (drop (width t) (drop at ls)) (padded (max - at - width t) (spread ts)))) here
      ∙ ap (λ (xs : List VType). nat_le (at + width t) (length ls) && (assignable set (get_or ls at Top) t && all_assignable set xs (padded (max - at - width t) (spread ts)))) (drop-drop (width t) at ls)
      ∙ ap (λ (n : ℕ). nat_le (at + width t) (length ls) && (assignable set (get_or ls at Top) t && all_assignable set (drop (at + width t) ls) (padded n (spread ts)))) less
      ∙ and_assoc (nat_le (at + width t) (length ls)) (assignable set (get_or ls at Top) t) (all_assignable set (drop (at + width t) ls) (padded (max - (at + width t)) (spread ts)))

  all_top : (xs : List VType) (n : ℕ) → all_assignable set xs (replicate n Top) ≡ eqb (length xs) n
  all_top [] zero = refl
  all_top [] (suc n) = sym (ne_eqb 0 (suc n) (λ e. omega (arith, e)))
  all_top (x ∷ xs) zero = sym (ne_eqb (suc (length xs)) 0 (λ e. omega (arith, e)))
  all_top (x ∷ xs) (suc n) = ap (λ (b : Bool). b && all_assignable set xs (replicate n Top)) (top_above x) ∙ all_top xs n ∙ eqb_up (length xs) n

  -- behind the given types
  no_given : (ls : List VType) (at max : ℕ) → all_assignable set (drop at ls) (padded (max - at) (spread [])) ≡ eqb (length ls - at) (max - at)
  no_given ls at max =
      let same : max - at - 0 ≡ max - at = omega arith in
      ap (λ (n : ℕ). all_assignable set (drop at ls) (replicate n Top)) same ∙ all_top (drop at ls) (max - at) ∙ ap (λ (n : ℕ). eqb n (max - at)) (length-drop at ls)

  fits_front : (b c : Bool) → (b && c) ≡ true → b ≡ true
  fits_front true c e = refl
  fits_front false c e = absurd cc

  pub fits_within : (ls : List VType) (at : ℕ) (t : VType) → fits_at set ls at t ≡ true → at + width t ≤ length ls
  fits_within ls at t e = leb-true (at + width t) (length ls) (fits_front (nat_le (at + width t) (length ls)) (assignable set (get_or ls at Top) t) e)

  -- what is left to compare before the given type of a number
  abbrev pub left : List VType → ℕ → ℕ → List (Bor VType) → Bool
  left ls max at ts = all_assignable set (drop at ls) (padded (max - at) (spread (map (λ (t : Bor VType). t.now) ts)))

  cut : (ts : List (Bor VType)) (i : ℕ) (t : Bor VType) → t ≡ get_or ts i t → i < length ts → drop i ts ≡ t ∷ drop (i + 1) ts
  cut ts i t is lt = drop-cons ts i t lt ∙ ap (λ (u : Bor VType). u ∷ drop (suc i) ts) (sym is) ∙ ap (λ (n : ℕ). t ∷ drop n ts) (sym (add-one i))

  at_given : (ls : List VType) (max at : ℕ) (ts : List (Bor VType)) (i : ℕ) (t : Bor VType) → t ≡ get_or ts i t → i < length ts → at ≤ length ls → left ls max at (drop i ts) ≡ (fits_at set ls at t.now && left ls max (at + width t.now) (drop (i + 1) ts))
  at_given ls max at ts i t is lt h = ap (left ls max at) (cut ts i t is lt) ∙ next_given ls at t.now (map (λ (u : Bor VType). u.now) (drop (i + 1) ts)) max h

  pub misfit : (ls : List VType) (max at : ℕ) (ts : List (Bor VType)) (i : ℕ) (t : Bor VType) → t ≡ get_or ts i t → i < length ts → at ≤ length ls → fits_at set ls at t.now ≡ false → left ls max at (drop i ts) ≡ false
  misfit ls max at ts i t is lt h e = at_given ls max at ts i t is lt h ∙ ap (λ (b : Bool). b && left ls max (at + width t.now) (drop (i + 1) ts)) e

  pub fit : (ls : List VType) (max at w : ℕ) (ts : List (Bor VType)) (i : ℕ) (t : Bor VType) → t ≡ get_or ts i t → i < length ts → at ≤ length ls → fits_at set ls at t.now ≡ true → w ≡ width t.now → left ls max (at + w) (drop (i + 1) ts) ≡ left ls max at (drop i ts)
  fit ls max at w ts i t is lt h e wide =
      ap (λ (n : ℕ). left ls max (at + n) (drop (i + 1) ts)) wide
      ∙ sym (at_given ls max at ts i t is lt h ∙ ap (λ (b : Bool). b && left ls max (at + width t.now) (drop (i + 1) ts)) e)

  pub all_given : (ls : List VType) (max at : ℕ) (ts : List (Bor VType)) (i : ℕ) → length ts ≤ i → left ls max at (drop i ts) ≡ eqb (length ls - at) (max - at)
  all_given ls max at ts i le =
      let empty : drop i ts ≡ [] = nil_from_length (drop i ts) (omega (arith, length-drop i ts)) in
      ap (left ls max at) empty ∙ no_given ls at max

  -- ---- stacks

  next_pair : (xs ys : List VType) (i : ℕ) (d e : VType) → i < length xs → i < length ys → all_assignable set (drop i xs) (drop i ys) ≡ (assignable set (get_or xs i d) (get_or ys i e) && all_assignable set (drop (i + 1) xs) (drop (i + 1) ys))
  next_pair xs ys i d e lx ly =
      ap (λ (s : List VType). all_assignable set s (drop i ys)) (drop-cons xs i d lx) ∙ ap (all_assignable set (get_or xs i d ∷ drop (suc i) xs)) (drop-cons ys i e ly)
      ∙ ap (λ (n : ℕ). assignable set (get_or xs i d) (get_or ys i e) && all_assignable set (drop n xs) (drop n ys)) (sym (add-one i))

  last_pair : (xs ys : List VType) (x y : VType) → all_assignable set (xs ++ x ∷ []) (ys ++ y ∷ []) ≡ (all_assignable set xs ys && assignable set x y)
  last_pair [] [] x y = and_true (assignable set x y)
  last_pair [] (w ∷ ys) x y = unequal set (x ∷ []) ((w ∷ ys) ++ y ∷ []) (λ e. omega (arith, e, length-append ys (y ∷ [])))
  last_pair (v ∷ xs) [] x y = unequal set ((v ∷ xs) ++ x ∷ []) (y ∷ []) (λ e. omega (arith, e, length-append xs (x ∷ [])))
  last_pair (v ∷ xs) (w ∷ ys) x y = ap (λ (b : Bool). assignable set v w && b) (last_pair xs ys x y) ∙ and_assoc (assignable set v w) (all_assignable set xs ys) (assignable set x y)

  turned : (xs ys : List VType) → all_assignable set (reverse xs) (reverse ys) ≡ all_assignable set xs ys
  turned [] [] = refl
  turned [] (y ∷ ys) = unequal set [] (reverse (y ∷ ys)) (λ e. omega (arith, e, length-reverse (y ∷ ys)))
  turned (x ∷ xs) [] = unequal set (reverse (x ∷ xs)) [] (λ e. omega (arith, e, length-reverse (x ∷ xs)))
  turned (x ∷ xs) (y ∷ ys) =
      ap (λ (l : List VType). all_assignable set l (reverse (y ∷ ys))) (reverse-append (x ∷ []) xs) ∙ ap (all_assignable set (reverse xs ++ x ∷ [])) (reverse-append (y ∷ []) ys)
      ∙ last_pair (reverse xs) (reverse ys) x y ∙ ap (λ (b : Bool). b && assignable set x y) (turned xs ys)
      ∙ and_swap (all_assignable set xs ys) (assignable set x y)

  pub stack_is : (xs : List VerificationType) (ys : List VType) → all_assignable set (map type_of (reverse xs)) (reverse ys) ≡ all_assignable set (map type_of xs) ys
  stack_is xs ys = ap (λ (l : List VType). all_assignable set l (reverse ys)) (map_reverse xs) ∙ turned (map type_of xs) ys

  pub other_length : (xs : List VerificationType) (ys : List VType) → length xs ≢ length ys → all_assignable set (map type_of (reverse xs)) (reverse ys) ≡ false
  other_length xs ys h = stack_is xs ys ∙ unequal set (map type_of xs) ys (λ e. h (sym (length-map xs type_of) ∙ e))

  -- the pair at a place: what lies there, what is given there, and whether the one may be used as the other
  pub next_types : (xs : List VerificationType) (ys : List VType) (i : ℕ) (d : VerificationType) (y : VType) (given : VerificationType) (may : Bool) → i < length xs → length xs ≡ length ys → y ≡ get_or ys i y → type_of given ≡ y → may ≡ assignable set (type_of (get_or xs i d)) (type_of given) → all_assignable set (drop i (map type_of xs)) (drop i ys) ≡ (may && all_assignable set (drop (i + 1) (map type_of xs)) (drop (i + 1) ys))
  next_types xs ys i d y given may lt same is shows told =
      let here : get_or (map type_of xs) i Top ≡ type_of (get_or xs i d) = get_or-map type_of xs i d Top lt in
      let answer : assignable set (get_or (map type_of xs) i Top) (get_or ys i y) ≡ may = ap (λ (t : VType). assignable set t (get_or ys i y)) here ∙ ap (assignable set (type_of (get_or xs i d))) (sym is ∙ sym shows) ∙ sym told in
      next_pair (map type_of xs) ys i Top y (omega (arith, lt, length-map xs type_of)) (omega (arith, lt, same))
      ∙ ap (λ (b : Bool). b && all_assignable set (drop (i + 1) (map type_of xs)) (drop (i + 1) ys)) answer

  pub no_types : (xs : List VerificationType) (ys : List VType) (i : ℕ) → length xs ≤ i → length xs ≡ length ys → all_assignable set (drop i (map type_of xs)) (drop i ys) ≡ true
  no_types xs ys i le same =
      let left : drop i (map type_of xs) ≡ [] = nil_from_length (drop i (map type_of xs)) (omega (arith, le, length-drop i (map type_of xs), length-map xs type_of)) in
      let right : drop i ys ≡ [] = nil_from_length (drop i ys) (omega (arith, le, same, length-drop i ys)) in
      ap (λ (l : List VType). all_assignable set l (drop i ys)) left ∙ ap (all_assignable set []) right

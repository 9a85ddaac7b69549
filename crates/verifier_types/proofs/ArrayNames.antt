-- The names of arrays.
use Rattle.std.proofs.Common.{◌≡◌, ℕ, suc, ◌+◌, ◌-◌, ◌<◌, ◌≤◌, Bool, true, false, cond, eqb, List, [], ◌∷◌, length, take, drop, Some, None, refl, ap, ◌∙◌, nat_lt, position, arith}
use Rattle.std.specs.Prelude.{not}
use Rattle.std.specs.List.{position_or_len}
use Rattle.std.proofs.lemmas.Bool.{ltb-true, ltb-false}
use Rattle.class_file.specs.declared.class.Set.{Set}
use Rattle.class_file.specs.Classes.{element_of_class, class_number, without_last, array_name}

pub all_but_last : (xs : List ℕ) → take (length xs - 1) xs ≡ without_last xs
all_but_last [] = refl
all_but_last (x ∷ []) = refl
all_but_last (x ∷ y ∷ ys) =
    let n : suc (suc (length ys)) - 1 ≡ suc (length (y ∷ ys) - 1) = omega arith in
    ap (λ (k : ℕ). take k (x ∷ y ∷ ys)) n ∙ ap (λ (r : List ℕ). x ∷ r) (all_but_last (y ∷ ys))

abbrev opens : ℕ → Bool
opens u = not (eqb u 91)

pub leading_le : (xs : List ℕ) → position_or_len opens xs ≤ length xs
leading_le [] = omega arith
leading_le (u ∷ us) = by (eqb u 91) (leading_le us)
  where
    by : (b : Bool) → position_or_len opens us ≤ length us → cond (not (not b)) (1 + position_or_len opens us) 0 ≤ suc (length us)
    by true h = omega arith
    by false h = omega arith

-- how a position that is known came about
pub no_place : (xs : List ℕ) → position opens xs ≡ None → position_or_len opens xs ≡ length xs
no_place xs e = by (nat_lt (position_or_len opens xs) (length xs)) refl e
  where
    by : (b : Bool) → nat_lt (position_or_len opens xs) (length xs) ≡ b → cond b (Some (position_or_len opens xs)) None ≡ None → position_or_len opens xs ≡ length xs
    by true k h = absurd cc
    by false k h = omega (arith, ltb-false (position_or_len opens xs) (length xs) k, leading_le xs)

pub record Leads (xs : List ℕ) (d : ℕ) : Type 0 where
  pub is : position_or_len opens xs ≡ d
  pub within : d < length xs

pub a_place : (xs : List ℕ) (d : ℕ) → position opens xs ≡ Some d → Leads xs d
a_place xs d e = by (nat_lt (position_or_len opens xs) (length xs)) refl e
  where
    by : (b : Bool) → nat_lt (position_or_len opens xs) (length xs) ≡ b → cond b (Some (position_or_len opens xs)) None ≡ Some d → Leads xs d
    by true k h = let same : position_or_len opens xs ≡ d = cc in record { is = same; within = omega (arith, ltb-true (position_or_len opens xs) (length xs) k) }
    by false k h = absurd cc

module _ (set : Set) where
  -- nothing but brackets
  pub none_array : (xs : List ℕ) (k : ℕ) → position_or_len opens xs ≡ length xs → array_name set k xs ≡ None
  none_array [] k e = refl
  none_array (u ∷ us) k e = by (eqb u 91) (none_array us (k + 1)) e
    where
      by : (b : Bool) → (position_or_len opens us ≡ length us → array_name set (k + 1) us ≡ None) → cond (not (not b)) (1 + position_or_len opens us) 0 ≡ suc (length us) → cond b (array_name set (k + 1) us) (element_of_class (class_number set (without_last us)) k) ≡ None
      by true more h = more (omega arith)
      by false more h = absurd (omega arith)

  pub some_array : (xs : List ℕ) (k d : ℕ) → position_or_len opens xs ≡ d → d < length xs → array_name set k xs ≡ element_of_class (class_number set (without_last (drop (suc d) xs))) (k + d)
  some_array [] k d e h = absurd (omega arith)
  some_array (u ∷ us) k d e h = by (eqb u 91) (some_array us (k + 1) (position_or_len opens us) refl) e
    where
      by : (b : Bool) → (position_or_len opens us < length us → array_name set (k + 1) us ≡ element_of_class (class_number set (without_last (drop (suc (position_or_len opens us)) us))) (k + 1 + position_or_len opens us)) → cond (not (not b)) (1 + position_or_len opens us) 0 ≡ d → cond b (array_name set (k + 1) us) (element_of_class (class_number set (without_last us)) k) ≡ element_of_class (class_number set (without_last (drop d us))) (k + d)
      by true more q =
          let n = position_or_len opens us in
          let back : suc n ≡ d = omega arith in
          let sum : k + 1 + n ≡ k + d = omega arith in
          more (omega arith) ∙ ap (λ (j : ℕ). element_of_class (class_number set (without_last (drop j us))) (k + 1 + n)) back ∙ ap (element_of_class (class_number set (without_last (drop d us)))) sum
      by false more q =
          let sum : k ≡ k + d = omega arith in
          ap (λ (j : ℕ). element_of_class (class_number set (without_last (drop j us))) k) q ∙ ap (element_of_class (class_number set (without_last (drop d us)))) sum

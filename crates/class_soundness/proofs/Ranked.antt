-- Sets whose classes have rank: a class rank above the class of the set that is its superclass.
use Rattle.std.proofs.Common.{◌≡◌, ℕ, zero, suc, ◌+◌, ◌-◌, ◌<◌, Bool, true, false, cond, List, [], ◌∷◌, get_or, eqb, ◌≢◌, Option, Some, None, refl, sym, ap, subst, ◌∙◌, arith}
use Rattle.std.specs.Prelude.{slice_get, nat_lt, ◌&&◌}
use Rattle.std.proofs.lemmas.Bool.{ltb-true, ltb-false, eqb-true, eqb-false}
use Rattle.class_file.specs.declared.class.ClassFile.{ClassFile}
use Rattle.class_file.specs.declared.class.Set.{Set}
use Rattle.class_file.specs.Classes.{built_ins, viewed, class_number, number_of_place, superclass, superclass_in, class_count, object_name}
use Rattle.class_soundness.specs.Soundness.{IsFlat, FlatSetsHaveHeights, IsRanked, Heights}
use Rattle.class_soundness.proofs.Tests.{both_true}
use Rattle.class_soundness.proofs.Found.{text_same, none_is, some_same}
use Rattle.class_soundness.proofs.Loaded.{object_number}

-- how high the built-in classes stand: Object, classes and interfaces below it, and exceptions
abbrev table : List ℕ
table =
    0 ∷ 1 ∷ 1 ∷ 1 ∷ 1 ∷ 1 ∷ 1 ∷ 1 ∷ 2 ∷ 2 ∷ 3 ∷ 4 ∷ 5 ∷ 4 ∷ 4 ∷ 4 ∷ 4 ∷ 4 ∷ 4 ∷ 5 ∷ 4 ∷ 4 ∷ 3 ∷ 4 ∷ 4 ∷ 1 ∷ 1 ∷ 1
    ∷ 1 ∷ 1 ∷ 1 ∷ 1 ∷ 1 ∷ 1 ∷ 1 ∷ 1 ∷ 1 ∷ []

-- classes of a set stand above all built-in ones
abbrev height_of : (ℕ → ℕ) → ℕ → ℕ
height_of rank n = cond (nat_lt n 37) (get_or table n 0) (6 + rank (n - 37))

abbrev all_below : (ℕ → Bool) → ℕ → Bool
all_below p zero = true
all_below p (suc k) = p k && all_below p k

below_passes : (p : ℕ → Bool) (k n : ℕ) → all_below p k ≡ true → n < k → p n ≡ true
below_passes p zero n e lt = absurd (omega arith)
below_passes p (suc k) n e lt = by (eqb n k) refl (λ h. below_passes p k n (both_true (p k) (all_below p k) e).1 h)
  where
    by : (b : Bool) → eqb n k ≡ b → (n < k → p n ≡ true) → p n ≡ true
    by true h more = subst (λ (m : ℕ). p m ≡ true) (sym (eqb-true n k h)) (both_true (p k) (all_below p k) e).0
    by false h more = let apart = eqb-false n k h in more (smaller apart)
      where
        smaller : n ≢ k → n < k
        smaller apart = omega arith

abbrev stands_higher : (ℕ → ℕ) → ℕ → Option ℕ → Bool
stands_higher rank n None = true
stands_higher rank n (Some above) = nat_lt (height_of rank above) (height_of rank n)

all_stand : (set : Set) (rank : ℕ → ℕ) → all_below (λ (n : ℕ). stands_higher rank n (superclass set n)) 37 ≡ true
unfolding built_ins
all_stand set rank = refl

-- no built-in class stands higher than five steps
all_low : all_below (λ (n : ℕ). nat_lt (get_or table n 0) 6) 37 ≡ true
all_low = refl

module _ (set : Set) (rank : ℕ → ℕ) (ranked : IsRanked set rank) where
  abbrev height : ℕ → ℕ
  height = height_of rank

  built_in : (n : ℕ) → nat_lt n 37 ≡ true → height n < 6
  built_in n k =
      let low = ltb-true (get_or table n 0) 6 (below_passes (λ (n : ℕ). nat_lt (get_or table n 0) 6) 37 n all_low (ltb-true n 37 k)) in
      let is : height n ≡ get_or table n 0 = ap (λ (b : Bool). cond b (get_or table n 0) (6 + rank (n - 37))) k in
      omega (arith, low, is)

  own : (n : ℕ) → nat_lt n 37 ≡ false → height n ≡ 6 + rank (n - 37)
  own n k = ap (λ (b : Bool). cond b (get_or table n 0) (6 + rank (n - 37))) k

  built_in_higher : (n above : ℕ) → n < 37 → superclass set n ≡ Some above → height above < height n
  built_in_higher n above lt e = ltb-true (height above) (height n) (subst (λ (o : Option ℕ). stands_higher rank n o ≡ true) e (below_passes (λ (n : ℕ). stands_higher rank n (superclass set n)) 37 n (all_stand set rank) lt))

  -- the superclass of a class of the set is named by it
  record Above (n above : ℕ) : Type 0 where
    c : ClassFile
    there : slice_get set.classes (n - 37) ≡ Some c
    is : class_number set c.super_name ≡ Some above

  above_own : (n above : ℕ) → nat_lt n 37 ≡ false → superclass set n ≡ Some above → Above n above
  above_own n above far e = by (slice_get set.classes (n - 37)) refl (subst (λ (b : Bool). superclass_in set (cond b (slice_get built_ins n) (viewed (n - 37) (slice_get set.classes (n - 37)))) ≡ Some above) far e)
    where
      by : (o : Option ClassFile) → slice_get set.classes (n - 37) ≡ o → superclass_in set (viewed (n - 37) o) ≡ Some above → Above n above
      by None k e = absurd (none_is above e)
      by (Some c) k e = record { c = c; there = k; is = e }

  own_higher : (n above : ℕ) → nat_lt n 37 ≡ false → superclass set n ≡ Some above → height above < height n
  own_higher n above far e = by (nat_lt above 37) refl (above_own n above far e)
    where
      by : (b : Bool) → nat_lt above 37 ≡ b → Above n above → height above < height n
      by true k a = let low = built_in above k in let high = own n far in omega (arith, low, high)
      by false k a =
          let there : above ≡ number_of_place (above - 37) = let le = ltb-false above 37 k in omega (arith, le) in
          let less = ranked.higher (n - 37) (above - 37) a.c a.there (a.is ∙ ap (λ (m : ℕ). Some m) there) in
          let low = own above k in
          let high = own n far in
          omega (arith, less, low, high)

  higher : (n above : ℕ) → superclass set n ≡ Some above → height above < height n
  higher n above e = by (nat_lt n 37) refl
    where
      by : (b : Bool) → nat_lt n 37 ≡ b → height above < height n
      by true k = built_in_higher n above (ltb-true n 37 k) e
      by false k = own_higher n above k e

  bounded : (n : ℕ) → height n < class_count set
  bounded n = by (nat_lt n 37) refl
    where
      by : (b : Bool) → nat_lt n 37 ≡ b → height n < class_count set
      by true k = let low = built_in n k in omega (arith, low)
      by false k = let high = own n k in let few = ranked.few (n - 37) in omega (arith, high, few)

  pub ranked_heights : Heights set
  ranked_heights = record { height = height; higher = higher; bounded = bounded }

-- classes right below Object all have the rank 0
flat_ranked : (set : Set) → IsFlat set → IsRanked set (λ n. 0)
flat_ranked set flat = record {
  few = λ class. omega arith;
  higher = λ class above c k e.
      let is : 0 ≡ number_of_place above = some_same 0 (number_of_place above) (sym (ap (class_number set) (text_same c.super_name object_name (flat class c k)) ∙ object_number set) ∙ e) in
      absurd (omega (arith, is));
}

pub flat_heights : FlatSetsHaveHeights
flat_heights set flat = ranked_heights set (λ n. 0) (flat_ranked set flat)

-- What stands behind the front that a list begins with, by how much two lists have in common.
use Rattle.std.proofs.Common.{◌≡◌, ℕ, ◌+◌, ◌<◌, ◌≤◌, zero, suc, Bool, true, false, cond, List, [], ◌∷◌, ◌++◌, length, drop, map, Some, None, Bor, refl, sym, ap, subst, ◌∙◌, arith}
use Rattle.std.proofs.Math.ListN.{drop_of_length-le}
use Rattle.std.proofs.lemmas.List.{length-drop}
use Rattle.std.specs.List.{AllByRecursion, flat_map}
use Rattle.class_file.specs.declared.class.VType.{VType}
use Rattle.class_file.specs.declared.class.Frame.{Frame}
use Rattle.class_file.specs.Pools.{Slots}
use Rattle.class_file.specs.Fronts.{is_type, common_front}
use Rattle.std.proofs.lemmas.Bool.{le-ltb}
use Rattle.class_file.specs.WrittenClass.{behind, item_bytes, full_bytes, one_item_bytes, longer_bytes, type_bytes}
use Rattle.class_file.specs.InstrBytes.{u1, u2}
use Rattle.class_spelling.proofs.WritesFrames.{type_is_itself, same_type}
use Rattle.class_writer.specs.Fits.{IsSmall}

-- the types that are referred to
abbrev pub seen : List (Bor VType) → List VType
seen ks = map (λ (k : Bor VType). k.now) ks

turned_type : (t u : VType) → is_type t u ≡ true → is_type u t ≡ true
turned_type t u e = subst (λ (v : VType). is_type v t ≡ true) (same_type t u e) (type_is_itself t)

both_ways : (t u : VType) → is_type t u ≡ is_type u t
both_ways t u = by (is_type t u) (is_type u t) refl refl
  where
    by : (a b : Bool) → is_type t u ≡ a → is_type u t ≡ b → is_type t u ≡ is_type u t
    by true b e f = e ∙ sym (turned_type t u e)
    by false true e f = turned_type u t f ∙ sym f
    by false false e f = e ∙ sym f

pub common_both_ways : (ts us : List VType) → common_front ts us ≡ common_front us ts
common_both_ways [] [] = refl
common_both_ways [] (u ∷ us) = refl
common_both_ways (t ∷ ts) [] = refl
common_both_ways (t ∷ ts) (u ∷ us) =
    ap (λ (b : Bool). cond b (common_front ts us + 1) 0) (both_ways t u) ∙ ap (λ (n : ℕ). cond (is_type u t) (n + 1) 0) (common_both_ways ts us)

pub common_fits : (ts us : List VType) → common_front ts us ≤ length ts
common_fits [] us = omega arith
common_fits (t ∷ ts) [] = omega arith
common_fits (t ∷ ts) (u ∷ us) = by (is_type t u) (common_fits ts us)
  where
    by : (b : Bool) → common_front ts us ≤ length ts → cond b (common_front ts us + 1) 0 ≤ length (t ∷ ts)
    by true le = omega (arith, le)
    by false le = omega arith

-- a list that is all in common stands in front of the other
pub all_common : (ts us : List VType) → common_front ts us ≡ length ts → behind ts us ≡ Some (drop (length ts) us)
all_common [] us e = refl
all_common (t ∷ ts) [] e = absurd (omega (arith, e))
all_common (t ∷ ts) (u ∷ us) e = by (is_type t u) e (all_common ts us)
  where
    by : (b : Bool) → cond b (common_front ts us + 1) 0 ≡ length (t ∷ ts) → (common_front ts us ≡ length ts → behind ts us ≡ Some (drop (length ts) us)) → cond b (behind ts us) None ≡ Some (drop (length ts) us)
    by true k ih = ih (omega (arith, k))
    by false k ih = absurd (omega (arith, k))

-- and one that is not all in common doesn't
pub not_all_common : (ts us : List VType) → common_front ts us < length ts → behind ts us ≡ None
not_all_common [] us lt = absurd (omega (arith, lt))
not_all_common (t ∷ ts) [] lt = refl
not_all_common (t ∷ ts) (u ∷ us) lt = by (is_type t u) lt (not_all_common ts us)
  where
    by : (b : Bool) → cond b (common_front ts us + 1) 0 < length (t ∷ ts) → (common_front ts us < length ts → behind ts us ≡ None) → cond b (behind ts us) None ≡ None
    by true lt ih = ih (omega (arith, lt))
    by false lt ih = refl

pub small_drop : (n : ℕ) (ts : List VType) → AllByRecursion IsSmall ts → AllByRecursion IsSmall (drop n ts)
small_drop zero ts all = all
small_drop (suc n) [] all = tt
small_drop (suc n) (t ∷ ts) all = small_drop n ts all.1

pub too_much_longer : (slots : Slots) (delta : ℕ) (f : Frame) (more : List VType) → 4 ≤ length more → longer_bytes slots delta f more ≡ full_bytes slots delta f
too_much_longer slots delta f [] le = absurd (omega (arith, le))
too_much_longer slots delta f (t ∷ ts) le =
    ap (λ (b : Bool). cond b (u1 (251 + length (t ∷ ts)) ++ u2 delta ++ flat_map (type_bytes slots) (t ∷ ts)) (full_bytes slots delta f)) (le-ltb (length (t ∷ ts)) 4 le)

module _ (slots : Slots) (delta : ℕ) (f : Frame) (item : VType) where
  -- the short form is for a list that is the other one
  pub short_form : (ts us : List VType) → common_front ts us ≡ length ts → common_front ts us ≡ length us → one_item_bytes slots delta f item (behind ts us) ≡ item_bytes slots delta item
  short_form ts us all same =
      ap (one_item_bytes slots delta f item) (all_common ts us all ∙ ap Some (drop_of_length-le us (omega (arith, all, same))))

  pub no_front : (ts us : List VType) → common_front ts us < length ts → one_item_bytes slots delta f item (behind ts us) ≡ full_bytes slots delta f
  no_front ts us lt = ap (one_item_bytes slots delta f item) (not_all_common ts us lt)

  more_behind : (more : List VType) → 0 < length more → one_item_bytes slots delta f item (Some more) ≡ full_bytes slots delta f
  more_behind [] some = absurd (omega (arith, some))
  more_behind (t ∷ ts) some = refl

  pub only_front : (ts us : List VType) → common_front ts us ≡ length ts → common_front ts us < length us → one_item_bytes slots delta f item (behind ts us) ≡ full_bytes slots delta f
  only_front ts us all lt =
      ap (one_item_bytes slots delta f item) (all_common ts us all)
      ∙ more_behind (drop (length ts) us) (omega (arith, all, lt, length-drop (length ts) us))

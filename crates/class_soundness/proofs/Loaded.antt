-- What follows from what loading has looked at.
use Rattle.std.proofs.Common.{◌≡◌, ℕ, zero, suc, ◌-◌, ◌<◌, Bool, true, false, cond, List, [], ◌∷◌, Option, Some, None, refl, ap, ◌∙◌, arith, position, get_or}
use Rattle.std.specs.Prelude.{slice_get, ◌||◌, not, nat_lt}
use Rattle.std.specs.List.{list_all}
use Rattle.std.proofs.lemmas.Option.{slice_get-get_or}
use Rattle.std.proofs.lemmas.List.Quantifiers.{position-Some}
use Rattle.class_file.specs.declared.class.ClassFile.{ClassFile}
use Rattle.class_file.specs.declared.class.Set.{Set}
use Rattle.class_file.specs.Pools.{is_text}
use Rattle.class_file.specs.Classes.{ClassView, built_ins, class_at, viewed, class_number, superclass, superclass_in, number_in, or_none, chain, chain_up_to, class_count, object_class, object_name}
use Rattle.class_file.specs.Members.{is_interface_view}
use Rattle.class_soundness.specs.Soundness.{IsLoaded}
use Rattle.class_soundness.proofs.Found.{text_same, all_at}

abbrev is_object : Option (List ℕ) → Bool
is_object (Some name) = is_text name object_name
is_object None = false

-- an interface is right below Object
abbrev is_usual : ClassView → Bool
is_usual c = not c.is_interface || is_object c.super

all_usual : list_all is_usual built_ins ≡ true
unfolding built_ins
all_usual = refl

pub object_number : (set : Set) → class_number set object_name ≡ Some object_class
unfolding built_ins
object_number set = refl

-- the element at the first place that passes
pub record Stands {X : Type 0} (p : X → Bool) (xs : List X) (i : ℕ) : Type 0 where
  pub x : X
  pub at : slice_get xs i ≡ Some x
  pub passes : p x ≡ true

pub stands : {X : Type 0} (p : X → Bool) (xs : List X) (i : ℕ) → position p xs ≡ Some i → Stands p xs i
stands p [] i e = absurd cc
stands p (x ∷ xs) i e =
    let f = position-Some p (x ∷ xs) i x e in
    record { x = get_or (x ∷ xs) i x; at = slice_get-get_or (x ∷ xs) i x f.0; passes = f.1 }

implied : (a b : Bool) → a ≡ true → (not a || b) ≡ true → b ≡ true
implied true b h e = e
implied false b h e = absurd cc

module _ (set : Set) (loaded : IsLoaded set) where
  -- ---- interfaces

  object_above : (o : Option (List ℕ)) → is_object o ≡ true → number_in set o ≡ Some object_class
  object_above None e = absurd cc
  object_above (Some name) e = ap (class_number set) (text_same name object_name e) ∙ object_number set

  pub interfaces : (n : ℕ) → is_interface_view (class_at set n) ≡ true → superclass set n ≡ Some object_class
  interfaces n e = by_number (nat_lt n 37) e
    where
      by_view : (o : Option ClassView) → slice_get built_ins n ≡ o → is_interface_view o ≡ true → superclass_in set o ≡ Some object_class
      by_view None k e = absurd cc
      by_view (Some c) k e =
          object_above c.super (implied c.is_interface (is_object c.super) e (all_at is_usual built_ins n c all_usual k))

      by_file : (o : Option ClassFile) → slice_get set.classes (n - 37) ≡ o → is_interface_view (viewed (n - 37) o) ≡ true → superclass_in set (viewed (n - 37) o) ≡ Some object_class
      by_file None k e = absurd cc
      by_file (Some c) k e = object_above (Some c.super_name) (loaded.interfaces (n - 37) c k e)

      by_number : (b : Bool) → is_interface_view (cond b (slice_get built_ins n) (viewed (n - 37) (slice_get set.classes (n - 37)))) ≡ true → superclass_in set (cond b (slice_get built_ins n) (viewed (n - 37) (slice_get set.classes (n - 37)))) ≡ Some object_class
      by_number true e = by_view (slice_get built_ins n) refl e
      by_number false e = by_file (slice_get set.classes (n - 37)) refl e

  -- ---- chains

  same_chain : (k j n : ℕ) → loaded.heights.height n < k → loaded.heights.height n < j → chain_up_to k set n ≡ chain_up_to j set n
  same_chain zero j n p q = absurd (omega arith)
  same_chain (suc k) zero n p q = absurd (omega arith)
  same_chain (suc k) (suc j) n p q = by (λ m. same_chain k j m) (superclass set n) refl
    where
      by : ((m : ℕ) → loaded.heights.height m < k → loaded.heights.height m < j → chain_up_to k set m ≡ chain_up_to j set m) → (o : Option ℕ) → superclass set n ≡ o → n ∷ or_none o (chain_up_to k set) ≡ n ∷ or_none o (chain_up_to j set)
      by more None e = refl
      by more (Some m) e = let lower = loaded.heights.higher n m e in ap (λ (ns : List ℕ). n ∷ ns) (more m (omega arith) (omega arith))

  -- a chain is a class and the chain of its superclass
  pub whole : (n : ℕ) → chain set n ≡ n ∷ or_none (superclass set n) (chain set)
  whole n = by (superclass set n)
    where
      by : (o : Option ℕ) → n ∷ or_none o (chain_up_to (class_count set) set) ≡ n ∷ or_none o (chain set)
      by None = refl
      by (Some m) = let low = loaded.heights.bounded m in ap (λ (ns : List ℕ). n ∷ ns) (same_chain (class_count set) (suc (class_count set)) m (omega arith) (omega arith))

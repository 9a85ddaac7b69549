-- Superclasses, and which types only texts are of.
use Rattle.std.proofs.Common.{◌≡◌, ℕ, zero, suc, Bool, true, false, List, [], ◌∷◌, Option, Some, None, refl, sym, ap, subst, ◌∙◌, eqb, eq-eqb}
use Rattle.std.specs.Prelude.{codes, ◌&&◌, ◌||◌}
use Rattle.std.proofs.lemmas.Bool.{eqb-true}
use Rattle.class_file.specs.declared.class.VType.{VType}
use Rattle.class_file.specs.declared.class.VType.TheVariants as vtype
use Rattle.class_file.specs.declared.class.Set.{Set}
use Rattle.class_file.specs.Pools.{is_text}
use Rattle.class_file.specs.Classes.{Element, built_ins, class_at, superclass, or_none, chain, chain_up_to, class_count, named_type}
use Rattle.class_file.specs.Members.{assignable, reference_below, below_element, element_below, is_interface_view, is_root, is_member, is_zero}
use Rattle.class_soundness.specs.Soundness.{IsLoaded}
use Rattle.class_soundness.proofs.Loaded.{whole, interfaces}
use Rattle.class_soundness.proofs.Found.{text_same}

abbrev pub text_name : List ℕ
text_name = codes "java/lang/String"

-- only texts, and null, are of this type
abbrev pub is_text_type : Set → List ℕ → Bool
is_text_type set name = reference_below set name text_name

abbrev throwable_name : List ℕ
throwable_name = codes "java/lang/Throwable"

-- either of two tests
data Either (a b : Bool) : Type 0 where
  First : a ≡ true → Either a b
  Second : b ≡ true → Either a b

either : (a b : Bool) → (a || b) ≡ true → Either a b
either true b e = First refl
either false b e = Second e

or_left : (a b : Bool) → a ≡ true → (a || b) ≡ true
or_left true b e = refl
or_left false b e = absurd cc

pub or_right : (a b : Bool) → b ≡ true → (a || b) ≡ true
or_right true b e = refl
or_right false b e = e

not_both : (b : Bool) → b ≡ true → b ≡ false → ⊥
not_both true e f = cc
not_both false e f = cc

-- ---- what is so in every set

text_number : (set : Set) → named_type set text_name ≡ Some (record { class = 1; dimensions = 0 })
unfolding built_ins
text_number set = refl

throwable_number : (set : Set) → named_type set throwable_name ≡ Some (record { class = 7; dimensions = 0 })
unfolding built_ins
throwable_number set = refl

text_is_no_root : (set : Set) → is_root set 1 ≡ false
unfolding built_ins
text_is_no_root set = refl

throwable_is_no_root : (set : Set) → is_root set 7 ≡ false
unfolding built_ins
throwable_is_no_root set = refl

above_object : (set : Set) → superclass set 0 ≡ None
unfolding built_ins
above_object set = refl

above_text : (set : Set) → superclass set 1 ≡ Some 0
unfolding built_ins
above_text set = refl

above_throwable : (set : Set) → superclass set 7 ≡ Some 0
unfolding built_ins
above_throwable set = refl

module _ (set : Set) (loaded : IsLoaded set) where
  -- ---- membership in chains

  object_chain : chain set 0 ≡ 0 ∷ []
  object_chain = ap (λ (o : Option ℕ). 0 ∷ or_none o (chain_up_to (class_count set) set)) (above_object set)

  pub below_object : (n : ℕ) → superclass set n ≡ Some 0 → chain set n ≡ n ∷ 0 ∷ []
  below_object n e = whole set loaded n ∙ ap (λ (o : Option ℕ). n ∷ or_none o (chain set)) e ∙ ap (λ (ns : List ℕ). n ∷ ns) object_chain

  -- what is above a class's superclass is above the class
  further : (a n : ℕ) (o : Option ℕ) → superclass set n ≡ o → is_member a (or_none o (chain set)) ≡ true → is_member a (chain set n) ≡ true
  further a n o k e = ap (is_member a) (whole set loaded n ∙ ap (λ (o : Option ℕ). n ∷ or_none o (chain set)) k) ∙ or_right (eqb n a) (is_member a (or_none o (chain set))) e

  itself : (n : ℕ) → is_member n (chain set n) ≡ true
  itself n = by (eqb n n) (eq-eqb n n refl)
    where
      by : (b : Bool) → b ≡ true → (b || is_member n (or_none (superclass set n) (chain_up_to (class_count set) set))) ≡ true
      by true e = refl
      by false e = absurd cc

  -- the first so many of a chain are in it
  in_chain : (k a n : ℕ) → is_member a (chain_up_to k set n) ≡ true → is_member a (chain set n) ≡ true
  in_chain zero a n e = absurd cc
  in_chain (suc k) a n e = by (either (eqb n a) (is_member a (or_none (superclass set n) (chain_up_to k set))) e) (λ m. in_chain k a m)
    where
      above : ((m : ℕ) → is_member a (chain_up_to k set m) ≡ true → is_member a (chain set m) ≡ true) → (o : Option ℕ) → is_member a (or_none o (chain_up_to k set)) ≡ true → is_member a (or_none o (chain set)) ≡ true
      above more None e = e
      above more (Some m) e = more m e

      by : Either (eqb n a) (is_member a (or_none (superclass set n) (chain_up_to k set))) → ((m : ℕ) → is_member a (chain_up_to k set m) ≡ true → is_member a (chain set m) ≡ true) → is_member a (chain set n) ≡ true
      by (First e) more = subst (λ (b : ℕ). is_member b (chain set n) ≡ true) (eqb-true n a e) (itself n)
      by (Second e) more = further a n (superclass set n) refl (above more (superclass set n) e)

  -- what is above a class of a chain is in the chain
  through : (k a y n : ℕ) → is_member y (chain_up_to k set n) ≡ true → is_member a (chain set y) ≡ true → is_member a (chain set n) ≡ true
  through zero a y n e h = absurd cc
  through (suc k) a y n e h = by (either (eqb n y) (is_member y (or_none (superclass set n) (chain_up_to k set))) e) (λ m g. through k a y m g h)
    where
      above : ((m : ℕ) → is_member y (chain_up_to k set m) ≡ true → is_member a (chain set m) ≡ true) → (o : Option ℕ) → is_member y (or_none o (chain_up_to k set)) ≡ true → is_member a (or_none o (chain set)) ≡ true
      above more None e = absurd cc
      above more (Some m) e = more m e

      by : Either (eqb n y) (is_member y (or_none (superclass set n) (chain_up_to k set))) → ((m : ℕ) → is_member y (chain_up_to k set m) ≡ true → is_member a (chain set m) ≡ true) → is_member a (chain set n) ≡ true
      by (First e) more = subst (λ (b : ℕ). is_member a (chain set b) ≡ true) (sym (eqb-true n y e)) h
      by (Second e) more = further a n (superclass set n) refl (above more (superclass set n) e)

  -- of two classes of a chain one is above the other
  ordered : (k a b n : ℕ) → is_member a (chain_up_to k set n) ≡ true → is_member b (chain_up_to k set n) ≡ true → Either (is_member a (chain set b)) (is_member b (chain set a))
  ordered zero a b n e h = absurd cc
  ordered (suc k) a b n e h =
      by (either (eqb n a) (is_member a (or_none (superclass set n) (chain_up_to k set))) e) (either (eqb n b) (is_member b (or_none (superclass set n) (chain_up_to k set))) h) (λ m f g. ordered k a b m f g)
    where
      above : ((m : ℕ) → is_member a (chain_up_to k set m) ≡ true → is_member b (chain_up_to k set m) ≡ true → Either (is_member a (chain set b)) (is_member b (chain set a)))
          → (o : Option ℕ) → is_member a (or_none o (chain_up_to k set)) ≡ true → is_member b (or_none o (chain_up_to k set)) ≡ true → Either (is_member a (chain set b)) (is_member b (chain set a))
      above more None e h = absurd cc
      above more (Some m) e h = more m e h

      by : Either (eqb n a) (is_member a (or_none (superclass set n) (chain_up_to k set))) → Either (eqb n b) (is_member b (or_none (superclass set n) (chain_up_to k set)))
          → ((m : ℕ) → is_member a (chain_up_to k set m) ≡ true → is_member b (chain_up_to k set m) ≡ true → Either (is_member a (chain set b)) (is_member b (chain set a))) → Either (is_member a (chain set b)) (is_member b (chain set a))
      by (First x) y more = Second (subst (λ (c : ℕ). is_member b (chain set c) ≡ true) (eqb-true n a x) (in_chain (suc k) b n h))
      by (Second x) (First y) more = First (subst (λ (c : ℕ). is_member a (chain set c) ≡ true) (eqb-true n b y) (in_chain (suc k) a n e))
      by (Second x) (Second y) more = above more (superclass set n) x y

  -- ---- references below references

  zero_is : (m : ℕ) (b : Bool) → (is_zero m && b) ≡ true → b ≡ true
  zero_is zero b e = e
  zero_is (suc m) b e = absurd cc

  -- a class below another that is no root is so by its chain
  by_chain : (x m y : ℕ) → is_root set y ≡ false → element_below set x m y 0 ≡ true → is_member y (chain set x) ≡ true
  by_chain x m y r e = zero_is m (is_member y (chain set x)) (subst (λ (b : Bool). (b || (is_zero m && is_member y (chain set x))) ≡ true) r e)

  zero_so : (m : ℕ) (b : Bool) → (is_zero m && b) ≡ true → m ≡ 0
  zero_so zero b e = refl
  zero_so (suc m) b e = absurd cc

  -- what is above a root is one
  root_above : (y z : ℕ) → is_root set y ≡ true → is_member z (chain set y) ≡ true → is_root set z ≡ true
  root_above y z r e = by (either (eqb y 0) (is_interface_view (class_at set y)) r)
    where
      object : Either (eqb 0 z) false → is_root set z ≡ true
      object (First k) = subst (λ (n : ℕ). is_root set n ≡ true) (eqb-true 0 z k) refl
      object (Second k) = absurd cc

      above : Either (eqb y z) (eqb 0 z || false) → is_root set z ≡ true
      above (First k) = subst (λ (n : ℕ). is_root set n ≡ true) (eqb-true y z k) r
      above (Second k) = object (either (eqb 0 z) false k)

      by : Either (eqb y 0) (is_interface_view (class_at set y)) → is_root set z ≡ true
      by (First k) = object (either (eqb 0 z) false (subst (λ (ns : List ℕ). is_member z ns ≡ true) (ap (chain set) (eqb-true y 0 k) ∙ object_chain) e))
      by (Second k) = above (either (eqb y z) (eqb 0 z || false) (subst (λ (ns : List ℕ). is_member z ns ≡ true) (below_object y (interfaces set loaded y k)) e))

  class_through : (x m y d z : ℕ) → element_below set x m y d ≡ true → element_below set y d z 0 ≡ true → element_below set x m z 0 ≡ true
  class_through x m y d z e h = by (either (is_root set z) (is_zero d && is_member z (chain set y)) h)
    where
      in_class : m ≡ 0 → is_member z (chain set x) ≡ true → element_below set x m z 0 ≡ true
      in_class k q = ap (λ (i : ℕ). element_below set x i z 0) k ∙ or_right (is_root set z) (is_member z (chain set x)) q

      by_class : is_member z (chain set y) ≡ true → Either (is_root set y) (is_zero m && is_member y (chain set x)) → element_below set x m z 0 ≡ true
      by_class q (First r) = or_left (is_root set z) (is_zero m && is_member z (chain set x)) (root_above y z r q)
      by_class q (Second p) = in_class (zero_so m (is_member y (chain set x)) p) (through (suc (class_count set)) z y x (zero_is m (is_member y (chain set x)) p) q)

      at_zero : (d : ℕ) → d ≡ 0 → element_below set x m y d ≡ true → element_below set x m y 0 ≡ true
      at_zero d k e = subst (λ (i : ℕ). element_below set x m y i ≡ true) k e

      by : Either (is_root set z) (is_zero d && is_member z (chain set y)) → element_below set x m z 0 ≡ true
      by (First r) = or_left (is_root set z) (is_zero m && is_member z (chain set x)) r
      by (Second q) = by_class (zero_is d (is_member z (chain set y)) q) (either (is_root set y) (is_zero m && is_member y (chain set x)) (at_zero d (zero_so d (is_member z (chain set y)) q) e))

  element_through : (x m y d z n : ℕ) → element_below set x m y d ≡ true → element_below set y d z n ≡ true → element_below set x m z n ≡ true
  element_through x m y d z zero e h = class_through x m y d z e h
  element_through x m y zero z (suc n) e h = absurd cc
  element_through x zero y (suc d) z (suc n) e h = absurd cc
  element_through x (suc m) y (suc d) z (suc n) e h = element_through x m y d z n e h

  elements_through : (a b c : Option Element) → below_element set a b ≡ true → below_element set b c ≡ true → below_element set a c ≡ true
  elements_through None b c e h = absurd cc
  elements_through (Some x) None c e h = absurd cc
  elements_through (Some x) (Some y) None e h = absurd cc
  elements_through (Some x) (Some y) (Some z) e h = element_through x.class x.dimensions y.class y.dimensions z.class z.dimensions e h

  -- what is below a type is below what that is below
  pub reference_through : (a b c : List ℕ) → reference_below set a b ≡ true → reference_below set b c ≡ true → reference_below set a c ≡ true
  reference_through a b c e h =
      by (either (is_text a b) (below_element set (named_type set a) (named_type set b)) e) (either (is_text b c) (below_element set (named_type set b) (named_type set c)) h)
    where
      by : Either (is_text a b) (below_element set (named_type set a) (named_type set b)) → Either (is_text b c) (below_element set (named_type set b) (named_type set c)) → reference_below set a c ≡ true
      by (First k) q = subst (λ (n : List ℕ). reference_below set n c ≡ true) (sym (text_same a b k)) h
      by (Second k) (First q) = subst (λ (n : List ℕ). reference_below set a n ≡ true) (text_same b c q) e
      by (Second k) (Second q) = or_right (is_text a c) (below_element set (named_type set a) (named_type set c)) (elements_through (named_type set a) (named_type set b) (named_type set c) k q)

  -- a type below one that only texts are of is one too
  pub text_below : (b c : List ℕ) → reference_below set b c ≡ true → is_text_type set c ≡ true → is_text_type set b ≡ true
  text_below b c e h = reference_through b c text_name e h

  pub assignable_through : (t u v : VType) → assignable set t u ≡ true → assignable set u v ≡ true → assignable set t v ≡ true
  assignable_through t u vtype.Top e h = refl
  assignable_through t vtype.Integer vtype.Integer e h = e
  assignable_through t _ vtype.Integer e h = absurd cc
  assignable_through t vtype.Long vtype.Long e h = e
  assignable_through t _ vtype.Long e h = absurd cc
  assignable_through t vtype.Null vtype.Null e h = e
  assignable_through t _ vtype.Null e h = absurd cc
  assignable_through t vtype.UninitializedThis vtype.UninitializedThis e h = e
  assignable_through t _ vtype.UninitializedThis e h = absurd cc
  assignable_through t (vtype.Uninitialized p) (vtype.Uninitialized q) e h = subst (λ (n : ℕ). assignable set t (vtype.Uninitialized n) ≡ true) (eqb-true p q h) e
  assignable_through t _ (vtype.Uninitialized q) e h = absurd cc
  assignable_through vtype.Null vtype.Null (vtype.Object c) e h = refl
  assignable_through _ vtype.Null (vtype.Object c) e h = absurd cc
  assignable_through vtype.Null (vtype.Object b) (vtype.Object c) e h = refl
  assignable_through (vtype.Object a) (vtype.Object b) (vtype.Object c) e h = reference_through a b c e h
  assignable_through _ (vtype.Object b) (vtype.Object c) e h = absurd cc
  assignable_through t _ (vtype.Object c) e h = absurd cc

  -- ---- what can be thrown is no text

  apart_classes : (x m d : ℕ) → element_below set x m 7 0 ≡ true → element_below set x d 1 0 ≡ true → ⊥
  apart_classes x m d e h = by (ordered (suc (class_count set)) 7 1 x (by_chain x m 7 (throwable_is_no_root set) e) (by_chain x d 1 (text_is_no_root set) h))
    where
      apart : (let b : Bool = false in b) ≡ true → ⊥
      apart e = cc

      by : Either (is_member 7 (chain set 1)) (is_member 1 (chain set 7)) → ⊥
      by (First e) = apart (subst (λ (ns : List ℕ). is_member 7 ns ≡ true) (below_object 1 (above_text set)) e)
      by (Second e) = apart (subst (λ (ns : List ℕ). is_member 1 ns ≡ true) (below_object 7 (above_throwable set)) e)

  apart_elements : (o : Option Element) → below_element set o (Some (record { class = 7; dimensions = 0 })) ≡ true → below_element set o (Some (record { class = 1; dimensions = 0 })) ≡ true → ⊥
  apart_elements None e h = absurd cc
  apart_elements (Some x) e h = apart_classes x.class x.dimensions x.dimensions e h

  self_below : (n : ℕ) → element_below set n 0 n 0 ≡ true
  self_below n = or_right (is_root set n) (is_member n (chain set n)) (itself n)

  as_element : (name wanted : List ℕ) (n : ℕ) → named_type set wanted ≡ Some (record { class = n; dimensions = 0 }) → reference_below set name wanted ≡ true → below_element set (named_type set name) (Some (record { class = n; dimensions = 0 })) ≡ true
  as_element name wanted n k e = by (either (is_text name wanted) (below_element set (named_type set name) (named_type set wanted)) e)
    where
      by : Either (is_text name wanted) (below_element set (named_type set name) (named_type set wanted)) → below_element set (named_type set name) (Some (record { class = n; dimensions = 0 })) ≡ true
      by (First q) = subst (λ (o : Option Element). below_element set o (Some (record { class = n; dimensions = 0 })) ≡ true) (sym (ap (named_type set) (text_same name wanted q) ∙ k)) (self_below n)
      by (Second q) = subst (λ (o : Option Element). below_element set (named_type set name) o ≡ true) k q

  pub thrown_no_text : (name : List ℕ) → reference_below set name throwable_name ≡ true → is_text_type set name ≡ true → ⊥
  thrown_no_text name e h = apart_elements (named_type set name) (as_element name throwable_name 7 (throwable_number set) e) (as_element name text_name 1 (text_number set) h)

  -- ---- boxes are no texts

  number_no_text : (n : ℕ) → superclass set n ≡ Some 0 → eqb n 1 ≡ false → element_below set n 0 1 0 ≡ true → ⊥
  number_no_text n k d e = apart (eqb n 1) d (subst (λ (ns : List ℕ). is_member 1 ns ≡ true) (below_object n k) (by_chain n 0 1 (text_is_no_root set) e))
    where
      apart : (b : Bool) → b ≡ false → (b || false) ≡ true → ⊥
      apart true e f = absurd cc
      apart false e f = cc

  pub box_no_text : (name : List ℕ) (n : ℕ) → named_type set name ≡ Some (record { class = n; dimensions = 0 }) → superclass set n ≡ Some 0 → eqb n 1 ≡ false → is_text_type set name ≡ true → ⊥
  box_no_text name n k a d h = number_no_text n a d (subst (λ (o : Option Element). below_element set o (Some (record { class = 1; dimensions = 0 })) ≡ true) k (as_element name text_name 1 (text_number set) h))

-- The static methods that classes of a set have themselves are those that their names stand for.
use Rattle.std.proofs.Common.{◌≡◌, ℕ, suc, ◌+◌, ◌-◌, List, [], ◌∷◌, ◌++◌, Option, Some, None, Bool, true, false, refl, sym, ap, ◌∙◌, arith, cond, if◌then◌else◌}
use Rattle.std.specs.Prelude.{slice_get, position, ◌&&◌, nat_lt}
use Rattle.std.specs.List.{find, position_from}
use Rattle.std.specs.Option.{option_map}
use Rattle.std.proofs.lemmas.Bool.{le-ltb}
use Rattle.std.proofs.lemmas.Iterator.Adapters.{position_from-zero}
use Rattle.class_file.specs.declared.class.Set.{Set}
use Rattle.class_file.specs.declared.class.ClassFile.{ClassFile}
use Rattle.class_file.specs.declared.class.Method.{Method}
use Rattle.class_file.specs.Pools.{is_text}
use Rattle.std.specs.Prelude.{codes}
use Rattle.class_file.specs.Classes.{ClassView, MethodView, built_ins, built_in_count, number_of_place, is_static_flag, method_view, method_views, methods_in, is_method, class_view, viewed, class_at, class_named, class_number, or_else, own_method, named_method, first_method, found_in, chain, chain_up_to, class_count, superclass, or_none, supertypes}
use Rattle.class_file.specs.Lots.{static_named}

-- the static method at a place, as the definition sees it
abbrev pub seen_at : ℕ → List Method → Option ℕ → Option MethodView
seen_at class methods None = None
seen_at class methods (Some place) = option_map (method_view class place) (slice_get methods place)

module _ (name descriptor : List ℕ) (class : ℕ) (all : List Method) where
  abbrev test : Method → Bool
  test x = is_static_flag x.flags && (is_text x.name name && is_text x.descriptor descriptor)

  -- the methods from a place on
  own_from : (k : ℕ) (ms : List Method) → ((i : ℕ) → slice_get all (k + i) ≡ slice_get ms i) → find (is_method true name descriptor) (method_views class k ms) ≡ seen_at class all (position_from test k ms)
  own_from k [] h = refl
  own_from k (m ∷ ms) h = by (test m) refl (own_from (k + 1) ms (λ i. let n : (k + 1) + i ≡ k + suc i = omega arith in ap (slice_get all) n ∙ h (suc i)))
    where
      here : slice_get all k ≡ Some m
      here = let z : k ≡ k + 0 = omega arith in ap (slice_get all) z ∙ h 0

      by : (b : Bool) → test m ≡ b → find (is_method true name descriptor) (method_views class (k + 1) ms) ≡ seen_at class all (position_from test (k + 1) ms)
          → find (is_method true name descriptor) (method_views class k (m ∷ ms)) ≡ seen_at class all (position_from test k (m ∷ ms))
      by true e more =
          ap (λ (b : Bool). if b then Some (method_view class k m) else find (is_method true name descriptor) (method_views class (k + 1) ms)) e
          ∙ sym (ap (option_map (method_view class k)) here)
          ∙ sym (ap (λ (b : Bool). seen_at class all (cond b (Some k) (position_from test (k + 1) ms))) e)
      by false e more =
          ap (λ (b : Bool). if b then Some (method_view class k m) else find (is_method true name descriptor) (method_views class (k + 1) ms)) e
          ∙ more ∙ sym (ap (λ (b : Bool). seen_at class all (cond b (Some k) (position_from test (k + 1) ms))) e)

  pub own_seen : find (is_method true name descriptor) (method_views class 0 all) ≡ seen_at class all (static_named name descriptor all)
  own_seen =
      own_from 0 all (λ i. let z : 0 + i ≡ i = omega arith in ap (slice_get all) z)
      ∙ sym (ap (seen_at class all) (position_from-zero test all))

-- the number of a class of the set is behind those of the built-in ones
pub not_built_in : (k : ℕ) → nat_lt (number_of_place k) built_in_count ≡ false
not_built_in k = le-ltb (number_of_place k) built_in_count (omega arith)

pub place_of_number : (k : ℕ) → number_of_place k - built_in_count ≡ k
place_of_number k = omega arith

pub view_there : (set : Set) (class : ℕ) (c : ClassFile) → slice_get set.classes class ≡ Some c → class_at set (number_of_place class) ≡ Some (class_view class c)
view_there set class c e =
    ap (λ (b : Bool). if b then slice_get built_ins (number_of_place class) else viewed (number_of_place class - built_in_count) (slice_get set.classes (number_of_place class - built_in_count))) (not_built_in class)
    ∙ ap (λ (k : ℕ). viewed k (slice_get set.classes k)) (place_of_number class)
    ∙ ap (viewed class) e

-- a class of the set that goes by no built-in class's name
pub numbered : (set : Set) (name : List ℕ) (class : ℕ) → position (λ (c : ClassView). is_text c.name name) built_ins ≡ None → class_named name set.classes ≡ Some class → class_number set name ≡ Some (number_of_place class)
numbered set name class own named =
    ap (λ (o : Option ℕ). or_else o (option_map number_of_place (class_named name set.classes))) own
    ∙ ap (option_map number_of_place) named

module _ (set : Set) (name descriptor : List ℕ) (class place : ℕ) (c : ClassFile) (m : Method) (there : slice_get set.classes class ≡ Some c) (place_is : static_named name descriptor c.methods ≡ Some place) (method_is : slice_get c.methods place ≡ Some m) where
  abbrev number : ℕ
  number = number_of_place class

  own_static : own_method set true name descriptor number ≡ Some (method_view class place m)
  own_static =
      ap (λ (o : Option ClassView). find (is_method true name descriptor) (methods_in o)) (view_there set class c there)
      ∙ own_seen name descriptor class c.methods
      ∙ ap (seen_at class c.methods) place_is
      ∙ ap (option_map (method_view class place)) method_is

  abbrev above : List ℕ
  above = or_none (superclass set number) (chain_up_to (class_count set) set) ++ supertypes set number

  -- what a name in the class stands for
  pub named_static : is_text name (codes "<init>") ≡ false → named_method set true name descriptor number ≡ Some (record { class = number; method = method_view class place m })
  named_static usual =
      ap (λ (b : Bool). first_method set true name descriptor (if b then number ∷ [] else chain set number ++ supertypes set number)) usual
      ∙ ap (λ (o : Option MethodView). found_in number o (first_method set true name descriptor above)) own_static

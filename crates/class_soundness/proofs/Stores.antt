-- The values of static fields are of their fields' types.
use Rattle.std.proofs.Common.{◌≡◌, ◌≢◌, ℕ, zero, suc, ◌+◌, ◌-◌, ◌<◌, Bool, true, false, cond, List, [], ◌∷◌, Option, Some, None, refl, sym, ap, subst, ◌∙◌, arith, eqb}
use Rattle.std.specs.Prelude.{slice_get, slice_set, codes, ◌&&◌, nat_lt, map}
use Rattle.std.specs.List.{list_all, filter}
use Rattle.std.specs.Option.{option_map}
use Rattle.std.proofs.lemmas.Option.{slice_get-map, slice_get_within}
use Rattle.std.proofs.lemmas.Bool.{ltb-true, ltb-false, eqb-true, eqb-false}
use Rattle.class_file.specs.declared.value.Value.{Value}
use Rattle.class_file.specs.declared.value.Value.TheVariants.{Ref}
use Rattle.class_file.specs.declared.class.ClassFile.{ClassFile}
use Rattle.class_file.specs.declared.class.Field.{Field}
use Rattle.class_file.specs.Pools.{is_text}
use Rattle.class_file.specs.declared.class.Set.{Set}
use Rattle.class_file.specs.Descriptors.{FieldType, IntType, CharType, BooleanType, LongType, Reference, field_type}
use Rattle.class_file.specs.Classes.{FieldView, ClassView, static_fields, field_view, fields_in, initial_value, built_ins, viewed, superclass, class_count, is_static_flag, named_type}
use Rattle.class_file.specs.Natives.{Object}
use Rattle.class_file.specs.Machine.{statics_in, first_heap, first_statics, first_statics_from, static_values}
use Rattle.class_file.specs.Members.{type_of_field}
use Rattle.class_soundness.specs.Soundness.{IsLoaded}
use Rattle.class_soundness.proofs.Tests.{both_true}
use Rattle.class_soundness.proofs.Found.{some_same, text_same, all_at}
use Rattle.class_soundness.proofs.Chains.{box_no_text}
use Rattle.class_soundness.proofs.Fits.{Has, Grows, Has-grows}

abbrev pub HasField : Set → List Object → Value → Option FieldType → Type 0
HasField set heap v (Some t) = Has set heap v (type_of_field t)
HasField set heap v None = Unit {0}

-- a value at a place of a class's static fields
pub record Holds (set : Set) (heap : List Object) (statics : List (List Value)) (n place : ℕ) (descriptor : List ℕ) : Type 0 where
  pub v : Value
  pub is : slice_get (statics_in (slice_get statics n)) place ≡ Some v
  pub has : HasField set heap v (field_type descriptor)

abbrev pub Stored : Set → List Object → List (List Value) → Type 0
Stored set heap statics = (n place : ℕ) (f : FieldView) → slice_get (static_fields set n) place ≡ Some f → Holds set heap statics n place f.descriptor

field_grows : (set : Set) (old new : List Object) → Grows old new → (v : Value) (t : Option FieldType) → HasField set old v t → HasField set new v t
field_grows set old new g v (Some t) h = Has-grows set old new g v (type_of_field t) h
field_grows set old new g v None h = tt

pub stored_grows : (set : Set) (old new : List Object) → Grows old new → (statics : List (List Value)) → Stored set old statics → Stored set new statics
stored_grows set old new g statics h n place f e =
    let x = h n place f e in
    record { v = x.v; is = x.is; has = field_grows set old new g x.v (field_type f.descriptor) x.has }

-- ---- what static fields hold at first

filtered : {X : Type 0} (q p : X → Bool) (xs : List X) (k : ℕ) (x : X) → list_all q xs ≡ true → slice_get (filter p xs) k ≡ Some x → q x ≡ true
filtered q p [] k x h e = absurd cc
filtered {X} q p (y ∷ ys) k x h e =
    let b = both_true (q y) (list_all q ys) h in
    by (λ j f. filtered q p ys j x b.1 f) b.0 (p y) k e
  where
    by : ((j : ℕ) → slice_get (filter p ys) j ≡ Some x → q x ≡ true) → q y ≡ true → (b : Bool) (k : ℕ) → slice_get (cond b (y ∷ filter p ys) (filter p ys)) k ≡ Some x → q x ≡ true
    by more here true zero e = subst (λ (z : X). q z ≡ true) (some_same y x e) here
    by more here true (suc k) e = more k e
    by more here false k e = more k e

-- a property of the views of fields is one of those that are kept
viewed_so : (P : FieldView → Type 0) (gs : List Field) (k : ℕ) (f : FieldView) → ((g : Field) → P (field_view g)) → slice_get (filter (λ (f : FieldView). f.is_static) (map field_view gs)) k ≡ Some f → P f
viewed_so P [] k f h e = absurd cc
viewed_so P (g ∷ gs) k f h e = by (λ j d. viewed_so P gs j f h d) (is_static_flag g.flags) k e
  where
    by : ((j : ℕ) → slice_get (filter (λ (f : FieldView). f.is_static) (map field_view gs)) j ≡ Some f → P f) → (b : Bool) (k : ℕ)
        → slice_get (cond b (field_view g ∷ filter (λ (f : FieldView). f.is_static) (map field_view gs)) (filter (λ (f : FieldView). f.is_static) (map field_view gs))) k ≡ Some f → P f
    by more true zero e = subst P (some_same (field_view g) f e) (h g)
    by more true (suc k) e = more k e
    by more false k e = more k e

initial_has : (set : Set) (heap : List Object) (o : Option FieldType) → HasField set heap (initial_value o) o
initial_has set heap None = tt
initial_has set heap (Some IntType) = tt
initial_has set heap (Some CharType) = tt
initial_has set heap (Some BooleanType) = tt
initial_has set heap (Some LongType) = tt
initial_has set heap (Some (Reference name)) = tt

abbrev is_ref : Value → Bool
is_ref (Ref r) = true
is_ref _ = false

abbrev is_unit_field : FieldView → Bool
is_unit_field f = is_text f.descriptor (codes "Lkotlin/Unit;") && is_ref f.initial

all_unit : list_all (λ (c : ClassView). list_all is_unit_field c.fields) built_ins ≡ true
unfolding built_ins
all_unit = refl

unit_is : (set : Set) → named_type set (codes "kotlin/Unit") ≡ Some (record { class = 27; dimensions = 0 })
unfolding built_ins
unit_is set = refl

unit_above : (set : Set) → superclass set 27 ≡ Some 0
unfolding built_ins
unit_above set = refl

module _ (set : Set) (loaded : IsLoaded set) where
  unit_has : (heap : List Object) (v : Value) → is_ref v ≡ true → HasField set heap v (Some (Reference (codes "kotlin/Unit")))
  unit_has heap (Ref r) e = λ k. absurd (box_no_text set loaded (codes "kotlin/Unit") 27 (unit_is set) (unit_above set) refl k)
  unit_has heap _ e = absurd cc

  unit_field : (heap : List Object) (f : FieldView) → is_unit_field f ≡ true → HasField set heap f.initial (field_type f.descriptor)
  unit_field heap f e =
      let b = both_true (is_text f.descriptor (codes "Lkotlin/Unit;")) (is_ref f.initial) e in
      subst (λ (d : List ℕ). HasField set heap f.initial (field_type d)) (sym (text_same f.descriptor (codes "Lkotlin/Unit;") b.0)) (unit_has heap f.initial b.1)

  first_has : (heap : List Object) (n place : ℕ) (f : FieldView) → slice_get (static_fields set n) place ≡ Some f → HasField set heap f.initial (field_type f.descriptor)
  first_has heap n place f e = by_number (nat_lt n 37) e
    where
      by_view : (o : Option ClassView) → slice_get built_ins n ≡ o → slice_get (filter (λ (f : FieldView). f.is_static) (fields_in o)) place ≡ Some f → HasField set heap f.initial (field_type f.descriptor)
      by_view None k e = absurd cc
      by_view (Some c) k e = unit_field heap f (filtered is_unit_field (λ (f : FieldView). f.is_static) c.fields place f (all_at (λ (c : ClassView). list_all is_unit_field c.fields) built_ins n c all_unit k) e)

      by_file : (o : Option ClassFile) → slice_get (filter (λ (f : FieldView). f.is_static) (fields_in (viewed (n - 37) o))) place ≡ Some f → HasField set heap f.initial (field_type f.descriptor)
      by_file None e = absurd cc
      by_file (Some c) e = viewed_so (λ (f : FieldView). HasField set heap f.initial (field_type f.descriptor)) c.fields place f (λ g. initial_has set heap (field_type g.descriptor)) e

      by_number : (b : Bool) → slice_get (filter (λ (f : FieldView). f.is_static) (fields_in (cond b (slice_get built_ins n) (viewed (n - 37) (slice_get set.classes (n - 37)))))) place ≡ Some f → HasField set heap f.initial (field_type f.descriptor)
      by_number true e = by_view (slice_get built_ins n) refl e
      by_number false e = by_file (slice_get set.classes (n - 37)) e

  -- a class that has fields is one of the classes
  counted : (n place : ℕ) (f : FieldView) → slice_get (static_fields set n) place ≡ Some f → n < class_count set
  counted n place f e = by (nat_lt n 37) (slice_get set.classes (n - 37)) refl refl e
    where
      by : (b : Bool) (o : Option ClassFile) → nat_lt n 37 ≡ b → slice_get set.classes (n - 37) ≡ o → slice_get (filter (λ (f : FieldView). f.is_static) (fields_in (cond b (slice_get built_ins n) (viewed (n - 37) o)))) place ≡ Some f → n < class_count set
      by true o k h e = let lt = ltb-true n 37 k in omega (arith, lt)
      by false None k h e = absurd cc
      by false (Some c) k h e = let lt = slice_get_within set.classes (n - 37) c h in let ge = ltb-false n 37 k in omega (arith, lt, ge)

  values_at : (start count k : ℕ) → k < count → slice_get (first_statics_from set start count) k ≡ Some (static_values set (start + k))
  values_at start zero k lt = absurd (omega arith)
  values_at start (suc count) zero lt = let same : start ≡ start + 0 = omega arith in ap (λ (n : ℕ). Some (static_values set n)) same
  values_at start (suc count) (suc k) lt =
      let same : start + 1 + k ≡ start + suc k = omega arith in values_at (start + 1) count k (omega arith) ∙ ap (λ (n : ℕ). Some (static_values set n)) same

  pub first_stored : Stored set first_heap (first_statics set)
  unfolding first_statics
  first_stored n place f e =
      let same : 0 + n ≡ n = omega arith in
      let at : slice_get (first_statics_from set 0 (class_count set)) n ≡ Some (static_values set n) = values_at 0 (class_count set) n (counted n place f e) ∙ ap (λ (k : ℕ). Some (static_values set k)) same in
      record {
        v = f.initial;
        is = ap (λ (o : Option (List Value)). slice_get (statics_in o) place) at ∙ slice_get-map (λ (f : FieldView). f.initial) (static_fields set n) place ∙ ap (option_map (λ (f : FieldView). f.initial)) e;
        has = first_has first_heap n place f e;
      }

-- ---- a static field that is written

get_set_same : {X : Type 0} (xs : List X) (i : ℕ) (a x : X) → slice_get xs i ≡ Some x → slice_get (slice_set xs i a) i ≡ Some a
get_set_same [] i a x e = absurd cc
get_set_same (y ∷ ys) zero a x e = refl
get_set_same (y ∷ ys) (suc i) a x e = get_set_same ys i a x e

get_set_other : {X : Type 0} (xs : List X) (i j : ℕ) (a : X) → j ≢ i → slice_get (slice_set xs i a) j ≡ slice_get xs j
get_set_other [] i j a h = refl
get_set_other (y ∷ ys) zero zero a h = absurd (h refl)
get_set_other (y ∷ ys) zero (suc j) a h = refl
get_set_other (y ∷ ys) (suc i) zero a h = refl
get_set_other (y ∷ ys) (suc i) (suc j) a h = get_set_other ys i j a (λ e. h (ap suc e))

-- the values of a class that has one
record HasRow (statics : List (List Value)) (n : ℕ) : Type 0 where
  values : List Value
  is : slice_get statics n ≡ Some values

row_of_class : (statics : List (List Value)) (n place : ℕ) (v : Value) (o : Option (List Value)) → slice_get statics n ≡ o → slice_get (statics_in o) place ≡ Some v → HasRow statics n
row_of_class statics n place v None k e = absurd cc
row_of_class statics n place v (Some values) k e = record { values = values; is = k }

module _ (set : Set) (heap : List Object) (statics : List (List Value)) (stored : Stored set heap statics) (n place : ℕ) (f : FieldView) (v : Value) (at : slice_get (static_fields set n) place ≡ Some f) (has : HasField set heap v (field_type f.descriptor)) where
  abbrev row : List Value
  row = slice_set (statics_in (slice_get statics n)) place v

  in_class : (place2 : ℕ) (f2 : FieldView) → slice_get (static_fields set n) place2 ≡ Some f2 → Holds set heap (slice_set statics n row) n place2 f2.descriptor
  in_class place2 f2 e = by_place (eqb place2 place) refl
    where
      old : Holds set heap statics n place2 f2.descriptor
      old = stored n place2 f2 e

      there : HasRow statics n
      there = row_of_class statics n place2 old.v (slice_get statics n) refl old.is

      now : slice_get (slice_set statics n row) n ≡ Some row
      now = get_set_same statics n row there.values there.is

      by_place : (b : Bool) → eqb place2 place ≡ b → Holds set heap (slice_set statics n row) n place2 f2.descriptor
      by_place true k =
          let p = eqb-true place2 place k in
          let same_field : f ≡ f2 = some_same f f2 (sym at ∙ ap (slice_get (static_fields set n)) (sym p) ∙ e) in
          let first = stored n place f at in
          record {
            v = v;
            is = ap (λ (o : Option (List Value)). slice_get (statics_in o) place2) now ∙ ap (slice_get row) p ∙ get_set_same (statics_in (slice_get statics n)) place v first.v first.is;
            has = subst (λ (g : FieldView). HasField set heap v (field_type g.descriptor)) same_field has;
          }
      by_place false k = record {
        v = old.v;
        is = ap (λ (o : Option (List Value)). slice_get (statics_in o) place2) now ∙ get_set_other (statics_in (slice_get statics n)) place place2 v (eqb-false place2 place k) ∙ old.is;
        has = old.has;
      }

  pub stored_put : Stored set heap (slice_set statics n row)
  stored_put n2 place2 f2 e = by_class (eqb n2 n) refl
    where
      by_class : (b : Bool) → eqb n2 n ≡ b → Holds set heap (slice_set statics n row) n2 place2 f2.descriptor
      by_class true k =
          let p = eqb-true n2 n k in
          subst (λ (i : ℕ). Holds set heap (slice_set statics n row) i place2 f2.descriptor) (sym p) (in_class place2 f2 (subst (λ (i : ℕ). slice_get (static_fields set i) place2 ≡ Some f2) p e))
      by_class false k =
          let old = stored n2 place2 f2 e in
          record { v = old.v; is = ap (λ (o : Option (List Value)). slice_get (statics_in o) place2) (get_set_other statics n n2 row (eqb-false n2 n k)) ∙ old.is; has = old.has }

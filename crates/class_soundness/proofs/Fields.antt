-- The static field that an index names is the same to the verifier and to the machine.
use Rattle.std.proofs.Common.{◌≡◌, ℕ, true, List, [], ◌∷◌, Option, Some, None, refl, sym, ap, subst, ◌∙◌, position}
use Rattle.std.specs.Prelude.{slice_get, ◌&&◌}
use Rattle.std.specs.Option.{option_map}
use Rattle.class_file.specs.declared.class.ClassFile.{ClassFile}
use Rattle.class_file.specs.declared.class.Set.{Set}
use Rattle.class_file.specs.declared.pool.Entry.{Entry}
use Rattle.class_file.specs.declared.pool.Entry.TheVariants as entry
use Rattle.class_file.specs.Pools.{Slots, Member, entry_at, name_in, typed_in, field_in, is_text}
use Rattle.class_file.specs.Descriptors.{FieldType, field_type}
use Rattle.class_file.specs.Classes.{FieldView, FoundField, static_fields, is_field, field_at, first_field, named_field, supertypes, class_number}
use Rattle.class_file.specs.Machine.{resolve_field, field_named, pool_of}
use Rattle.class_file.specs.Members.{FieldUse, field_use, type_of_field}
use Rattle.class_soundness.proofs.Tests.{both_true}
use Rattle.class_soundness.proofs.Found.{some_same, none_is, text_same}
use Rattle.class_soundness.proofs.Loaded.{stands}

-- a static field of a class, and where it stands
pub record Standing (set : Set) (f : FoundField) : Type 0 where
  pub view : FieldView
  pub at : slice_get (static_fields set f.class) f.place ≡ Some view
  pub same : view.descriptor ≡ f.descriptor

pub record Resolved (set : Set) (o : Option FoundField) (use_ : FieldUse) : Type 0 where
  pub to : FoundField
  pub is : o ≡ Some to
  pub standing : Standing set to
  pub t : FieldType
  pub typed : field_type to.descriptor ≡ Some t
  pub type_is : type_of_field t ≡ use_.type

module _ (set : Set) where
  found : (name descriptor : List ℕ) (ns : List ℕ) (f : FoundField) → first_field set true name descriptor ns ≡ Some f → Standing set f × (f.descriptor ≡ descriptor)
  found name descriptor [] f e = absurd (none_is f e)
  found name descriptor (n ∷ ns) f e = by (found name descriptor ns f) (position (is_field true name descriptor) (static_fields set n)) refl e
    where
      by : (first_field set true name descriptor ns ≡ Some f → Standing set f × (f.descriptor ≡ descriptor)) → (o : Option ℕ) → position (is_field true name descriptor) (static_fields set n) ≡ o
          → field_at n descriptor o (first_field set true name descriptor ns) ≡ Some f → Standing set f × (f.descriptor ≡ descriptor)
      by more None k e = more e
      by more (Some place) k e =
          let s = stands (is_field true name descriptor) (static_fields set n) place k in
          let p = both_true s.x.is_static (is_text s.x.name name && is_text s.x.descriptor descriptor) s.passes in
          let q = both_true (is_text s.x.name name) (is_text s.x.descriptor descriptor) p.1 in
          let here : FoundField = record { class = n; place = place; descriptor = descriptor } in
          subst (λ (g : FoundField). Standing set g × (g.descriptor ≡ descriptor)) (some_same here f e) (record { view = s.x; at = s.at; same = text_same s.x.descriptor descriptor q.1 }, refl)

  abbrev used : Member → Option FoundField → Option FieldUse
  used m None = None
  used m (Some f) = option_map (λ t. record { owner = m.owner; class = f.class; type = type_of_field t }) (field_type m.descriptor)

  abbrev in_class : Member → Option ℕ → Option FieldUse
  in_class m None = None
  in_class m (Some n) = used m (named_field set true m.name m.descriptor n)

  abbrev of_member : Option Member → Option FieldUse
  of_member None = None
  of_member (Some m) = in_class m (class_number set m.owner)

  abbrev of_entry : Slots → Option Entry → Option FieldUse
  of_entry slots (Some (entry.FieldRef owner member)) = of_member (typed_in slots (name_in slots (entry_at slots owner)) (entry_at slots member))
  of_entry slots _ = None

  abbrev field_of : Member → Option ℕ → Option FoundField
  field_of m None = None
  field_of m (Some n) = named_field set true m.name m.descriptor n

  by_type : (m : Member) (n : ℕ) (f : FoundField) (use_ : FieldUse) → named_field set true m.name m.descriptor n ≡ Some f → (o : Option FieldType) → field_type m.descriptor ≡ o
      → option_map (λ t. record { owner = m.owner; class = f.class; type = type_of_field t }) o ≡ Some use_ → Resolved set (Some f) use_
  by_type m n f use_ k None h e = absurd (none_is use_ e)
  by_type m n f use_ k (Some t) h e =
      let s = found m.name m.descriptor (supertypes set n) f k in
      let here : FieldUse = record { owner = m.owner; class = f.class; type = type_of_field t } in
      record { to = f; is = refl; standing = s.0; t = t; typed = ap field_type s.1 ∙ h; type_is = ap (λ (u : FieldUse). u.type) (some_same here use_ e) }

  by_field : (m : Member) (n : ℕ) (o : Option FoundField) (use_ : FieldUse) → named_field set true m.name m.descriptor n ≡ o → used m o ≡ Some use_ → Resolved set o use_
  by_field m n None use_ k e = absurd (none_is use_ e)
  by_field m n (Some f) use_ k e = by_type m n f use_ k (field_type m.descriptor) refl e

  by_number : (m : Member) (o : Option ℕ) (use_ : FieldUse) → in_class m o ≡ Some use_ → Resolved set (field_of m o) use_
  by_number m None use_ e = absurd (none_is use_ e)
  by_number m (Some n) use_ e = by_field m n (named_field set true m.name m.descriptor n) use_ refl e

  by_member : (o : Option Member) (use_ : FieldUse) → of_member o ≡ Some use_ → Resolved set (field_named set true o) use_
  by_member None use_ e = absurd (none_is use_ e)
  by_member (Some m) use_ e = by_number m (class_number set m.owner) use_ e

  by_entry : (slots : Slots) (o : Option Entry) (use_ : FieldUse) → of_entry slots o ≡ Some use_ → Resolved set (field_named set true (field_in slots o)) use_
  by_entry slots (Some (entry.FieldRef owner member)) use_ e = by_member (typed_in slots (name_in slots (entry_at slots owner)) (entry_at slots member)) use_ e
  by_entry slots (Some _) use_ e = absurd (none_is use_ e)
  by_entry slots None use_ e = absurd (none_is use_ e)

  pub resolved : (class : ℕ) (c : ClassFile) (i : ℕ) (use_ : FieldUse) → slice_get set.classes class ≡ Some c → field_use set true c i ≡ Some use_ → Resolved set (resolve_field set true class i) use_
  unfolding resolve_field
  resolved class c i use_ k e =
      subst (λ (slots : Slots). Resolved set (field_named set true (field_in slots (entry_at slots i))) use_) (ap pool_of (sym k)) (by_entry c.pool (entry_at c.pool i) use_ e)

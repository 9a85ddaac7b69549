-- Pools that are read are spelled.
use Rattle.std.proofs.Common.{◌≡◌, ℕ, zero, suc, ◌+◌, ◌-◌, ◌/◌, ◌%◌, ◌^◌, ◌<◌, ◌≤◌, Bool, true, false, cond, ltb, eqb, List, [], ◌∷◌, ◌++◌, length, Option, Some, None, Result, Ok, Err, refl, sym, ap, ap₂, subst, ◌∙◌, append_assoc, append-nil, arith, inl, inr, length-append, All}
use Rattle.std.specs.Prelude.{IsTrue, IfSome, is_some, ◌||◌, ◌&&◌, not, ℤ, FitsSigned, ◌⊎◌}
use Rattle.std.specs.List.{AllByRecursion, flat_map}
use Rattle.std.specs.Int.{w8, w16, w32, w64}
use Rattle.std.proofs.lemmas.Bool.{cases_Bool, eqb-true, eqb-false, ltb-true, ltb-false}
use Rattle.std.proofs.lemmas.Grind.{flat_map-append}
use Rattle.std.proofs.lemmas.List.Elements.{All-nil, All-cons, All-append, All-head, All-tail, All-weaker}
use Rattle.kc_text.specs.Modified.{modified_of, modified_of_unit, AreUnits}
use Rattle.class_file.specs.declared.pool.Entry.{Entry}
use Rattle.class_file.specs.declared.pool.Entry.TheVariants as entry
use Rattle.class_file.specs.declared.format_fault.FormatCode.{FormatCode}
use Rattle.class_file.specs.declared.format_fault.FormatCode.TheVariants.{BadDescriptor, BadPool, BadIndex, OutOfProfile}
use Rattle.class_file.specs.declared.format_fault.FormatFault.{FormatFault}
use Rattle.class_file.specs.Indexing.{added}
use Rattle.class_file.specs.Pools.{Slots, entry_at, text_in, name_in, typed_in, member_of, named, Member}
use Rattle.class_file.specs.InstrBytes.{u2, s4, s8}
use Rattle.class_file.specs.ClassBytes.{IsEntry, entry_bytes, slot_bytes, IsPool, PoolIs, is_field_descriptor, is_method_descriptor, is_type_name, text_at, IsField, IsMethod, AreBytes}
use Rattle.class_file.specs.Inputs.{◌>>=◌, Input, Read, Reading, read, fault, refused, number_at, bytes_at, text_of_modified}
use Rattle.class_file.specs.DescriptorFaults.{type_name_fault, descriptor_fault, is_any_field_descriptor, is_any_method_descriptor}
use Rattle.class_file.specs.PoolFaults.{Wanted, AText, ATypeName, ADescriptor, AClass, AFieldsType, AMethodsType, Use, Found, Nothing, Unread, There, found_at, found_entry, of_text, of_class, of_type, judged, known_text, with_text, text_entry, uses_fault, Piece, piece, piece_behind, use_of, one_index, second_index, two_indexes, utf8_at, integer_at, long_at, tagged_at, piece_at, PoolRead, pool_read, more_entries, entries_at, judged_pool, pool_at}
use Rattle.class_spelling.proofs.Takes.{Taken, Takes, take_then, take_given, take_last, take_as, take_if, take_fault, no_fault, read_is, ok_is, bind_ok, rest_fits, read8, read16, read32, read64, signed32, signed64, take_bytes, take_number, take_number2, take_signed}
use Rattle.class_spelling.proofs.Pools.{Good, added_is, bytes_of_added, some_added, found_there, text_entry_is}
use Rattle.class_spelling.proofs.DescriptorKinds.{in_profile, method_is_any, field_is_any}
use Rattle.class_spelling.proofs.ModifiedTaken.{text_back}

-- ---- what indexes that are good name, in a pool that is read whole

some_code : (c : FormatCode) → (let o : Option FormatCode = Some c in o) ≡ None → ⊥
some_code c e = cc

-- an index that names an entry
record Named (slots : Slots) (index : ℕ) (f : Found) : Type 0 where
  e : Entry
  there : f ≡ There e
  is : entry_at slots index ≡ Some e

-- what can stand at an index: an entry, or nothing
named_or_nothing : (slots : Slots) (index : ℕ) → Named slots index (found_at slots (length slots) index) ⊎ (found_at slots (length slots) index ≡ Nothing)
named_or_nothing slots index = by (eqb index 0) (ltb index (length slots)) (entry_at slots index) refl
  where
    by : (a b : Bool) (o : Option Entry) → entry_at slots index ≡ o → Named slots index (cond (a || not b) Nothing (cond b (found_entry o) Unread)) ⊎ ((cond (a || not b) Nothing (cond b (found_entry o) Unread)) ≡ Nothing)
    by true b o e = inr refl
    by false false o e = inr refl
    by false true None e = inr refl
    by false true (Some x) e = inl (record { e = x; there = refl; is = e })

-- the text, where a text is wanted
record IsText (slots : Slots) (index : ℕ) (judge : List ℕ → Option FormatCode) : Type 0 where
  text : List ℕ
  is : text_at slots index ≡ Some text
  fits : judge text ≡ None

text_of : (slots : Slots) (index : ℕ) (judge : List ℕ → Option FormatCode) → of_text (found_at slots (length slots) index) judge ≡ None → IsText slots index judge
text_of slots index judge e = elim (named_or_nothing slots index) [
  | inl n ↦ by n.e n.is (ap (λ (f : Found). of_text f judge) (sym n.there) ∙ e)
  | inr n ↦ absurd (some_code BadIndex (ap (λ (f : Found). of_text f judge) (sym n) ∙ e))
]
  where
    by : (x : Entry) → entry_at slots index ≡ Some x → of_text (There x) judge ≡ None → IsText slots index judge
    by (entry.Utf8 t) f g = record { text = t; is = ap text_in f; fits = g }
    by x f g = absurd (some_code BadIndex g)

class_of_index : (slots : Slots) (index : ℕ) → of_class (found_at slots (length slots) index) ≡ None → (n : ℕ) × (entry_at slots index ≡ Some (entry.Class n))
class_of_index slots index e = elim (named_or_nothing slots index) [
  | inl n ↦ by n.e n.is (ap of_class (sym n.there) ∙ e)
  | inr n ↦ absurd (some_code BadIndex (ap of_class (sym n) ∙ e))
]
  where
    by : (x : Entry) → entry_at slots index ≡ Some x → of_class (There x) ≡ None → (n : ℕ) × (entry_at slots index ≡ Some (entry.Class n))
    by (entry.Class n) f g = (n, f)
    by x f g = absurd (some_code BadIndex g)

-- a name and a descriptor, of which a test that holds of all of the other kind does not hold
abbrev Pair : Slots → ℕ → (List ℕ → Bool) → Type 0
Pair slots index is_other =
    (n : ℕ) × (d : ℕ) × (entry_at slots index ≡ Some (entry.NameAndType n d)) × ((t : List ℕ) → known_text (found_at slots (length slots) d) ≡ Some t → is_other t ≡ false)

no_code : (b : Bool) → cond b (Some BadDescriptor) None ≡ None → b ≡ false
no_code true e = absurd cc
no_code false e = refl

not_of : (test is_other : List ℕ → Bool) (t : List ℕ) → ((t : List ℕ) → is_other t ≡ true → test t ≡ true) → test t ≡ false → is_other t ≡ false
not_of test is_other t more e = elim (cases_Bool (is_other t)) [ inl also ↦ let f = more t also in absurd cc | inr other ↦ other ]

pair_of : (slots : Slots) (index : ℕ) (test is_other : List ℕ → Bool) → ((t : List ℕ) → is_other t ≡ true → test t ≡ true) → of_type slots (length slots) test (found_at slots (length slots) index) ≡ None → Pair slots index is_other
pair_of slots index test is_other more e = elim (named_or_nothing slots index) [
  | inl n ↦ by n.e n.is (ap (of_type slots (length slots) test) (sym n.there) ∙ e)
  | inr n ↦ absurd (some_code BadIndex (ap (of_type slots (length slots) test) (sym n) ∙ e))
]
  where
    by : (x : Entry) → entry_at slots index ≡ Some x → of_type slots (length slots) test (There x) ≡ None → Pair slots index is_other
    by (entry.NameAndType n d) f g = (n, d, f, λ t known. not_of test is_other t more (no_code (test t) (ap (λ (o : Option (List ℕ)). with_text o (λ t. cond (test t) (Some BadDescriptor) None)) (sym known) ∙ g)))
    by x f g = absurd (some_code BadIndex g)

-- ---- what an entry with good indexes is, by its indexes alone

abbrev MemberIndexes : Slots → ℕ → ℕ → (List ℕ → Bool) → Type 0
MemberIndexes slots owner member is_other = (owner < 2 ^ 16) × (member < 2 ^ 16) × ((n : ℕ) × (entry_at slots owner ≡ Some (entry.Class n))) × Pair slots member is_other

abbrev Local : Slots → Entry → Type 0
Local slots (entry.Utf8 t) = AreUnits t × (length (modified_of t) < 2 ^ 16)
Local slots (entry.Integer n) = FitsSigned w32 n
Local slots (entry.Long n) = FitsSigned w64 n
Local slots (entry.Class n) = (n < 2 ^ 16) × IsText slots n type_name_fault
Local slots (entry.Str n) = (n < 2 ^ 16) × IsText slots n (λ t. None)
Local slots (entry.FieldRef n m) = MemberIndexes slots n m is_method_descriptor
Local slots (entry.MethodRef n m) = MemberIndexes slots n m is_field_descriptor
Local slots (entry.InterfaceMethodRef n m) = MemberIndexes slots n m is_field_descriptor
Local slots (entry.NameAndType n m) = (n < 2 ^ 16) × (m < 2 ^ 16) × IsText slots n (λ t. None) × IsText slots m descriptor_fault

-- ---- one entry, as it was read

-- with what it asks for, once its indexes are good
record EntryTaken (slots : Slots) (left tag : ℕ) (bytes : List ℕ) (p : Piece) (y : Read Entry) : Type 0 where
  piece_of : List ℕ
  parts : bytes ≡ piece_of ++ y.rest.bytes
  spelled : entry_bytes y.value ≡ tag ∷ piece_of
  room : length (added y.value) ≤ left
  fits : AllByRecursion (Good slots) p.uses → Local slots y.value

text_entry_gives : (at : ℕ) (j : Input) (o : Option (List ℕ)) (y : Read Entry) → text_entry at j o ≡ Ok y → (y.rest ≡ j) × ((t : List ℕ) × (o ≡ Some t) × (y.value ≡ entry.Utf8 t))
text_entry_gives at j None y e = absurd cc
text_entry_gives at j (Some t) y e = let same = read_is (entry.Utf8 t) j y e in (same.0, (t, refl, same.1))

take_utf8 : Takes utf8_at (λ e bytes. (t : List ℕ) × (e ≡ entry.Utf8 t) × AreUnits t × (length (modified_of t) < 2 ^ 16) × (bytes ≡ u2 (length (modified_of t)) ++ modified_of t))
take_utf8 = take_as (λ e bytes. (t : List ℕ) × (e ≡ entry.Utf8 t) × AreUnits t × (length (modified_of t) < 2 ^ 16) × (bytes ≡ u2 (length (modified_of t)) ++ modified_of t))
    (take_then (λ i n. bytes_at n.value n.rest >>= λ b. text_entry n.rest.at b.rest (text_of_modified b.value)) (λ n e bytes. (w : List ℕ) × ((t : List ℕ) × (text_of_modified w ≡ Some t) × (e ≡ entry.Utf8 t)) × ((length w ≡ n) × AreBytes w × (bytes ≡ w))) (take_number read16)
    (λ i n. take_last (λ j b. text_entry j.at b.rest (text_of_modified b.value)) (λ w e. (t : List ℕ) × (text_of_modified w ≡ Some t) × (e ≡ entry.Utf8 t)) (take_bytes n) (λ i j w y e. text_entry_gives i.at j (text_of_modified w) y e)))
    (λ e bytes t. let s = t.1 in let u = s.4 in let x = text_back u.0 u.1.0 u.1.1 in
    let len : length (modified_of u.1.0) ≡ t.0 = ap length (sym x.is) ∙ u.2.0 in
    (u.1.0, u.1.2, x.units, subst (λ (n : ℕ). n < 2 ^ 16) (sym len) s.3.0, s.2 ∙ ap₂ (λ (a b : List ℕ). a ++ b) (s.3.1 ∙ ap u2 (sym len)) (u.2.2 ∙ x.is)))

take_integer : Takes integer_at (λ e bytes. (n : ℤ) × (e ≡ entry.Integer n) × (FitsSigned w32 n × (bytes ≡ s4 n)))
take_integer = take_last (λ i n. read (entry.Integer n.value) n.rest) (λ n e. e ≡ entry.Integer n) (take_signed read32 signed32) (λ i j n y e. read_is (entry.Integer n) j y e)

take_long_number : Takes long_at (λ e bytes. (n : ℤ) × (e ≡ entry.Long n) × (FitsSigned w64 n × (bytes ≡ s8 n)))
take_long_number = take_last (λ i n. read (entry.Long n.value) n.rest) (λ n e. e ≡ entry.Long n) (take_signed read64 signed64) (λ i j n y e. read_is (entry.Long n) j y e)

-- an entry with one index
one_taken : (slots : Slots) (left tag : ℕ) (wanted : Wanted) (make : ℕ → Entry) (i : Input) (y : Read Entry) → ((n : ℕ) → entry_bytes (make n) ≡ tag ∷ u2 n) → ((n : ℕ) → length (added (make n)) ≤ left)
    → ((n : ℕ) → n < 2 ^ 16 → judged slots (length slots) wanted (found_at slots (length slots) n) ≡ None → Local slots (make n)) → AreBytes i.bytes
    → (one_index wanted make i (number_at w16 i)).end ≡ Ok y → EntryTaken slots left tag i.bytes (one_index wanted make i (number_at w16 i)) y
one_taken slots left tag wanted make i y spells roomy local fits e = by (number_at w16 i) refl e
  where
    by : (r : Reading ℕ) → number_at w16 i ≡ r → (one_index wanted make i r).end ≡ Ok y → EntryTaken slots left tag i.bytes (one_index wanted make i r) y
    by (Err f) g e = absurd (no_fault f y e)
    by (Ok n) g e =
        let t = take_number2.takes i fits n g in let same = read_is (make n.value) n.rest y e in
        record {
          piece_of = t.piece;
          parts = t.parts ∙ ap (λ (j : Input). t.piece ++ j.bytes) (sym same.0);
          spelled = ap entry_bytes same.1 ∙ spells n.value ∙ ap (λ (b : List ℕ). tag ∷ b) (sym t.is.1);
          room = subst (λ (x : Entry). length (added x) ≤ left) (sym same.1) (roomy n.value);
          fits = λ good. subst (Local slots) (sym same.1) (local n.value t.is.0 good.0);
        }

two_taken : (slots : Slots) (left tag : ℕ) (wanted other : Wanted) (make : ℕ → ℕ → Entry) (i : Input) (y : Read Entry) → ((n m : ℕ) → entry_bytes (make n m) ≡ tag ∷ (u2 n ++ u2 m)) → ((n m : ℕ) → length (added (make n m)) ≤ left)
    → ((n m : ℕ) → n < 2 ^ 16 → m < 2 ^ 16 → judged slots (length slots) wanted (found_at slots (length slots) n) ≡ None → judged slots (length slots) other (found_at slots (length slots) m) ≡ None → Local slots (make n m)) → AreBytes i.bytes
    → (two_indexes wanted other make i (number_at w16 i)).end ≡ Ok y → EntryTaken slots left tag i.bytes (two_indexes wanted other make i (number_at w16 i)) y
two_taken slots left tag wanted other make i y spells roomy local fits e = by (number_at w16 i) refl e
  where
    by_second : (n : Read ℕ) → number_at w16 i ≡ Ok n → (r : Reading ℕ) → number_at w16 n.rest ≡ r → (second_index (use_of i n.value wanted) other (make n.value) n.rest r).end ≡ Ok y
        → EntryTaken slots left tag i.bytes (second_index (use_of i n.value wanted) other (make n.value) n.rest r) y
    by_second n f (Err x) g e = absurd (no_fault x y e)
    by_second n f (Ok m) g e =
        let t = take_number2.takes i fits n f in let u = take_number2.takes n.rest (rest_fits i.bytes t.piece n.rest.bytes fits t.parts) m g in let same = read_is (make n.value m.value) m.rest y e in
        record {
          piece_of = t.piece ++ u.piece;
          parts = t.parts ∙ ap (λ (b : List ℕ). t.piece ++ b) (u.parts ∙ ap (λ (j : Input). u.piece ++ j.bytes) (sym same.0)) ∙ sym (append_assoc t.piece u.piece y.rest.bytes);
          spelled = ap entry_bytes same.1 ∙ spells n.value m.value ∙ ap₂ (λ (a b : List ℕ). tag ∷ (a ++ b)) (sym t.is.1) (sym u.is.1);
          room = subst (λ (x : Entry). length (added x) ≤ left) (sym same.1) (roomy n.value m.value);
          fits = λ good. subst (Local slots) (sym same.1) (local n.value m.value t.is.0 u.is.0 good.0 good.1.0);
        }

    by : (r : Reading ℕ) → number_at w16 i ≡ r → (two_indexes wanted other make i r).end ≡ Ok y → EntryTaken slots left tag i.bytes (two_indexes wanted other make i r) y
    by (Err f) g e = absurd (no_fault f y e)
    by (Ok n) g e = by_second n g (number_at w16 n.rest) refl e

-- an entry without indexes
plain_taken : (slots : Slots) (left tag : ℕ) (bytes : List ℕ) (r : Reading Entry) (x : Entry) (y : Read Entry) (P : Entry → List ℕ → Type 0) (t : Taken P bytes y) → y.value ≡ x → entry_bytes x ≡ tag ∷ t.piece → length (added x) ≤ left → Local slots x
    → EntryTaken slots left tag bytes (piece [] r) y
plain_taken slots left tag bytes r x y P t same spells room local =
    record { piece_of = t.piece; parts = t.parts; spelled = ap entry_bytes same ∙ spells; room = subst (λ (e : Entry). length (added e) ≤ left) (sym same) room; fits = λ good. subst (Local slots) (sym same) local }

member_of_class : (slots : Slots) (owner member : ℕ) (test is_other : List ℕ → Bool) → ((t : List ℕ) → is_other t ≡ true → test t ≡ true) → owner < 2 ^ 16 → member < 2 ^ 16
    → of_class (found_at slots (length slots) owner) ≡ None → of_type slots (length slots) test (found_at slots (length slots) member) ≡ None → MemberIndexes slots owner member is_other
member_of_class slots owner member test is_other more lt lt' e f = (lt, lt', class_of_index slots owner e, pair_of slots member test is_other more f)

-- whether the test is the profile's or the standard's
field_member : (slots : Slots) (owner member : ℕ) → owner < 2 ^ 16 → member < 2 ^ 16 → judged slots (length slots) AClass (found_at slots (length slots) owner) ≡ None
    → judged slots (length slots) AFieldsType (found_at slots (length slots) member) ≡ None → MemberIndexes slots owner member is_method_descriptor
field_member slots owner member lt lt' e f = member_of_class slots owner member _ is_method_descriptor (search method_is_any) lt lt' e f

method_member : (slots : Slots) (owner member : ℕ) → owner < 2 ^ 16 → member < 2 ^ 16 → judged slots (length slots) AClass (found_at slots (length slots) owner) ≡ None
    → judged slots (length slots) AMethodsType (found_at slots (length slots) member) ≡ None → MemberIndexes slots owner member is_field_descriptor
method_member slots owner member lt lt' e f = member_of_class slots owner member _ is_field_descriptor (search field_is_any) lt lt' e f

-- the entries by their tags
abbrev Tagged : Slots → ℕ → ℕ → Input → Read Entry → Piece → Type 0
Tagged slots left tag i y p = p.end ≡ Ok y → EntryTaken slots left tag i.bytes p y

on_tag : (slots : Slots) (left tag : ℕ) (i : Input) (y : Read Entry) (b : Bool) (p q : Piece) → (b ≡ true → Tagged slots left tag i y p) → (b ≡ false → Tagged slots left tag i y q) → Tagged slots left tag i y (cond b p q)
on_tag slots left tag i y true p q f g = f refl
on_tag slots left tag i y false p q f g = g refl

-- the tag is a number
at_tag : (slots : Slots) (left tag n : ℕ) (i : Input) (y : Read Entry) (p : Piece) → eqb tag n ≡ true → Tagged slots left n i y p → Tagged slots left tag i y p
at_tag slots left tag n i y p e t = subst (λ (k : ℕ). Tagged slots left k i y p) (sym (eqb-true tag n e)) t

plain_fault : (slots : Slots) (left tag : ℕ) (i : Input) (y : Read Entry) (f : FormatFault) → Tagged slots left tag i y (piece [] (Err f))
plain_fault slots left tag i y f e = absurd (no_fault f y e)

take_text_entry : (slots : Slots) (left : ℕ) (i : Input) (y : Read Entry) → 0 < left → AreBytes i.bytes → Tagged slots left 1 i y (piece [] (utf8_at i))
take_text_entry slots left i y some fits f = let t = take_utf8.takes i fits y f in plain_taken slots left 1 i.bytes (utf8_at i) (entry.Utf8 t.is.0) y _ t t.is.1 (ap (λ (b : List ℕ). 1 ∷ b) (sym t.is.4)) some (t.is.2, t.is.3)

take_integer_entry : (slots : Slots) (left : ℕ) (i : Input) (y : Read Entry) → 0 < left → AreBytes i.bytes → Tagged slots left 3 i y (piece [] (integer_at i))
take_integer_entry slots left i y some fits f = let t = take_integer.takes i fits y f in plain_taken slots left 3 i.bytes (integer_at i) (entry.Integer t.is.0) y _ t t.is.1 (ap (λ (b : List ℕ). 3 ∷ b) (sym t.is.2.1)) some t.is.2.0

take_long_entry : (slots : Slots) (left : ℕ) (i : Input) (y : Read Entry) → 2 ≤ left → AreBytes i.bytes → Tagged slots left 5 i y (piece [] (long_at i))
take_long_entry slots left i y some fits f = let t = take_long_number.takes i fits y f in plain_taken slots left 5 i.bytes (long_at i) (entry.Long t.is.0) y _ t t.is.1 (ap (λ (b : List ℕ). 5 ∷ b) (sym t.is.2.1)) some t.is.2.0

take_tagged : (slots : Slots) (left at tag : ℕ) (i : Input) (y : Read Entry) → 0 < left → AreBytes i.bytes → Tagged slots left tag i y (tagged_at left at tag i)
unfolding tagged_at
take_tagged slots left at tag i y some fits =
    on_tag slots left tag i y (eqb tag 1) _ _ (λ e. at_tag slots left tag 1 i y _ e (take_text_entry slots left i y some fits)) (λ _.
    on_tag slots left tag i y (eqb tag 3) _ _ (λ e. at_tag slots left tag 3 i y _ e (take_integer_entry slots left i y some fits)) (λ _.
    on_tag slots left tag i y (eqb tag 5) _ _ (λ e. on_tag slots left tag i y (ltb left 2) _ _ (λ _. plain_fault slots left tag i y (record { at = at; code = BadPool })) (λ f. at_tag slots left tag 5 i y _ e (take_long_entry slots left i y (ltb-false left 2 f) fits))) (λ _.
    on_tag slots left tag i y (eqb tag 7) _ _ (λ e. at_tag slots left tag 7 i y _ e (one_taken slots left 7 ATypeName entry.Class i y (λ n. refl) (λ n. some) (λ n lt g. (lt, text_of slots n type_name_fault g)) fits)) (λ _.
    on_tag slots left tag i y (eqb tag 8) _ _ (λ e. at_tag slots left tag 8 i y _ e (one_taken slots left 8 AText entry.Str i y (λ n. refl) (λ n. some) (λ n lt g. (lt, text_of slots n (λ t. None) g)) fits)) (λ _.
    on_tag slots left tag i y (eqb tag 9) _ _ (λ e. at_tag slots left tag 9 i y _ e (two_taken slots left 9 AClass AFieldsType entry.FieldRef i y (λ n m. refl) (λ n m. some) (λ n m lt lt' g h. field_member slots n m lt lt' g h) fits)) (λ _.
    on_tag slots left tag i y (eqb tag 10) _ _ (λ e. at_tag slots left tag 10 i y _ e (two_taken slots left 10 AClass AMethodsType entry.MethodRef i y (λ n m. refl) (λ n m. some) (λ n m lt lt' g h. method_member slots n m lt lt' g h) fits)) (λ _.
    on_tag slots left tag i y (eqb tag 11) _ _ (λ e. at_tag slots left tag 11 i y _ e (two_taken slots left 11 AClass AMethodsType entry.InterfaceMethodRef i y (λ n m. refl) (λ n m. some) (λ n m lt lt' g h. method_member slots n m lt lt' g h) fits)) (λ _.
    on_tag slots left tag i y (eqb tag 12) _ _ (λ e. at_tag slots left tag 12 i y _ e (two_taken slots left 12 AText ADescriptor entry.NameAndType i y (λ n m. refl) (λ n m. some) (λ n m lt lt' g h. (lt, lt', text_of slots n (λ t. None) g, text_of slots m descriptor_fault h)) fits)) (λ _.
    plain_fault slots left tag i y (record { at = at; code = OutOfProfile }))))))))))

-- ---- the entries

record EntriesTaken (slots seen : Slots) (uses : List Use) (bytes : List ℕ) (p : PoolRead) (rest : Input) : Type 0 where
  entries : List Entry
  is_slots : p.slots ≡ seen ++ flat_map added entries
  parts : bytes ≡ flat_map slot_bytes (flat_map added entries) ++ rest.bytes
  more : List Use
  is_uses : p.uses ≡ uses ++ more
  fits : AllByRecursion (Good slots) more → AllByRecursion (Local slots) entries

left_good : (slots : Slots) (us vs : List Use) → AllByRecursion (Good slots) (us ++ vs) → AllByRecursion (Good slots) us
left_good slots [] vs a = tt
left_good slots (u ∷ us) vs a = (a.0, left_good slots us vs a.1)

right_good : (slots : Slots) (us vs : List Use) → AllByRecursion (Good slots) (us ++ vs) → AllByRecursion (Good slots) vs
right_good slots [] vs a = a
right_good slots (u ∷ us) vs a = right_good slots us vs a.1

-- what the whole reading comes to
abbrev Comes : Slots → ℕ → Slots → List Use → Input → Input → PoolRead → Type 0
Comes slots count seen uses i rest p = p.end ≡ Ok rest → EntriesTaken slots seen uses i.bytes p rest × (length p.slots ≡ count)

no_more : (slots : Slots) (count : ℕ) (seen : Slots) (uses : List Use) (i rest : Input) → length seen ≡ count → Comes slots count seen uses i rest (pool_read seen uses (Ok i))
no_more slots count seen uses i rest full e =
    (record { entries = []; is_slots = sym (append-nil seen); parts = ap (λ (j : Input). j.bytes) (ok_is i rest e); more = []; is_uses = sym (append-nil uses); fits = λ _. tt }, full)

joined : (slots : Slots) (left tag : ℕ) (seen : Slots) (uses : List Use) (bytes behind : List ℕ) (p : Piece) (x : Read Entry) (q : PoolRead) (rest : Input) → bytes ≡ tag ∷ behind → EntryTaken slots left tag behind p x
    → EntriesTaken slots (seen ++ added x.value) (uses ++ p.uses) x.rest.bytes q rest → EntriesTaken slots seen uses bytes q rest
joined slots left tag seen uses bytes behind p x q rest e en more =
    let tail = flat_map slot_bytes (flat_map added more.entries) in
    record {
      entries = x.value ∷ more.entries;
      is_slots = more.is_slots ∙ append_assoc seen (added x.value) (flat_map added more.entries);
      parts = e ∙ ap (λ (b : List ℕ). tag ∷ b) (en.parts ∙ ap (λ (b : List ℕ). en.piece_of ++ b) more.parts) ∙ ap (λ (b : List ℕ). b ++ (tail ++ rest.bytes)) (sym en.spelled) ∙ sym (append_assoc (entry_bytes x.value) tail rest.bytes)
          ∙ ap (λ (b : List ℕ). b ++ rest.bytes) (ap (λ (b : List ℕ). b ++ tail) (sym (bytes_of_added x.value)) ∙ sym (flat_map-append slot_bytes (added x.value) (flat_map added more.entries)));
      more = p.uses ++ more.more;
      is_uses = more.is_uses ∙ append_assoc uses p.uses more.more;
      fits = λ good. (en.fits (left_good slots p.uses more.more good), more.fits (right_good slots p.uses more.more good));
    }

-- the reading of what is behind an entry
abbrev Onward : Slots → ℕ → ℕ → Input → Type 0
Onward slots most count rest = (seen : Slots) (uses : List Use) (i : Input) → length seen ≤ count → count ≤ most + length seen → AreBytes i.bytes → Comes slots count seen uses i rest (entries_at most count seen uses i)

behind_entry : (slots : Slots) (most count : ℕ) (seen : Slots) (uses : List Use) (i rest : Input) → length seen < count → count ≤ suc most + length seen → AreBytes i.bytes → Onward slots most count rest
    → (let p = piece_at (count - length seen) i in Comes slots count seen uses i rest (more_entries (entries_at most count) seen (uses ++ p.uses) p.end))
behind_entry slots most count seen uses i rest lt enough fits onward = by (number_at w8 i) refl
  where
    left : ℕ
    left = count - length seen

    by_end : (tag : Read ℕ) → number_at w8 i ≡ Ok tag → (r : Reading Entry) → (tagged_at left i.at tag.value tag.rest).end ≡ r → Comes slots count seen uses i rest (more_entries (entries_at most count) seen (uses ++ (tagged_at left i.at tag.value tag.rest).uses) r)
    by_end tag g (Err f) h e = absurd cc
    by_end tag g (Ok x) h e =
        let t = (take_number read8).takes i fits tag g in
        let fits1 = rest_fits i.bytes t.piece tag.rest.bytes fits t.parts in
        let p = tagged_at left i.at tag.value tag.rest in
        let en = take_tagged slots left i.at tag.value tag.rest x (omega arith) fits1 h in
        let room = en.room in
        let some = some_added x.value in
        let more = onward (seen ++ added x.value) (uses ++ p.uses) x.rest (omega (arith, length-append seen (added x.value))) (omega (arith, length-append seen (added x.value))) (rest_fits tag.rest.bytes en.piece_of x.rest.bytes fits1 en.parts) e in
        (joined slots left tag.value seen uses i.bytes tag.rest.bytes p x (entries_at most count (seen ++ added x.value) (uses ++ p.uses) x.rest) rest (t.parts ∙ ap (λ (b : List ℕ). b ++ tag.rest.bytes) t.is.1) en more.0, more.1)

    by : (r : Reading ℕ) → number_at w8 i ≡ r → Comes slots count seen uses i rest (more_entries (entries_at most count) seen (uses ++ (piece_behind left i.at r).uses) (piece_behind left i.at r).end)
    by (Err f) g e = absurd cc
    by (Ok tag) g e = by_end tag g (tagged_at left i.at tag.value tag.rest).end refl e

take_entries : (slots : Slots) (most count : ℕ) (rest : Input) → Onward slots most count rest
unfolding entries_at
take_entries slots zero count rest seen uses i fit enough fits = no_more slots count seen uses i rest (omega arith)
take_entries slots (suc most) count rest seen uses i fit enough fits = by (ltb (length seen) count) refl (take_entries slots most count rest)
  where
    by : (b : Bool) → ltb (length seen) count ≡ b → Onward slots most count rest
        → Comes slots count seen uses i rest (cond b (let p = piece_at (count - length seen) i in more_entries (entries_at most count) seen (uses ++ p.uses) p.end) (pool_read seen uses (Ok i)))
    by true e onward = behind_entry slots most count seen uses i rest (ltb-true (length seen) count e) enough fits onward
    by false e onward = let le = ltb-false (length seen) count e in no_more slots count seen uses i rest (omega arith)

-- ---- entries are what they ask for, once all are good

abbrev Everywhere : Slots → Type 0
Everywhere slots = (index : ℕ) (e : Entry) → entry_at slots index ≡ Some e → Local slots e

-- the member that a good reference names
record MemberNamed (slots : Slots) (owner member : ℕ) (is_other : List ℕ → Bool) : Type 0 where
  member_is : Member
  is : typed_in slots (name_in slots (entry_at slots owner)) (entry_at slots member) ≡ Some member_is
  fits : (is_field_descriptor member_is.descriptor || is_method_descriptor member_is.descriptor) ≡ true
  not_other : is_other member_is.descriptor ≡ false

member_named : (slots : Slots) (owner member : ℕ) (is_other : List ℕ → Bool) → entry_at slots 0 ≡ None → Everywhere slots → MemberIndexes slots owner member is_other → MemberNamed slots owner member is_other
member_named slots owner member is_other none everywhere m =
    let c = m.2 in let p = m.3 in
    let class_name = (everywhere owner (entry.Class c.0) c.1).1 in
    let pair = everywhere member (entry.NameAndType p.0 p.1) p.2 in
    let name = pair.2 in let descriptor = pair.3 in
    let known : known_text (found_at slots (length slots) p.1) ≡ Some descriptor.text = ap known_text (found_there slots p.1 (entry.Utf8 descriptor.text) none (text_entry_is (entry_at slots p.1) descriptor.text descriptor.is)) in
    record {
      member_is = record { owner = class_name.text; name = name.text; descriptor = descriptor.text };
      is = ap (λ (o : Option Entry). typed_in slots (name_in slots o) (entry_at slots member)) c.1 ∙ ap (typed_in slots (text_at slots c.0)) p.2
          ∙ ap (λ (o : Option (List ℕ)). member_of o (text_at slots p.0) (text_at slots p.1)) class_name.is ∙ ap (λ (o : Option (List ℕ)). member_of (Some class_name.text) o (text_at slots p.1)) name.is
          ∙ ap (member_of (Some class_name.text) (Some name.text)) descriptor.is;
      fits = in_profile (is_field_descriptor descriptor.text || is_method_descriptor descriptor.text) (is_any_field_descriptor descriptor.text || is_any_method_descriptor descriptor.text) descriptor.fits;
      not_other = p.3 descriptor.text known;
    }

first_kind : (a b : Bool) → (a || b) ≡ true → b ≡ false → a ≡ true
first_kind true b e f = refl
first_kind false b e f = absurd cc

second_kind : (a b : Bool) → (a || b) ≡ true → a ≡ false → b ≡ true
second_kind false b e f = e
second_kind true b e f = absurd cc

is_entry : (slots : Slots) (e : Entry) → entry_at slots 0 ≡ None → Everywhere slots → Local slots e → IsEntry slots e
is_entry slots (entry.Utf8 t) none everywhere l = l
is_entry slots (entry.Integer n) none everywhere l = l
is_entry slots (entry.Long n) none everywhere l = l
is_entry slots (entry.Class n) none everywhere l =
    let t = l.1 in (l.0, subst (λ (o : Option (List ℕ)). IfSome o (λ t. IsTrue (is_type_name t))) (sym t.is) (in_profile (is_type_name t.text) (is_any_field_descriptor t.text) t.fits), ap is_some t.is)
is_entry slots (entry.Str n) none everywhere l = (l.0, ap is_some l.1.is)
is_entry slots (entry.FieldRef n m) none everywhere l =
    let x = member_named slots n m is_method_descriptor none everywhere l in
    (l.0, l.1, subst IsField (sym x.is) (first_kind (is_field_descriptor x.member_is.descriptor) (is_method_descriptor x.member_is.descriptor) x.fits x.not_other, refl))
is_entry slots (entry.MethodRef n m) none everywhere l =
    let x = member_named slots n m is_field_descriptor none everywhere l in
    (l.0, l.1, subst (λ (o : Option Member). IsMethod (named false o)) (sym x.is) (second_kind (is_field_descriptor x.member_is.descriptor) (is_method_descriptor x.member_is.descriptor) x.fits x.not_other, refl))
is_entry slots (entry.InterfaceMethodRef n m) none everywhere l =
    let x = member_named slots n m is_field_descriptor none everywhere l in
    (l.0, l.1, subst (λ (o : Option Member). IsMethod (named true o)) (sym x.is) (second_kind (is_field_descriptor x.member_is.descriptor) (is_method_descriptor x.member_is.descriptor) x.fits x.not_other, refl))
is_entry slots (entry.NameAndType n m) none everywhere l =
    let d = l.3 in (
      l.0,
      l.1,
      ap is_some l.2.is,
      ap is_some d.is,
      subst (λ (o : Option (List ℕ)). IfSome o (λ t. IsTrue (is_field_descriptor t || is_method_descriptor t))) (sym d.is)
          (in_profile (is_field_descriptor d.text || is_method_descriptor d.text) (is_any_field_descriptor d.text || is_any_method_descriptor d.text) d.fits),
    )

at_index : (P : Entry → Type 0) (xs : Slots) → All (λ slot. IfSome slot P) xs → (index : ℕ) (e : Entry) → entry_at xs index ≡ Some e → P e
at_index P [] all index e is = absurd cc
at_index P (s ∷ xs) all zero e is = at_slot s (All-head (λ slot. IfSome slot P) s xs all) is
  where
    at_slot : (o : Option Entry) → IfSome o P → entry_at (o ∷ xs) 0 ≡ Some e → P e
    at_slot None h is = absurd cc
    at_slot (Some x) h is = let f : x ≡ e = cc in subst P f h
at_index P (s ∷ xs) all (suc index) e is = at_index P xs (All-tail (λ slot. IfSome slot P) s xs all) index e is

one_added : (P : Entry → Type 0) (e : Entry) → P e → All (λ slot. IfSome slot P) (added e)
one_added P e p = elim (added_is e) [
  | inl one ↦ subst (All (λ slot. IfSome slot P)) (sym one) (All-cons (λ slot. IfSome slot P) (Some e) [] p (All-nil (λ slot. IfSome slot P)))
  | inr two ↦ subst (All (λ slot. IfSome slot P)) (sym two) (All-cons (λ slot. IfSome slot P) (Some e) (None ∷ []) p (All-cons (λ slot. IfSome slot P) None [] tt (All-nil (λ slot. IfSome slot P))))
]

all_added : (P : Entry → Type 0) (es : List Entry) → AllByRecursion P es → All (λ slot. IfSome slot P) (flat_map added es)
all_added P [] all = All-nil (λ slot. IfSome slot P)
all_added P (e ∷ es) all = All-append (λ slot. IfSome slot P) (added e) (flat_map added es) (one_added P e all.0) (all_added P es all.1)

weaker : (slots : Slots) → entry_at slots 0 ≡ None → Everywhere slots → (o : Option Entry) → IfSome o (Local slots) → IfSome o (IsEntry slots)
weaker slots none everywhere None h = tt
weaker slots none everywhere (Some e) h = is_entry slots e none everywhere h

made_pool : (slots : Slots) (es : List Entry) → length slots < 2 ^ 16 → slots ≡ None ∷ flat_map added es → AllByRecursion (Local slots) es → IsPool slots
made_pool slots es count are local =
    let here = λ (slot : Option Entry). IfSome slot (Local slots) in
    let all : All here slots = subst (All here) (sym are) (All-cons here None (flat_map added es) tt (all_added (Local slots) es local)) in
    record { entries = es; are = are; count = count; each = All-weaker here (λ slot. IfSome slot (IsEntry slots)) (weaker slots (ap (λ (s : Slots). entry_at s 0) are) (at_index (Local slots) slots all)) slots all }

-- ---- the pool

uses_good : {A : Type 0} (slots : Slots) (count : ℕ) (us : List Use) (go : Result A FormatFault) (y : A) → uses_fault slots count us go ≡ Ok y → AllByRecursion (λ u. judged slots count u.wanted (found_at slots count u.index) ≡ None) us × (go ≡ Ok y)
unfolding uses_fault
uses_good slots count [] go y e = (tt, e)
uses_good {A = A} slots count (u ∷ us) go y e = by (judged slots count u.wanted (found_at slots count u.index)) refl e (uses_good slots count us go y)
  where
    by : (o : Option FormatCode) → judged slots count u.wanted (found_at slots count u.index) ≡ o → refused u.at o (uses_fault slots count us go) ≡ Ok y
        → (uses_fault slots count us go ≡ Ok y → AllByRecursion (λ u. judged slots count u.wanted (found_at slots count u.index) ≡ None) us × (go ≡ Ok y))
        → AllByRecursion (λ u. judged slots count u.wanted (found_at slots count u.index) ≡ None) (u ∷ us) × (go ≡ Ok y)
    by None g e more = let m = more e in ((g, m.0), m.1)
    by (Some c) g e more = absurd (no_fault {A = A} (record { at = u.at; code = c }) y e)

-- what the pool is, behind its count
abbrev PoolBehind : ℕ → Slots → List ℕ → Type 0
PoolBehind count slots bytes = (length slots ≡ count) × IsPool slots × (bytes ≡ flat_map slot_bytes slots)

take_judged : (count : ℕ) → 0 < count → count < 2 ^ 16 → Takes (λ j. judged_pool count (entries_at count count (None ∷ []) [] j)) (PoolBehind count)
take_judged count some lt = record {
  takes = λ i fits y e.
      let p = entries_at count count (None ∷ []) [] i in
      let u = uses_good p.slots count p.uses (p.end >>= λ rest. read p.slots rest) y e in
      let b = bind_ok p.end (λ rest. read p.slots rest) y u.1 in
      let same = read_is p.slots b.0 y b.2 in
      let t = take_entries p.slots count count b.0 (None ∷ []) [] i (omega arith) (omega arith) fits b.1 in
      let good : AllByRecursion (Good p.slots) p.uses = subst (λ (n : ℕ). AllByRecursion (λ u. judged p.slots n u.wanted (found_at p.slots n u.index) ≡ None) p.uses) (sym t.1) u.0 in
      let pool = made_pool p.slots t.0.entries (subst (λ (n : ℕ). n < 2 ^ 16) (sym t.1) lt) t.0.is_slots (t.0.fits (subst (AllByRecursion (Good p.slots)) t.0.is_uses good)) in
      record {
        piece = flat_map slot_bytes (flat_map added t.0.entries);
        parts = t.0.parts ∙ ap (λ (j : Input). flat_map slot_bytes (flat_map added t.0.entries) ++ j.bytes) (sym same.0);
        is = subst (λ (s : Slots). PoolBehind count s (flat_map slot_bytes (flat_map added t.0.entries))) (sym same.1) (t.1, pool, sym (ap (flat_map slot_bytes) t.0.is_slots));
      };
}

pub take_pool : Takes pool_at PoolIs
unfolding pool_at
take_pool = take_as PoolIs
    (take_given (λ i count. cond (eqb count.value 0) (fault BadPool i.at) (judged_pool count.value (entries_at count.value count.value (None ∷ []) [] count.rest))) PoolBehind take_number2
    (λ i count piece is. take_if _ _ (PoolBehind count) (eqb count 0) (λ _. take_fault _ (PoolBehind count)) (λ e. take_judged count (let ne = eqb-false count 0 e in omega (arith, ne)) is.0)))
    (λ slots bytes t. let s = t.1 in let u = s.4 in (u.1, s.2 ∙ ap₂ (λ (a b : List ℕ). a ++ b) (s.3.1 ∙ ap u2 (sym u.0)) u.2))

-- ---- texts of a pool are short

some_byte : (u : ℕ) → 0 < length (modified_of_unit u)
some_byte u = by (ltb 0 u && ltb u 0x80) (ltb u 0x800)
  where
    by : (a b : Bool) → 0 < length (cond a (u ∷ []) (cond b ((0xC0 + u / 0x40) ∷ (0x80 + u % 0x40) ∷ []) ((0xE0 + u / 0x1000) ∷ (0x80 + u / 0x40 % 0x40) ∷ (0x80 + u % 0x40) ∷ [])))
    by true b = omega arith
    by false true = omega arith
    by false false = omega arith

longer : (text : List ℕ) → length text ≤ length (modified_of text)
longer [] = omega arith
longer (u ∷ text) = let some = some_byte u in let more = longer text in omega (arith, length-append (modified_of_unit u) (modified_of text))

pub short_texts : (slots : Slots) → IsPool slots → (index : ℕ) (text : List ℕ) → text_at slots index ≡ Some text → length text < 2 ^ 16
short_texts slots pool index text e =
    let is = at_index (IsEntry slots) slots pool.each index (entry.Utf8 text) (text_entry_is (entry_at slots index) text e) in
    let lt = is.1 in let le = longer text in omega arith

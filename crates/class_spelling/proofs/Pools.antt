-- Pools that are spelled are read.
use Rattle.std.proofs.Common.{inl, inr, ◌≡◌, ℕ, zero, suc, ◌+◌, ◌-◌, ◌^◌, ◌<◌, ◌≤◌, Bool, true, false, cond, ltb, eqb, List, [], ◌∷◌, ◌++◌, length, Option, Some, None, Result, Ok, refl, sym, ap, subst, ◌∙◌, append_assoc, append-nil, arith, length-append, All, true≢false}
use Rattle.std.specs.Prelude.{IsTrue, IfSome, is_some, ◌||◌, ℤ, FitsSigned, ◌⊎◌}
use Rattle.std.specs.List.{AllByRecursion, flat_map}
use Rattle.std.specs.Int.{w16, w32, w64}
use Rattle.std.proofs.lemmas.Bool.{le-ltb, lt-ltb, ne_eqb}
use Rattle.std.proofs.lemmas.List.Elements.{All-head, All-tail}
use Rattle.std.proofs.lemmas.Grind.{flat_map-append}
use Rattle.class_spelling.proofs.Texts.{all_left, all_right}
use Rattle.std.proofs.lemmas.Int.{ints}
use Rattle.kc_text.specs.Modified.{modified_of, AreUnits}
use Rattle.class_file.specs.declared.pool.Entry.{Entry}
use Rattle.class_file.specs.declared.pool.Entry.TheVariants as entry
use Rattle.class_file.specs.declared.format_fault.FormatCode.{FormatCode}
use Rattle.class_file.specs.declared.format_fault.FormatCode.TheVariants.{BadDescriptor, BadPool}
use Rattle.class_file.specs.declared.format_fault.FormatFault.{FormatFault}
use Rattle.class_file.specs.Indexing.{added}
use Rattle.class_file.specs.Pools.{Slots, entry_at, text_in, name_in, field_in, method_in, typed_in, member_of, named, Member}
use Rattle.class_file.specs.InstrBytes.{u2, s4, s8}
use Rattle.class_file.specs.ClassBytes.{◌⌢◌, Is, U2, IsEntry, entry_bytes, slot_bytes, IsPool, PoolIs, is_field_descriptor, is_method_descriptor, is_type_name, text_at, IsField, IsMethod}
use Rattle.class_file.specs.Inputs.{◌>>=◌, Input, Reading, read, fault, refused, number_at}
use Rattle.class_file.specs.DescriptorFaults.{unless, is_any_field_descriptor, is_any_method_descriptor}
use Rattle.class_file.specs.PoolFaults.{Wanted, AText, ATypeName, ADescriptor, AClass, AFieldsType, AMethodsType, Use, Found, There, found_at, of_type, judged, known_text, with_text, text_entry, uses_fault, Piece, piece, piece_behind, use_of, one_index, second_index, two_indexes, utf8_at, integer_at, long_at, tagged_at, piece_at, PoolRead, pool_read, more_entries, entries_at, judged_pool, pool_at}
use Rattle.class_spelling.proofs.Gives.{input, got, Gives, then, last, number, number2, byte, wide16, wide32, wide64, signed, bytes_read, by_else}
use Rattle.class_spelling.proofs.DescriptorKinds.{some_value, no_method, no_any_method, no_field, no_any_field}
use Rattle.class_spelling.proofs.Modified.{text_again}

-- an index names what it is wanted to
abbrev pub Good : Slots → Use → Type 0
Good slots u = judged slots (length slots) u.wanted (found_at slots (length slots) u.index) ≡ None

good_uses : {A : Type 0} (slots : Slots) (uses : List Use) (go : Result A FormatFault) → AllByRecursion (Good slots) uses → uses_fault slots (length slots) uses go ≡ go
unfolding uses_fault
good_uses slots [] go all = refl
good_uses slots (u ∷ us) go all = ap (λ (o : Option FormatCode). refused u.at o (uses_fault slots (length slots) us go)) all.0 ∙ good_uses slots us go all.1

both_good : (slots : Slots) (us vs : List Use) → AllByRecursion (Good slots) us → AllByRecursion (Good slots) vs → AllByRecursion (Good slots) (us ++ vs)
both_good slots [] vs a b = b
both_good slots (u ∷ us) vs a b = (a.0, both_good slots us vs a.1 b)

-- ---- what indexes name

within : (slots : Slots) (index : ℕ) (e : Entry) → entry_at slots index ≡ Some e → index < length slots
within [] index e is = absurd cc
within (s ∷ slots) zero e is = omega arith
within (s ∷ slots) (suc index) e is = let lt = within slots index e is in omega arith

-- in a pool with nothing at index 0
pub found_there : (slots : Slots) (index : ℕ) (e : Entry) → entry_at slots 0 ≡ None → entry_at slots index ≡ Some e → found_at slots (length slots) index ≡ There e
found_there slots zero e none is = absurd (cc)
found_there slots (suc index) e none is = rw (ne_eqb (suc index) 0 (λ f. omega (arith, f)), lt-ltb (suc index) (length slots) (within slots (suc index) e is), is) refl

record Text (slots : Slots) (index : ℕ) : Type 0 where
  text : List ℕ
  is : text_at slots index ≡ Some text
  there : found_at slots (length slots) index ≡ There (entry.Utf8 text)

pub text_entry_is : (o : Option Entry) (t : List ℕ) → text_in o ≡ Some t → o ≡ Some (entry.Utf8 t)
text_entry_is (Some (entry.Utf8 u)) t e = cc
text_entry_is o t e = absurd cc

text_there : (slots : Slots) (index : ℕ) → entry_at slots 0 ≡ None → is_some (text_at slots index) ≡ true → Text slots index
text_there slots index none some =
    let t = some_value (text_at slots index) some in
    record { text = t.0; is = t.1; there = found_there slots index (entry.Utf8 t.0) none (text_entry_is (entry_at slots index) t.0 t.1) }

class_there : (slots : Slots) (o : Option Entry) (name : List ℕ) → name_in slots o ≡ Some name → (n : ℕ) × (o ≡ Some (entry.Class n))
class_there slots (Some (entry.Class n)) name e = (n, refl)
class_there slots o name e = absurd cc

-- the parts of a member
record Parts (owner name descriptor : Option (List ℕ)) (m : Member) : Type 0 where
  the_owner : List ℕ
  is_owner : owner ≡ Some the_owner
  is_descriptor : descriptor ≡ Some m.descriptor

parts_of : (owner name descriptor : Option (List ℕ)) (m : Member) → member_of owner name descriptor ≡ Some m → Parts owner name descriptor m
parts_of (Some o) (Some n) (Some d) m e = record { the_owner = o; is_owner = refl; is_descriptor = cc }
parts_of None n d m e = absurd cc
parts_of (Some o) None d m e = absurd cc
parts_of (Some o) (Some n) None m e = absurd cc

record Typed (slots : Slots) (owner : Option (List ℕ)) (o : Option Entry) (m : Member) : Type 0 where
  name : ℕ
  descriptor : ℕ
  is : o ≡ Some (entry.NameAndType name descriptor)
  parts : Parts owner (text_at slots name) (text_at slots descriptor) m

typed_there : (slots : Slots) (owner : Option (List ℕ)) (o : Option Entry) (m : Member) → typed_in slots owner o ≡ Some m → Typed slots owner o m
typed_there slots owner (Some (entry.NameAndType n d)) m e = record { name = n; descriptor = d; is = refl; parts = parts_of owner (text_at slots n) (text_at slots d) m e }
typed_there slots owner o m e = absurd cc

field_of : (o : Option Member) → IsField o → (m : Member) × (o ≡ Some m) × (is_field_descriptor m.descriptor ≡ true)
field_of (Some m) is = (m, refl, is.0)
field_of None is = absurd (true≢false (sym is.1))

method_of : (of_interface : Bool) (o : Option Member) → IsMethod (named of_interface o) → (m : Member) × (o ≡ Some m) × (is_method_descriptor m.descriptor ≡ true)
method_of b (Some m) is = (m, refl, is.0)
method_of b None is = absurd (true≢false (sym is.1))

-- a member that is named, with what its two indexes name
record Indexed (slots : Slots) (owner member : ℕ) : Type 0 where
  class : ℕ
  is_class : found_at slots (length slots) owner ≡ There (entry.Class class)
  name : ℕ
  descriptor : ℕ
  text : List ℕ
  is_type : found_at slots (length slots) member ≡ There (entry.NameAndType name descriptor)
  is_text : found_at slots (length slots) descriptor ≡ There (entry.Utf8 text)

indexed : (slots : Slots) (owner member : ℕ) (m : Member) → entry_at slots 0 ≡ None → typed_in slots (name_in slots (entry_at slots owner)) (entry_at slots member) ≡ Some m → (x : Indexed slots owner member) × (x.text ≡ m.descriptor)
indexed slots owner member m none e =
    let t = typed_there slots (name_in slots (entry_at slots owner)) (entry_at slots member) m e in
    let c = class_there slots (entry_at slots owner) t.parts.the_owner t.parts.is_owner in (
      record {
        class = c.0;
        is_class = found_there slots owner (entry.Class c.0) none c.1;
        name = t.name;
        descriptor = t.descriptor;
        text = m.descriptor;
        is_type = found_there slots member (entry.NameAndType t.name t.descriptor) none t.is;
        is_text = found_there slots t.descriptor (entry.Utf8 m.descriptor) none (text_entry_is (entry_at slots t.descriptor) m.descriptor t.parts.is_descriptor);
      },
      refl,
    )

class_good : (slots : Slots) (at owner class : ℕ) → found_at slots (length slots) owner ≡ There (entry.Class class) → Good slots (record { at = at; index = owner; wanted = AClass })
class_good slots at owner class e = ap (judged slots (length slots) AClass) e

type_good : (slots : Slots) (is_other : List ℕ → Bool) (owner member : ℕ) (x : Indexed slots owner member) → is_other x.text ≡ false → of_type slots (length slots) is_other (found_at slots (length slots) member) ≡ None
type_good slots is_other owner member x e =
    ap (of_type slots (length slots) is_other) x.is_type
    ∙ ap (λ (f : Found). with_text (known_text f) (λ t. cond (is_other t) (Some BadDescriptor) None)) x.is_text
    ∙ ap (λ (b : Bool). cond b (Some BadDescriptor) None) e

-- no descriptor is of both kinds, neither in the profile nor in the standard
fields_type_good : (slots : Slots) (at owner member : ℕ) (x : Indexed slots owner member) → is_field_descriptor x.text ≡ true → Good slots (record { at = at; index = member; wanted = AFieldsType })
fields_type_good slots at owner member x e = type_good slots _ owner member x (search (no_method, no_any_method))

methods_type_good : (slots : Slots) (at owner member : ℕ) (x : Indexed slots owner member) → is_method_descriptor x.text ≡ true → Good slots (record { at = at; index = member; wanted = AMethodsType })
methods_type_good slots at owner member x e = type_good slots _ owner member x (search (no_field, no_any_field))

-- ---- one entry

utf8_gives : (text : List ℕ) → AreUnits text → length (modified_of text) < 2 ^ 16 → Gives utf8_at (Is (u2 (length (modified_of text))) ⌢ Is (modified_of text)) (entry.Utf8 text)
utf8_gives text all lt = then _ (number wide16 (length (modified_of text)) lt) (λ i. last _ (bytes_read (modified_of text)) (λ j k. ap (text_entry j.at k) (text_again text all)))

integer_gives : (n : ℤ) → FitsSigned w32 n → Gives integer_at (Is (s4 n)) (entry.Integer n)
integer_gives n fits = last _ (signed wide32 n fits (omega (arith, ints))) (λ i j. refl)

long_gives : (n : ℤ) → FitsSigned w64 n → Gives long_at (Is (s8 n)) (entry.Long n)
long_gives n fits = last _ (signed wide64 n fits (omega (arith, ints))) (λ i j. refl)

-- an entry that is read, with indexes that are good
record Entered (slots : Slots) (p : Piece) (e : Entry) (rest : List ℕ) : Type 0 where
  end : ℕ
  is : p.end ≡ Ok (got e end rest)
  good : AllByRecursion (Good slots) p.uses

behind_tag : (slots : Slots) (left at tag : ℕ) (e : Entry) (bytes rest : List ℕ) → entry_bytes e ≡ tag ∷ bytes → ((end : ℕ) → Entered slots (tagged_at left at tag (input end (bytes ++ rest))) e rest)
    → Entered slots (piece_at left (input at (entry_bytes e ++ rest))) e rest
behind_tag slots left at tag e bytes rest spelled more =
    let b = (byte tag).gives at (tag ∷ []) (bytes ++ rest) refl in
    subst (λ (p : Piece). Entered slots p e rest) (sym (ap (λ (w : List ℕ). piece_at left (input at (w ++ rest))) spelled ∙ ap (piece_behind left at) b.1)) (more b.0)

plain_entered : {r : Input → Reading Entry} {P : List ℕ → Type 0} (slots : Slots) (e : Entry) (end : ℕ) (bytes rest : List ℕ) → Gives r P e → P bytes → Entered slots (piece [] (r (input end (bytes ++ rest)))) e rest
plain_entered slots e end bytes rest gives is = let g = gives.gives end bytes rest is in record { end = g.0; is = g.1; good = tt }

one_entered : (slots : Slots) (wanted : Wanted) (make : ℕ → Entry) (n end : ℕ) (rest : List ℕ) → n < 2 ^ 16 → judged slots (length slots) wanted (found_at slots (length slots) n) ≡ None
    → Entered slots (one_index wanted make (input end (u2 n ++ rest)) (number_at w16 (input end (u2 n ++ rest)))) (make n) rest
one_entered slots wanted make n end rest lt good =
    let g = (number2 n).gives end (u2 n) rest (lt, refl) in
    subst (λ (r : Reading ℕ). Entered slots (one_index wanted make (input end (u2 n ++ rest)) r) (make n) rest) (sym g.1) (record { end = g.0; is = refl; good = (good, tt) })

two_entered : (slots : Slots) (wanted other : Wanted) (make : ℕ → ℕ → Entry) (n m end : ℕ) (rest : List ℕ) → n < 2 ^ 16 → m < 2 ^ 16
    → judged slots (length slots) wanted (found_at slots (length slots) n) ≡ None → judged slots (length slots) other (found_at slots (length slots) m) ≡ None
    → Entered slots (two_indexes wanted other make (input end (u2 n ++ u2 m ++ rest)) (number_at w16 (input end (u2 n ++ u2 m ++ rest)))) (make n m) rest
two_entered slots wanted other make n m end rest lt lt' good good' =
    let i = input end (u2 n ++ u2 m ++ rest) in
    let g = (number2 n).gives end (u2 n) (u2 m ++ rest) (lt, refl) in
    let h = (number2 m).gives g.0 (u2 m) rest (lt', refl) in
    let second : Entered slots (second_index (use_of i n wanted) other (make n) (input g.0 (u2 m ++ rest)) (number_at w16 (input g.0 (u2 m ++ rest)))) (make n m) rest =
    subst (λ (r : Reading ℕ). Entered slots (second_index (use_of i n wanted) other (make n) (input g.0 (u2 m ++ rest)) r) (make n m) rest) (sym h.1) (record { end = h.0; is = refl; good = (good, (good', tt)) }) in
    subst (λ (r : Reading ℕ). Entered slots (two_indexes wanted other make i r) (make n m) rest) (sym g.1) second

text_good : (slots : Slots) (index : ℕ) (t : Text slots index) → judged slots (length slots) AText (found_at slots (length slots) index) ≡ None
text_good slots index t = ap (judged slots (length slots) AText) t.there

type_name_good : (slots : Slots) (index : ℕ) (t : Text slots index) → is_type_name t.text ≡ true → judged slots (length slots) ATypeName (found_at slots (length slots) index) ≡ None
type_name_good slots index t e = ap (judged slots (length slots) ATypeName) t.there ∙ ap (λ (b : Bool). unless b (is_any_field_descriptor t.text)) e

descriptor_good : (slots : Slots) (index : ℕ) (t : Text slots index) → (is_field_descriptor t.text || is_method_descriptor t.text) ≡ true → judged slots (length slots) ADescriptor (found_at slots (length slots) index) ≡ None
descriptor_good slots index t e = ap (judged slots (length slots) ADescriptor) t.there ∙ ap (λ (b : Bool). unless b (is_any_field_descriptor t.text || is_any_method_descriptor t.text)) e

-- a fact of a value that is there
at_some : {A : Type 0} (o : Option A) (x : A) (P : A → Type 0) → o ≡ Some x → IfSome o P → P x
at_some {A = A} o x P e h = subst (λ (o : Option A). IfSome o P) e h

class_entered : (slots : Slots) (left at name end : ℕ) (rest : List ℕ) → entry_at slots 0 ≡ None → IsEntry slots (entry.Class name) → Entered slots (tagged_at left at 7 (input end (u2 name ++ rest))) (entry.Class name) rest
unfolding tagged_at
class_entered slots left at name end rest none is =
    let t = text_there slots name none is.2 in
    one_entered slots ATypeName entry.Class name end rest is.0 (type_name_good slots name t (at_some (text_at slots name) t.text (λ t. IsTrue (is_type_name t)) t.is is.1))

string_entered : (slots : Slots) (left at text end : ℕ) (rest : List ℕ) → entry_at slots 0 ≡ None → IsEntry slots (entry.Str text) → Entered slots (tagged_at left at 8 (input end (u2 text ++ rest))) (entry.Str text) rest
unfolding tagged_at
string_entered slots left at text end rest none is = one_entered slots AText entry.Str text end rest is.0 (text_good slots text (text_there slots text none is.1))

pair_entered : (slots : Slots) (left at name descriptor end : ℕ) (rest : List ℕ) → entry_at slots 0 ≡ None → IsEntry slots (entry.NameAndType name descriptor)
    → Entered slots (tagged_at left at 12 (input end (u2 name ++ u2 descriptor ++ rest))) (entry.NameAndType name descriptor) rest
unfolding tagged_at
pair_entered slots left at name descriptor end rest none is =
    let t = text_there slots descriptor none is.3 in
    two_entered slots AText ADescriptor entry.NameAndType name descriptor end rest is.0 is.1 (text_good slots name (text_there slots name none is.2))
    (descriptor_good slots descriptor t (at_some (text_at slots descriptor) t.text (λ d. IsTrue (is_field_descriptor d || is_method_descriptor d)) t.is is.4))

field_entered : (slots : Slots) (left at owner member end : ℕ) (rest : List ℕ) → entry_at slots 0 ≡ None → IsEntry slots (entry.FieldRef owner member)
    → Entered slots (tagged_at left at 9 (input end (u2 owner ++ u2 member ++ rest))) (entry.FieldRef owner member) rest
unfolding tagged_at
field_entered slots left at owner member end rest none is =
    let m = field_of (field_in slots (Some (entry.FieldRef owner member))) is.2 in
    let x = indexed slots owner member m.0 none m.1 in
    two_entered slots AClass AFieldsType entry.FieldRef owner member end rest is.0 is.1 (class_good slots 0 owner x.0.class x.0.is_class) (fields_type_good slots 0 owner member x.0 (ap is_field_descriptor x.1 ∙ m.2))

method_entered : (slots : Slots) (left at owner member end : ℕ) (rest : List ℕ) → entry_at slots 0 ≡ None → IsEntry slots (entry.MethodRef owner member)
    → Entered slots (tagged_at left at 10 (input end (u2 owner ++ u2 member ++ rest))) (entry.MethodRef owner member) rest
unfolding tagged_at
method_entered slots left at owner member end rest none is =
    let m = method_of false (method_in slots (Some (entry.MethodRef owner member))) is.2 in
    let x = indexed slots owner member m.0 none m.1 in
    two_entered slots AClass AMethodsType entry.MethodRef owner member end rest is.0 is.1 (class_good slots 0 owner x.0.class x.0.is_class) (methods_type_good slots 0 owner member x.0 (ap is_method_descriptor x.1 ∙ m.2))

interface_method_entered : (slots : Slots) (left at owner member end : ℕ) (rest : List ℕ) → entry_at slots 0 ≡ None → IsEntry slots (entry.InterfaceMethodRef owner member)
    → Entered slots (tagged_at left at 11 (input end (u2 owner ++ u2 member ++ rest))) (entry.InterfaceMethodRef owner member) rest
unfolding tagged_at
interface_method_entered slots left at owner member end rest none is =
    let m = method_of true (typed_in slots (name_in slots (entry_at slots owner)) (entry_at slots member)) is.2 in
    let x = indexed slots owner member m.0 none m.1 in
    two_entered slots AClass AMethodsType entry.InterfaceMethodRef owner member end rest is.0 is.1 (class_good slots 0 owner x.0.class x.0.is_class) (methods_type_good slots 0 owner member x.0 (ap is_method_descriptor x.1 ∙ m.2))

text_entered : (slots : Slots) (left at end : ℕ) (text rest : List ℕ) → IsEntry slots (entry.Utf8 text) → Entered slots (tagged_at left at 1 (input end ((u2 (length (modified_of text)) ++ modified_of text) ++ rest))) (entry.Utf8 text) rest
unfolding tagged_at
text_entered slots left at end text rest is = plain_entered slots (entry.Utf8 text) end (u2 (length (modified_of text)) ++ modified_of text) rest (utf8_gives text is.0 is.1) (u2 (length (modified_of text)), modified_of text, refl, refl, refl)

integer_entered : (slots : Slots) (left at end : ℕ) (n : ℤ) (rest : List ℕ) → IsEntry slots (entry.Integer n) → Entered slots (tagged_at left at 3 (input end (s4 n ++ rest))) (entry.Integer n) rest
unfolding tagged_at
integer_entered slots left at end n rest is = plain_entered slots (entry.Integer n) end (s4 n) rest (integer_gives n is) refl

long_entered : (slots : Slots) (left at end : ℕ) (n : ℤ) (rest : List ℕ) → 2 ≤ left → IsEntry slots (entry.Long n) → Entered slots (tagged_at left at 5 (input end (s8 n ++ rest))) (entry.Long n) rest
unfolding tagged_at
long_entered slots left at end n rest room is =
    subst (λ (b : Bool). Entered slots (cond b (piece [] (fault BadPool at)) (piece [] (long_at (input end (s8 n ++ rest))))) (entry.Long n) rest) (sym (le-ltb left 2 room)) (plain_entered slots (entry.Long n) end (s8 n) rest (long_gives n is) refl)

entered : (slots : Slots) (left at : ℕ) (e : Entry) (rest : List ℕ) → entry_at slots 0 ≡ None → length (added e) ≤ left → IsEntry slots e → Entered slots (piece_at left (input at (entry_bytes e ++ rest))) e rest
entered slots left at (entry.Utf8 t) rest none room is = behind_tag slots left at 1 (entry.Utf8 t) (u2 (length (modified_of t)) ++ modified_of t) rest refl (λ end. text_entered slots left at end t rest is)
entered slots left at (entry.Integer n) rest none room is = behind_tag slots left at 3 (entry.Integer n) (s4 n) rest refl (λ end. integer_entered slots left at end n rest is)
entered slots left at (entry.Long n) rest none room is = behind_tag slots left at 5 (entry.Long n) (s8 n) rest refl (λ end. long_entered slots left at end n rest room is)
entered slots left at (entry.Class n) rest none room is = behind_tag slots left at 7 (entry.Class n) (u2 n) rest refl (λ end. class_entered slots left at n end rest none is)
entered slots left at (entry.Str n) rest none room is = behind_tag slots left at 8 (entry.Str n) (u2 n) rest refl (λ end. string_entered slots left at n end rest none is)
entered slots left at (entry.FieldRef n m) rest none room is = behind_tag slots left at 9 (entry.FieldRef n m) (u2 n ++ u2 m) rest refl (λ end. field_entered slots left at n m end rest none is)
entered slots left at (entry.MethodRef n m) rest none room is = behind_tag slots left at 10 (entry.MethodRef n m) (u2 n ++ u2 m) rest refl (λ end. method_entered slots left at n m end rest none is)
entered slots left at (entry.InterfaceMethodRef n m) rest none room is = behind_tag slots left at 11 (entry.InterfaceMethodRef n m) (u2 n ++ u2 m) rest refl (λ end. interface_method_entered slots left at n m end rest none is)
entered slots left at (entry.NameAndType n m) rest none room is = behind_tag slots left at 12 (entry.NameAndType n m) (u2 n ++ u2 m) rest refl (λ end. pair_entered slots left at n m end rest none is)

-- ---- the entries

-- one slot, or two for a Long
pub added_is : (e : Entry) → (added e ≡ Some e ∷ []) ⊎ (added e ≡ Some e ∷ None ∷ [])
added_is (entry.Long n) = inr refl
added_is (entry.Utf8 t) = inl refl
added_is (entry.Integer n) = inl refl
added_is (entry.Class n) = inl refl
added_is (entry.Str n) = inl refl
added_is (entry.FieldRef n m) = inl refl
added_is (entry.MethodRef n m) = inl refl
added_is (entry.InterfaceMethodRef n m) = inl refl
added_is (entry.NameAndType n m) = inl refl

pub bytes_of_added : (e : Entry) → flat_map slot_bytes (added e) ≡ entry_bytes e
bytes_of_added e = elim (added_is e) [ inl one ↦ ap (flat_map slot_bytes) one ∙ append-nil (entry_bytes e) | inr two ↦ ap (flat_map slot_bytes) two ∙ append-nil (entry_bytes e) ]

pub some_added : (e : Entry) → 0 < length (added e)
some_added e = elim (added_is e) [ inl one ↦ omega (arith, ap length one) | inr two ↦ omega (arith, ap length two) ]

record EntriesRead (slots seen : Slots) (p : PoolRead) (rest : List ℕ) : Type 0 where
  end : ℕ
  is_end : p.end ≡ Ok (input end rest)
  is_slots : p.slots ≡ slots
  good : AllByRecursion (Good slots) p.uses

entries_read : (slots : Slots) (es : List Entry) (most at : ℕ) (seen : Slots) (uses : List Use) (rest : List ℕ) → entry_at slots 0 ≡ None → slots ≡ seen ++ flat_map added es → length es ≤ most
    → AllByRecursion (IsEntry slots) es → AllByRecursion (Good slots) uses
    → EntriesRead slots seen (entries_at most (length slots) seen uses (input at (flat_map slot_bytes (flat_map added es) ++ rest))) rest
unfolding entries_at
entries_read slots [] zero at seen uses rest none all few are good = record { end = at; is_end = refl; is_slots = sym (append-nil seen) ∙ sym all; good = good }
entries_read slots [] (suc most) at seen uses rest none all few are good =
    let full : ltb (length seen) (length slots) ≡ false = le-ltb (length seen) (length slots) (omega (arith, ap length (all ∙ append-nil seen))) in
    subst (λ (b : Bool). EntriesRead slots seen (cond b (let p = piece_at (length slots - length seen) (input at rest) in more_entries (entries_at most (length slots)) seen (uses ++ p.uses) p.end) (pool_read seen uses (Ok (input at rest)))) rest) (sym full)
    (record { end = at; is_end = refl; is_slots = sym (append-nil seen) ∙ sym all; good = good })
entries_read slots (e ∷ es) zero at seen uses rest none all few are good = absurd (omega (arith, few))
entries_read slots (e ∷ es) (suc most) at seen uses rest none all few are good =
    let behind = flat_map slot_bytes (flat_map added es) ++ rest in
    let spelled : flat_map slot_bytes (added e ++ flat_map added es) ++ rest ≡ entry_bytes e ++ behind =
    ap (λ (b : List ℕ). b ++ rest) (flat_map-append slot_bytes (added e) (flat_map added es) ∙ ap (λ (b : List ℕ). b ++ flat_map slot_bytes (flat_map added es)) (bytes_of_added e))
    ∙ append_assoc (entry_bytes e) (flat_map slot_bytes (flat_map added es)) rest in
    let some = some_added e in
    let counts : length slots ≡ length seen + (length (added e) + length (flat_map added es)) = ap length all ∙ length-append seen (added e ++ flat_map added es) ∙ ap (λ (n : ℕ). length seen + n) (length-append (added e) (flat_map added es)) in
    let left : ltb (length seen) (length slots) ≡ true = lt-ltb (length seen) (length slots) (omega arith) in
    let x = entered slots (length slots - length seen) at e behind none (omega arith) are.0 in
    let p = piece_at (length slots - length seen) (input at (entry_bytes e ++ behind)) in
    let again : slots ≡ (seen ++ added e) ++ flat_map added es = all ∙ sym (append_assoc seen (added e) (flat_map added es)) in
    let r = entries_read slots es most x.end (seen ++ added e) (uses ++ p.uses) rest none again (omega arith) are.1 (both_good slots uses p.uses good x.good) in
    let step : entries_at (suc most) (length slots) seen uses (input at (flat_map slot_bytes (added e ++ flat_map added es) ++ rest)) ≡ entries_at most (length slots) (seen ++ added e) (uses ++ p.uses) (input x.end behind) =
    ap (λ (b : List ℕ). entries_at (suc most) (length slots) seen uses (input at b)) spelled
    ∙ ap (λ (b : Bool). cond b (more_entries (entries_at most (length slots)) seen (uses ++ p.uses) p.end) (pool_read seen uses (Ok (input at (entry_bytes e ++ behind))))) left
    ∙ ap (more_entries (entries_at most (length slots)) seen (uses ++ p.uses)) x.is in
    subst (λ (q : PoolRead). EntriesRead slots seen q rest) (sym step) (record { end = r.end; is_end = r.is_end; is_slots = r.is_slots; good = r.good })

first_entry : (slots : Slots) (e : Entry) → All (λ slot. IfSome slot (IsEntry slots)) (added e) → IsEntry slots e
first_entry slots e all =
    let here = λ (slot : Option Entry). IfSome slot (IsEntry slots) in
    elim (added_is e) [ inl one ↦ All-head here (Some e) [] (subst (All here) one all) | inr two ↦ All-head here (Some e) (None ∷ []) (subst (All here) two all) ]

each_entry : (slots : Slots) (es : List Entry) → All (λ slot. IfSome slot (IsEntry slots)) (flat_map added es) → AllByRecursion (IsEntry slots) es
each_entry slots [] all = tt
each_entry slots (e ∷ es) all =
    (first_entry slots e (all_left (λ slot. IfSome slot (IsEntry slots)) (added e) (flat_map added es) all), each_entry slots es (all_right (λ slot. IfSome slot (IsEntry slots)) (added e) (flat_map added es) all))

few_entries : (es : List Entry) → length es ≤ length (flat_map added es)
few_entries [] = omega arith
few_entries (e ∷ es) = let some = some_added e in let more = few_entries es in omega (arith, length-append (added e) (flat_map added es))

judged_gives : (slots : Slots) → IsPool slots → Gives pool_at (U2 (length slots) ⌢ Is (flat_map slot_bytes slots)) slots
unfolding pool_at
judged_gives slots pool = then _ (number2 (length slots)) (λ i. by_else _ (λ j. judged_pool (length slots) (entries_at (length slots) (length slots) (None ∷ []) [] j)) (eqb (length slots) 0) (ne_eqb (length slots) 0 (λ e. omega (arith, e, ap length pool.are))) (record {
  gives = λ at piece rest is.
      let spelled : piece ++ rest ≡ flat_map slot_bytes (flat_map added pool.entries) ++ rest = ap (λ (b : List ℕ). b ++ rest) is ∙ ap (λ (s : Slots). flat_map slot_bytes s ++ rest) pool.are in
      let all = λ (slot : Option Entry). IfSome slot (IsEntry slots) in
      let r = entries_read slots pool.entries (length slots) at (None ∷ []) [] rest (ap (λ (s : Slots). entry_at s 0) pool.are) pool.are (omega (arith, few_entries pool.entries, ap length pool.are)) (each_entry slots pool.entries (All-tail all None (flat_map added pool.entries) (subst (All all) pool.are pool.each))) tt in
      let p = entries_at (length slots) (length slots) (None ∷ []) [] (input at (flat_map slot_bytes (flat_map added pool.entries) ++ rest)) in (
        r.end,
        ap (λ (b : List ℕ). judged_pool (length slots) (entries_at (length slots) (length slots) (None ∷ []) [] (input at b))) spelled
            ∙ ap (λ (s : Slots). uses_fault s (length slots) p.uses (p.end >>= λ rest. read s rest)) r.is_slots
            ∙ good_uses slots p.uses (p.end >>= λ rest. read slots rest) r.good ∙ ap (λ z. z >>= λ rest. read slots rest) r.is_end,
      );
}))

pub pool_gives : (slots : Slots) → Gives pool_at (PoolIs slots) slots
pool_gives slots = record { gives = λ at piece rest is. (judged_gives slots is.0).gives at piece rest (u2 (length slots), flat_map slot_bytes slots, is.1, (is.0.count, refl), refl) }

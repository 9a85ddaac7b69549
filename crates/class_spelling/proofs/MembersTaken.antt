-- Code, fields and methods that are read are spelled.
use Rattle.std.proofs.Common.{◌≡◌, ℕ, zero, suc, ◌+◌, ◌^◌, ◌<◌, ◌≤◌, Bool, true, false, cond, ltb, eqb, List, [], ◌∷◌, ◌++◌, length, Option, Some, None, Ok, refl, sym, ap, ap₂, subst, ◌∙◌, arith, All, inl, inr, length-append}
use Rattle.std.proofs.lemmas.List.{length-map}
use Rattle.std.specs.Prelude.{IsFalse, ◌||◌, ◌&&◌, not, codes, map, ◌⊎◌}
use Rattle.std.specs.List.{list_any}
use Rattle.std.specs.Int.{w16}
use Rattle.std.proofs.lemmas.List.Elements.{All-nil, All-cons, All-append}
use Rattle.class_file.specs.declared.class.Attribute.{Attribute}
use Rattle.class_file.specs.declared.class.Field.{Field}
use Rattle.class_file.specs.declared.class.Frame.{Frame}
use Rattle.class_file.specs.declared.class.VType.TheVariants as type
use Rattle.class_file.specs.declared.class.Handler.{Handler}
use Rattle.class_file.specs.declared.class.Method.{Method}
use Rattle.class_file.specs.declared.instr.Instr.{Instr}
use Rattle.class_file.specs.declared.format_fault.FormatCode.{FormatCode}
use Rattle.class_file.specs.declared.format_fault.FormatCode.TheVariants.{Doubled, Truncated, BadCode}
use Rattle.class_file.specs.Descriptors.{FieldType, Typed, Parameters, Signature, parameters, with_parameter, put_first, first_type, with_result, result_of, field_type, behind_parameters, signature}
use Rattle.class_file.specs.Members.{described, call_or_none, type_of_field}
use Rattle.class_file.specs.Pools.{Slots, is_text}
use Rattle.class_file.specs.Classes.{is_abstract_flag, is_static_flag}
use Rattle.class_file.specs.ClassBytes.{◌⌢◌, Is, U2, Each, Table, Sized, TextIs, FieldDescriptorIs, MethodDescriptorIs, is_field_descriptor, is_method_descriptor, AttributeIs, NoneIsNamed, Before, at_start, code_name, stack_map_table, CodeAttributesAre, with_frames, without_frames, CodeIs, FieldIs, HasNoCode, MethodAttributesAre, without_code, MethodIs, Key, field_key, method_key, Differ, AllDiffer, StackMapIs, InstrsAre, HandlerIs, receiver}
use Rattle.class_file.specs.ClassBytes as grammar
use Rattle.class_file.specs.Inputs.{◌>>=◌, Input, Read, read, fault, refused, number_at}
use Rattle.class_file.specs.DescriptorFaults.{field_descriptor_fault, method_descriptor_fault, is_any_field_descriptor, is_any_method_descriptor}
use Rattle.class_file.specs.FormatFaults.{Attributes, Code, or_none, code_at, is_key, descriptor_at, field_at, fields_at, needs_code, method, no_code, with_code, before_code, method_at, methods_at}
use Rattle.class_spelling.proofs.DescriptorKinds.{in_profile}
use Rattle.class_spelling.proofs.Texts.{text_is_itself}
use Rattle.class_spelling.proofs.Members.{Fresh}
use Rattle.class_spelling.proofs.Takes.{Takes, take_then, take_given, take_last, take_as, take_nothing, read_is, take_number2, take_table}
use Rattle.class_spelling.proofs.AttributesTaken.{Added, only_others, with_known, take_text, take_attribute, take_attributes, take_handler}
use Rattle.class_spelling.proofs.InstructionsTaken.{take_code_array}
use Rattle.class_spelling.proofs.FramesTaken.{take_stack_map}

-- ---- code

-- what the grammar says of code that was read
abbrev pub CodeBytes : Slots → Before → Code → List ℕ → Type 0
CodeBytes slots before c bytes =
    NoneIsNamed stack_map_table c.others
    × (U2 c.max_stack ⌢ U2 c.max_locals ⌢ Sized (InstrsAre slots c.instrs) ⌢ Table (HandlerIs slots) c.handlers ⌢ CodeAttributesAre slots before c.frames c.others) bytes

-- known and other attributes, as a grammar has them
all_others : (slots : Slots) (xs : List Attribute) (n : ℕ) (first rest : List ℕ) → U2 n first → length xs ≡ n → Each (AttributeIs slots) xs rest → Table (AttributeIs slots) xs (first ++ rest)
all_others slots xs n first rest is e all = (first, rest, refl, subst (λ (n : ℕ). U2 n first) (sym e) is, all)

parted : (slots : Slots) (wanted : List ℕ) (P : List ℕ → Type 0) (before behind : List Attribute) (n : ℕ) (first rest : List ℕ) → U2 n first → length before + length behind + 1 ≡ n
    → (Each (AttributeIs slots) before ⌢ grammar.KnownIs slots wanted P ⌢ Each (AttributeIs slots) behind) rest → grammar.Among slots wanted P (before ++ behind) (first ++ rest)
parted slots wanted P before behind n first rest is e all =
    (before, behind, refl, (first, rest, refl, subst (λ (n : ℕ). U2 n first) (let f : n ≡ length (before ++ behind) + 1 = omega (arith, length-append before behind) in f) is, all))

none_both : (wanted : List ℕ) (before behind : List Attribute) → NoneIsNamed wanted before → NoneIsNamed wanted behind → NoneIsNamed wanted (before ++ behind)
none_both wanted before behind a b = All-append (λ a. IsFalse (is_text a.name wanted)) before behind a b

abbrev KnownOrNot : {A : Type 0} → Slots → List ℕ → Bool → (A → List ℕ → Type 0) → Attributes A → List ℕ → Type 0
KnownOrNot {A} slots wanted allowed P y bytes = (n : ℕ) × (U2 n ⌢ Added slots wanted allowed P None [] n y) bytes

abbrev FramesOrNone : Slots → Before → List ℕ → Option (List Frame) → List Attribute → Type 0
FramesOrNone slots before bytes known others = NoneIsNamed stack_map_table others × CodeAttributesAre slots before (or_none known) others bytes

frames_or_none : (slots : Slots) (before : Before) (y : Attributes (List Frame)) (n : ℕ) (first rest : List ℕ) → U2 n first → Added slots stack_map_table true (StackMapIs slots before) None [] n y rest → FramesOrNone slots before (first ++ rest) y.known y.others
frames_or_none slots before y n first rest is (only_others xs e f g none all) =
    subst (λ (k : Option (List Frame)). FramesOrNone slots before (first ++ rest) k y.others) (sym e) (subst (FramesOrNone slots before (first ++ rest) None) (sym f) (none, without_frames refl (all_others slots xs n first rest is g all)))
frames_or_none slots before y n first rest is (with_known x ahead behind e f g h i none free all) =
    subst (λ (k : Option (List Frame)). FramesOrNone slots before (first ++ rest) k y.others) (sym g) (subst (FramesOrNone slots before (first ++ rest) (Some x)) (sym h)
    (none_both stack_map_table ahead behind none free, with_frames (parted slots stack_map_table (StackMapIs slots before x) ahead behind n first rest is i all)))

abbrev code : ℕ → ℕ → List Instr → List Handler → Attributes (List Frame) → Code
code stack locals instrs handlers a = record { max_stack = stack; max_locals = locals; instrs = instrs; handlers = handlers; frames = or_none a.known; others = a.others }

-- what code is behind each of its fields
abbrev CodeBehindHandlers : Slots → Before → ℕ → ℕ → List Instr → List Handler → Code → List ℕ → Type 0
CodeBehindHandlers slots before stack locals instrs handlers c bytes = (a : Attributes (List Frame)) × (c ≡ code stack locals instrs handlers a) × KnownOrNot slots stack_map_table true (StackMapIs slots before) a bytes

abbrev CodeBehindArray : Slots → Before → ℕ → ℕ → List Instr → Code → List ℕ → Type 0
CodeBehindArray slots before stack locals instrs c bytes = (handlers : List Handler) × (Table (HandlerIs slots) handlers ⌢ CodeBehindHandlers slots before stack locals instrs handlers c) bytes

abbrev CodeBehindLocals : Slots → Before → ℕ → ℕ → Code → List ℕ → Type 0
CodeBehindLocals slots before stack locals c bytes = (instrs : List Instr) × (Sized (InstrsAre slots instrs) ⌢ CodeBehindArray slots before stack locals instrs c) bytes

abbrev CodeBehindStack : Slots → Before → ℕ → Code → List ℕ → Type 0
CodeBehindStack slots before stack c bytes = (locals : ℕ) × (U2 locals ⌢ CodeBehindLocals slots before stack locals c) bytes

take_code : (slots : Slots) (before : Before) → length before.locals < 2 ^ 16 → Takes (code_at slots before) (CodeBytes slots before)
unfolding code_at
take_code slots before few = take_as (CodeBytes slots before)
    (take_then _ (CodeBehindStack slots before) take_number2 (λ i stack. take_then _ (CodeBehindLocals slots before stack) take_number2 (λ i locals. take_then _ (CodeBehindArray slots before stack locals) (take_code_array slots) (λ i instrs.
    take_then _ (CodeBehindHandlers slots before stack locals instrs) (take_table (take_handler slots)) (λ i handlers.
    take_last (λ j a. read (code stack locals instrs handlers a.value) a.rest) (λ a c. c ≡ code stack locals instrs handlers a) (take_attributes slots stack_map_table true (take_stack_map slots before few)) (λ i j a y e. read_is (code stack locals instrs handlers a) j y e))))))
    (λ c bytes t. let a = t.1 in let b = a.4.1 in let d = b.4.1 in let f = d.4.1 in let g = f.4 in let h = g.2.1 in
    let x = frames_or_none slots before g.0 g.2.0 h.0 h.1 h.3 h.4 in
    subst (λ (z : Code). CodeBytes slots before z bytes) (sym g.1) (x.0, (a.0, a.1, a.2, a.3, (b.0, b.1, b.2, b.3, (d.0, d.1, d.2, d.3, (f.0, f.1, f.2, f.3, subst (CodeAttributesAre slots before (or_none g.0.known) g.0.others) (sym h.2) x.1))))))

-- ---- members that differ

key_is_itself : (k : Key) → is_key k k ≡ true
key_is_itself k = ap₂ (λ a b. a && b) (text_is_itself k.name) (text_is_itself k.descriptor)

neither : (a b : Bool) → (a || b) ≡ false → (a ≡ false) × (b ≡ false)
neither false b e = (refl, e)
neither true b e = absurd cc

differs : (k : Key) (seen ks : List Key) → Fresh (k ∷ seen) ks → All (Differ k) ks
differs k seen [] fresh = All-nil (Differ k)
differs k seen (l ∷ ks) fresh =
    let n = neither (is_key l k) (list_any (is_key l) seen) fresh.0 in
    All-cons (Differ k) l ks (λ e. let f : is_key l k ≡ true = subst (λ (m : Key). is_key m k ≡ true) e (key_is_itself k) in cc) (differs k seen ks fresh.1)

fewer_seen : (k : Key) (seen ks : List Key) → Fresh (k ∷ seen) ks → Fresh seen ks
fewer_seen k seen [] fresh = tt
fewer_seen k seen (l ∷ ks) fresh = ((neither (is_key l k) (list_any (is_key l) seen) fresh.0).1, fewer_seen k seen ks fresh.1)

-- ---- descriptors

refused_is : {A : Type 0} (at : ℕ) (o : Option FormatCode) (b : Bool) (code : FormatCode) (x : A) (j : Input) (y : Read A) → refused at o (cond b (fault code at) (read x j)) ≡ Ok y → (y.rest ≡ j) × (o ≡ None) × (b ≡ false) × (y.value ≡ x)
refused_is at (Some c) b code x j y e = absurd cc
refused_is at None true code x j y e = absurd cc
refused_is at None false code x j y e = let same = read_is x j y e in (same.0, refl, refl, same.1)

take_descriptor : (slots : Slots) (judge : List ℕ → Option FormatCode) (seen : List Key) (name : List ℕ)
    → Takes (descriptor_at slots judge seen name) (λ text bytes. (judge text ≡ None) × (list_any (is_key (record { name = name; descriptor = text })) seen ≡ false) × TextIs slots text bytes)
take_descriptor slots judge seen name = take_as (λ text bytes. (judge text ≡ None) × (list_any (is_key (record { name = name; descriptor = text })) seen ≡ false) × TextIs slots text bytes)
    (take_last (λ i text. refused i.at (judge text.value) (cond (list_any (is_key (record { name = name; descriptor = text.value })) seen) (fault Doubled i.at) (Ok text)))
    (λ text y. (judge text ≡ None) × (list_any (is_key (record { name = name; descriptor = text })) seen ≡ false) × (y ≡ text)) (take_text slots)
    (λ i j text y e. let r = refused_is i.at (judge text) (list_any (is_key (record { name = name; descriptor = text })) seen) Doubled text j y e in (r.0, (r.1, r.2, r.3))))
    (λ y bytes t. subst (λ (z : List ℕ). (judge z ≡ None) × (list_any (is_key (record { name = name; descriptor = z })) seen ≡ false) × TextIs slots z bytes) (sym t.1.2) (t.1.0, t.1.1, t.2))

take_field_descriptor : (slots : Slots) (seen : List Key) (name : List ℕ)
    → Takes (descriptor_at slots field_descriptor_fault seen name) (λ text bytes. (list_any (is_key (record { name = name; descriptor = text })) seen ≡ false) × FieldDescriptorIs slots text bytes)
take_field_descriptor slots seen name = take_as (λ text bytes. (list_any (is_key (record { name = name; descriptor = text })) seen ≡ false) × FieldDescriptorIs slots text bytes) (take_descriptor slots field_descriptor_fault seen name)
    (λ text bytes t. (t.1, (in_profile (is_field_descriptor text) (is_any_field_descriptor text) t.0, t.2)))

take_method_descriptor : (slots : Slots) (seen : List Key) (name : List ℕ)
    → Takes (descriptor_at slots method_descriptor_fault seen name) (λ text bytes. (list_any (is_key (record { name = name; descriptor = text })) seen ≡ false) × MethodDescriptorIs slots text bytes)
take_method_descriptor slots seen name = take_as (λ text bytes. (list_any (is_key (record { name = name; descriptor = text })) seen ≡ false) × MethodDescriptorIs slots text bytes) (take_descriptor slots method_descriptor_fault seen name)
    (λ text bytes t. (t.1, (in_profile (is_method_descriptor text) (is_any_method_descriptor text) t.0, t.2)))

-- ---- fields

abbrev NewField : Slots → List Key → Field → List ℕ → Type 0
NewField slots seen f bytes = (list_any (is_key (field_key f)) seen ≡ false) × FieldIs slots f bytes

abbrev field : ℕ → List ℕ → List ℕ → List Attribute → Field
field flags name descriptor others = record { flags = flags; name = name; descriptor = descriptor; others = others }

-- what a field is behind each of its parts
abbrev FieldBehindDescriptor : Slots → List Key → ℕ → List ℕ → List ℕ → Field → List ℕ → Type 0
FieldBehindDescriptor slots seen flags name descriptor f bytes = (others : List Attribute) × (f ≡ field flags name descriptor others) × Table (AttributeIs slots) others bytes

abbrev FieldBehindName : Slots → List Key → ℕ → List ℕ → Field → List ℕ → Type 0
FieldBehindName slots seen flags name f bytes = (d : List ℕ) × ((λ b. (list_any (is_key (record { name = name; descriptor = d })) seen ≡ false) × FieldDescriptorIs slots d b) ⌢ FieldBehindDescriptor slots seen flags name d f) bytes

abbrev FieldBehindFlags : Slots → List Key → ℕ → Field → List ℕ → Type 0
FieldBehindFlags slots seen flags f bytes = (name : List ℕ) × (TextIs slots name ⌢ FieldBehindName slots seen flags name f) bytes

take_field : (slots : Slots) (seen : List Key) → Takes (field_at slots seen) (NewField slots seen)
unfolding field_at
take_field slots seen = take_as (NewField slots seen)
    (take_then _ (FieldBehindFlags slots seen) take_number2 (λ i flags. take_then _ (FieldBehindName slots seen flags) (take_text slots) (λ i name. take_then _ (FieldBehindDescriptor slots seen flags name) (take_field_descriptor slots seen name) (λ i d.
    take_last (λ j others. read (field flags name d others.value) others.rest) (λ others f. f ≡ field flags name d others) (take_table (take_attribute slots)) (λ i j others y e. read_is (field flags name d others) j y e)))))
    (λ f bytes t. let a = t.1 in let b = a.4.1 in let c = b.4.1 in let d = c.4 in subst (λ (z : Field). NewField slots seen z bytes) (sym d.1) (c.3.0, (a.0, a.1, a.2, a.3, (b.0, b.1, b.2, b.3, (c.0, c.1, c.2, c.3.1, d.2)))))

abbrev NewFields : Slots → ℕ → List Key → List Field → List ℕ → Type 0
NewFields slots n seen fs bytes = (length fs ≡ n) × Fresh seen (map field_key fs) × AllDiffer (map field_key fs) × Each (FieldIs slots) fs bytes

take_fields : (slots : Slots) (n : ℕ) (seen : List Key) → Takes (fields_at slots n seen) (NewFields slots n seen)
unfolding fields_at
take_fields slots zero seen = take_as (NewFields slots 0 seen) (take_nothing []) (λ fs bytes t. subst (λ (gs : List Field). NewFields slots 0 seen gs bytes) (sym t.0) (refl, tt, tt, t.1))
take_fields slots (suc n) seen = take_as (NewFields slots (suc n) seen)
    (take_then (λ i first. fields_at slots n (field_key first.value ∷ seen) first.rest >>= λ others. read (first.value ∷ others.value) others.rest)
    (λ x ys bytes. (xs : List Field) × (ys ≡ x ∷ xs) × NewFields slots n (field_key x ∷ seen) xs bytes) (take_field slots seen)
    (λ i x. take_last (λ j others. read (x ∷ others.value) others.rest) (λ xs ys. ys ≡ x ∷ xs) (take_fields slots n (field_key x ∷ seen)) (λ i j xs y e. read_is (x ∷ xs) j y e)))
    (λ ys bytes t. let s = t.1 in let m = s.4 in let k = field_key t.0 in let ks = map field_key m.0 in subst (λ (zs : List Field). NewFields slots (suc n) seen zs bytes) (sym m.1)
    (ap suc m.2.0, (s.3.0, fewer_seen k seen ks m.2.1), (differs k seen ks m.2.1, m.2.2), (s.0, s.1, s.2, s.3.1, m.2.3)))

pub take_all_fields : (slots : Slots) → Takes (λ i. number_at w16 i >>= λ n. fields_at slots n.value [] n.rest) (λ fs bytes. AllDiffer (map field_key fs) × Table (FieldIs slots) fs bytes)
take_all_fields slots = take_as (λ fs bytes. AllDiffer (map field_key fs) × Table (FieldIs slots) fs bytes) (take_then _ (λ n. NewFields slots n []) take_number2 (λ i n. take_fields slots n []))
    (λ fs bytes t. let s = t.1 in (s.4.2, (s.0, s.1, s.2, subst (λ (n : ℕ). U2 n s.0) (sym s.4.0) s.3, s.4.3)))

-- ---- the locals that a method starts with

parameters_few : (n : ℕ) (us : List ℕ) (p : Parameters) → parameters n us ≡ Some p → length p.types ≤ n
parameters_few n [] p e = absurd cc
parameters_few zero (u ∷ us) p e = go (eqb u 41) e
  where
    go : (b : Bool) → cond b (Some (record { types = []; rest = us })) None ≡ Some p → length p.types ≤ 0
    go true e = let f : [] ≡ p.types = cc in omega (arith, ap length f)
    go false e = absurd cc
parameters_few (suc n) (u ∷ us) p e = go (eqb u 41) (λ t q. parameters_few n t.rest q) e
  where
    one_more : (t : FieldType) (o : Option Parameters) → ((q : Parameters) → o ≡ Some q → length q.types ≤ n) → put_first t o ≡ Some p → length p.types ≤ suc n
    one_more t None more e = absurd cc
    one_more t (Some q) more e = let few = more q refl in let f : t ∷ q.types ≡ p.types = cc in omega (arith, ap length f)

    with_first : (o : Option Typed) → ((t : Typed) (q : Parameters) → parameters n t.rest ≡ Some q → length q.types ≤ n) → with_parameter o (parameters n) ≡ Some p → length p.types ≤ suc n
    with_first None more e = absurd cc
    with_first (Some t) more e = one_more t.type (parameters n t.rest) (more t) e

    go : (b : Bool) → ((t : Typed) (q : Parameters) → parameters n t.rest ≡ Some q → length q.types ≤ n) → cond b (Some (record { types = []; rest = us })) (with_parameter (first_type (u ∷ us)) (parameters n)) ≡ Some p → length p.types ≤ suc n
    go true more e = let f : [] ≡ p.types = cc in omega (arith, ap length f)
    go false more e = with_first (first_type (u ∷ us)) more e

result_keeps : (params : List FieldType) (rest : List ℕ) (s : Signature) → result_of params rest ≡ Some s → s.params ≡ params
result_keeps params [] s e = absurd cc
result_keeps params (u ∷ us) s e = go (eqb u 86) us e
  where
    typed : (o : Option FieldType) → with_result params o ≡ Some s → s.params ≡ params
    typed None e = absurd cc
    typed (Some t) e = cc

    go : (b : Bool) (us : List ℕ) → cond b (elim us [ [] ↦ Some (record { params = params; result = None }) | v ∷ vs ↦ None ]) (with_result params (field_type (u ∷ us))) ≡ Some s → s.params ≡ params
    go true [] e = cc
    go true (v ∷ vs) e = absurd cc
    go false us e = typed (field_type (u ∷ us)) e

parameters_keep : (n : ℕ) (o : Option Parameters) (s : Signature) → ((p : Parameters) → o ≡ Some p → length p.types ≤ n) → behind_parameters o ≡ Some s → length s.params ≤ n
parameters_keep n None s few e = absurd cc
parameters_keep n (Some p) s few e = let le = few p refl in omega (arith, ap length (result_keeps p.types p.rest s e))

signature_few : (u : ℕ) (us : List ℕ) (s : Signature) → signature (u ∷ us) ≡ Some s → length s.params ≤ length us
signature_few u us s e = go (eqb u 40) e
  where
    go : (b : Bool) → cond b (behind_parameters (parameters (length us) us)) None ≡ Some s → length s.params ≤ length us
    go true e = parameters_keep (length us) (parameters (length us) us) s (λ p. parameters_few (length us) us p) e
    go false e = absurd cc

described_few : (n : ℕ) (o : Option Signature) → ((s : Signature) → o ≡ Some s → length s.params ≤ n) → length (call_or_none o).params ≤ n
described_few n None few = omega arith
described_few n (Some s) few = let le = few s refl in omega (arith, length-map s.params type_of_field)

receiver_few : (this : List ℕ) (flags : ℕ) (name : List ℕ) → length (receiver this flags name) ≤ 1
receiver_few this flags name = by (is_static_flag flags) (is_text name (codes "<init>"))
  where
    by : (static constructor : Bool) → length (cond static [] (cond constructor (type.UninitializedThis ∷ []) (type.Object this ∷ []))) ≤ 1
    by true constructor = omega arith
    by false true = omega arith
    by false false = omega arith

-- the texts of the pool are short
abbrev pub AreShort : Slots → Type 0
AreShort slots = (index : ℕ) (text : List ℕ) → grammar.text_at slots index ≡ Some text → length text < 2 ^ 16

few_at_start : (this : List ℕ) (flags : ℕ) (name descriptor : List ℕ) → length descriptor < 2 ^ 16 → length (before_code this flags name descriptor).locals < 2 ^ 16
few_at_start this flags name [] lt = let one = receiver_few this flags name in omega (arith, length-append (receiver this flags name) (described []).params)
few_at_start this flags name (u ∷ us) lt =
    let one = receiver_few this flags name in let few = described_few (length us) (signature (u ∷ us)) (signature_few u us) in
    omega (arith, length-append (receiver this flags name) (described (u ∷ us)).params)

-- ---- methods

-- code that a method has, or may lack
abbrev WithCode : ℕ → List ℕ → List ℕ → Attributes Code → Method → Type 0
WithCode flags name descriptor a m =
    ((c : Code) × (a.known ≡ Some c) × (m ≡ method flags name descriptor a.others c)) ⊎ ((a.known ≡ None) × (needs_code flags name ≡ false) × (m ≡ method flags name descriptor a.others no_code))

with_code_is : (flags : ℕ) (name descriptor : List ℕ) (a : Attributes Code) (j : Input) (y : Read Method) → with_code flags name descriptor a.others j a.known ≡ Ok y → (y.rest ≡ j) × WithCode flags name descriptor a y.value
with_code_is flags name descriptor a j y e = by a.known refl e
  where
    lacks : (b : Bool) → needs_code flags name ≡ b → cond (not b) (read (method flags name descriptor a.others no_code) j) (cond (ltb (length j.bytes) 2) (fault Truncated j.at) (fault BadCode j.at)) ≡ Ok y → a.known ≡ None → (y.rest ≡ j) × WithCode flags name descriptor a y.value
    lacks false is e f = let same = read_is (method flags name descriptor a.others no_code) j y e in (same.0, inr (f, is, same.1))
    lacks true is e f = absurd (late (ltb (length j.bytes) 2) e)
      where
        late : (b : Bool) → cond b (fault {A = Read Method} Truncated j.at) (fault BadCode j.at) ≡ Ok y → ⊥
        late true e = cc
        late false e = cc

    by : (known : Option Code) → a.known ≡ known → with_code flags name descriptor a.others j known ≡ Ok y → (y.rest ≡ j) × WithCode flags name descriptor a y.value
    by (Some c) f e = let same = read_is (method flags name descriptor a.others c) j y e in (same.0, inl (c, f, same.1))
    by None f e = lacks (needs_code flags name) refl e f

abbrev MethodEnds : Slots → List ℕ → Method → List ℕ → Type 0
MethodEnds slots this m bytes = NoneIsNamed code_name m.others × MethodAttributesAre slots this m bytes

none_needed : (a s x y : Bool) → (not a || s || x || y) ≡ false → (a ≡ true) × (s ≡ false) × ((x || y) ≡ false)
none_needed true false false false e = (refl, refl, refl)
none_needed true false false true e = absurd cc
none_needed true false true y e = absurd cc
none_needed true true x y e = absurd cc
none_needed false s x y e = absurd cc

not_abstract : (b : Bool) → not b ≡ true → b ≡ false
not_abstract false e = refl
not_abstract true e = absurd cc

method_ends : (slots : Slots) (this : List ℕ) (flags : ℕ) (name descriptor : List ℕ) (a : Attributes Code) (m : Method) (n : ℕ) (first rest : List ℕ) → U2 n first
    → WithCode flags name descriptor a m → Added slots code_name (not (is_abstract_flag flags)) (CodeBytes slots (before_code this flags name descriptor)) None [] n a rest → MethodEnds slots this m (first ++ rest)
method_ends slots this flags name descriptor a m n first rest is (inl c) (only_others xs e f g none all) = let h = c.1 in absurd (no_code_there a.known c.0 e h)
  where
    no_code_there : (o : Option Code) (c : Code) → o ≡ None → o ≡ Some c → ⊥
    no_code_there o c e f = cc
method_ends slots this flags name descriptor a m n first rest is (inr c) (only_others xs e f g none all) =
    let needs = none_needed (is_abstract_flag flags) (is_static_flag flags) (is_text name (codes "<init>")) (is_text name (codes "<clinit>")) c.1 in
    let made : m ≡ method flags name descriptor xs no_code = c.2 ∙ ap (λ (o : List Attribute). method flags name descriptor o no_code) f in
    subst (λ (m : Method). MethodEnds slots this m (first ++ rest)) (sym made) (
      none,
      without_code
          (record { abstract_flag = needs.0; not_static = needs.1; no_initialiser = needs.2; no_stack = refl; no_locals = refl; no_instructions = refl; no_handlers = refl; no_frames = refl; no_code_others = refl })
          (all_others slots xs n first rest is g all),
    )
method_ends slots this flags name descriptor a m n first rest is (inr c) (with_known x ahead behind e f g h i none free all) = absurd (no_code_there a.known x c.0 g)
  where
    no_code_there : (o : Option Code) (c : Code) → o ≡ None → o ≡ Some c → ⊥
    no_code_there o c e f = cc
method_ends slots this flags name descriptor a m n first rest is (inl c) (with_known x ahead behind e f g h i none free all) =
    let same : c.0 ≡ x = same_code a.known c.0 x c.1 g in
    let made : m ≡ method flags name descriptor (ahead ++ behind) x = c.2 ∙ ap (λ (o : List Attribute). method flags name descriptor o c.0) h ∙ ap (method flags name descriptor (ahead ++ behind)) same in
    subst (λ (m : Method). MethodEnds slots this m (first ++ rest)) (sym made)
    (none_both code_name ahead behind none free, grammar.with_code (not_abstract (is_abstract_flag flags) f) (parted slots code_name (CodeBytes slots (before_code this flags name descriptor) x) ahead behind n first rest is i all))
  where
    same_code : (o : Option Code) (c x : Code) → o ≡ Some c → o ≡ Some x → c ≡ x
    same_code o c x e f = cc

abbrev NewMethod : Slots → List ℕ → List Key → Method → List ℕ → Type 0
NewMethod slots this seen m bytes = (list_any (is_key (method_key m)) seen ≡ false) × MethodIs slots this m bytes

-- what a method is behind each of its parts
abbrev MethodBehindDescriptor : Slots → List ℕ → ℕ → List ℕ → List ℕ → Method → List ℕ → Type 0
MethodBehindDescriptor slots this flags name d m bytes = (a : Attributes Code) × WithCode flags name d a m × KnownOrNot slots code_name (not (is_abstract_flag flags)) (CodeBytes slots (before_code this flags name d)) a bytes

abbrev MethodBehindName : Slots → List ℕ → List Key → ℕ → List ℕ → Method → List ℕ → Type 0
MethodBehindName slots this seen flags name m bytes = (d : List ℕ) × ((λ b. (list_any (is_key (record { name = name; descriptor = d })) seen ≡ false) × MethodDescriptorIs slots d b) ⌢ MethodBehindDescriptor slots this flags name d m) bytes

abbrev MethodBehindFlags : Slots → List ℕ → List Key → ℕ → Method → List ℕ → Type 0
MethodBehindFlags slots this seen flags m bytes = (name : List ℕ) × (TextIs slots name ⌢ MethodBehindName slots this seen flags name m) bytes

-- the fields of a method that was read
record Head (flags : ℕ) (name d : List ℕ) (m : Method) : Type 0 where
  flags_are : m.flags ≡ flags
  name_is : m.name ≡ name
  descriptor_is : m.descriptor ≡ d

head_of : (flags : ℕ) (name d : List ℕ) (a : Attributes Code) (m : Method) → WithCode flags name d a m → Head flags name d m
head_of flags name d a m (inl c) = subst (Head flags name d) (sym c.2) (record { flags_are = refl; name_is = refl; descriptor_is = refl })
head_of flags name d a m (inr c) = subst (Head flags name d) (sym c.2) (record { flags_are = refl; name_is = refl; descriptor_is = refl })

take_method : (slots : Slots) (this : List ℕ) (seen : List Key) → AreShort slots → Takes (method_at slots this seen) (NewMethod slots this seen)
unfolding method_at
take_method slots this seen short = take_as (NewMethod slots this seen)
    (take_then _ (MethodBehindFlags slots this seen) take_number2 (λ i flags. take_then _ (MethodBehindName slots this seen flags) (take_text slots) (λ i name. take_given _ (MethodBehindDescriptor slots this flags name) (take_method_descriptor slots seen name) (λ i d piece is.
    take_last (λ j a. with_code flags name d a.value.others a.rest a.value.known) (λ a m. WithCode flags name d a m)
    (take_attributes slots code_name (not (is_abstract_flag flags)) (take_code slots (before_code this flags name d) (few_at_start this flags name d (short is.1.1.0 d is.1.1.1)))) (λ i j a y e. with_code_is flags name d a j y e)))))
    (λ m bytes t. let a = t.1 in let b = a.4.1 in let c = b.4.1 in let d = c.4 in let n = d.2.1 in
    let h = head_of t.0 a.4.0 b.4.0 d.0 m d.1 in
    let ends = method_ends slots this t.0 a.4.0 b.4.0 d.0 m d.2.0 n.0 n.1 n.3 d.1 n.4 in (
      subst (λ (k : Key). list_any (is_key k) seen ≡ false) (ap₂ (λ (x y : List ℕ). record { name = x; descriptor = y }) (sym h.name_is) (sym h.descriptor_is)) c.3.0,
      (
        ends.0,
        (
          a.0,
          a.1,
          a.2,
          subst (λ (f : ℕ). U2 f a.0) (sym h.flags_are) a.3,
          (
            b.0,
            b.1,
            b.2,
            subst (λ (x : List ℕ). TextIs slots x b.0) (sym h.name_is) b.3,
            (c.0, c.1, c.2, subst (λ (x : List ℕ). MethodDescriptorIs slots x c.0) (sym h.descriptor_is) c.3.1, subst (MethodAttributesAre slots this m) (sym n.2) ends.1),
          ),
        ),
      ),
    ))

abbrev NewMethods : Slots → List ℕ → ℕ → List Key → List Method → List ℕ → Type 0
NewMethods slots this n seen ms bytes = (length ms ≡ n) × Fresh seen (map method_key ms) × AllDiffer (map method_key ms) × Each (MethodIs slots this) ms bytes

take_methods : (slots : Slots) (this : List ℕ) (n : ℕ) (seen : List Key) → AreShort slots → Takes (methods_at slots this n seen) (NewMethods slots this n seen)
unfolding methods_at
take_methods slots this zero seen short = take_as (NewMethods slots this 0 seen) (take_nothing []) (λ ms bytes t. subst (λ (gs : List Method). NewMethods slots this 0 seen gs bytes) (sym t.0) (refl, tt, tt, t.1))
take_methods slots this (suc n) seen short = take_as (NewMethods slots this (suc n) seen)
    (take_then (λ i first. methods_at slots this n (method_key first.value ∷ seen) first.rest >>= λ others. read (first.value ∷ others.value) others.rest)
    (λ x ys bytes. (xs : List Method) × (ys ≡ x ∷ xs) × NewMethods slots this n (method_key x ∷ seen) xs bytes) (take_method slots this seen short)
    (λ i x. take_last (λ j others. read (x ∷ others.value) others.rest) (λ xs ys. ys ≡ x ∷ xs) (take_methods slots this n (method_key x ∷ seen) short) (λ i j xs y e. read_is (x ∷ xs) j y e)))
    (λ ys bytes t. let s = t.1 in let m = s.4 in let k = method_key t.0 in let ks = map method_key m.0 in subst (λ (zs : List Method). NewMethods slots this (suc n) seen zs bytes) (sym m.1)
    (ap suc m.2.0, (s.3.0, fewer_seen k seen ks m.2.1), (differs k seen ks m.2.1, m.2.2), (s.0, s.1, s.2, s.3.1, m.2.3)))

pub take_all_methods : (slots : Slots) (this : List ℕ) → AreShort slots → Takes (λ i. number_at w16 i >>= λ n. methods_at slots this n.value [] n.rest) (λ ms bytes. AllDiffer (map method_key ms) × Table (MethodIs slots this) ms bytes)
take_all_methods slots this short = take_as (λ ms bytes. AllDiffer (map method_key ms) × Table (MethodIs slots this) ms bytes) (take_then _ (λ n. NewMethods slots this n []) take_number2 (λ i n. take_methods slots this n [] short))
    (λ ms bytes t. let s = t.1 in (s.4.2, (s.0, s.1, s.2, subst (λ (n : ℕ). U2 n s.0) (sym s.4.0) s.3, s.4.3)))

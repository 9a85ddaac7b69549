-- Code, fields and methods that are spelled are read.
use Rattle.std.proofs.Common.{◌≡◌, ℕ, Bool, true, false, cond, ltb, List, [], ◌∷◌, length, Option, Some, None, refl, sym, ap, ap₂, ◌∙◌, All, true≢false, inl, inr}
use Rattle.std.specs.Prelude.{◌||◌, not, codes, map}
use Rattle.std.specs.List.{list_any, AllByRecursion}
use Rattle.std.specs.Int.{w16}
use Rattle.std.proofs.lemmas.Bool.{cases_Bool}
use Rattle.std.proofs.lemmas.List.Elements.{All-head, All-tail}
use Rattle.class_file.specs.declared.class.Attribute.{Attribute}
use Rattle.class_file.specs.declared.class.Field.{Field}
use Rattle.class_file.specs.declared.class.Frame.{Frame}
use Rattle.class_file.specs.declared.class.Handler.{Handler}
use Rattle.class_file.specs.declared.class.Method.{Method}
use Rattle.class_file.specs.declared.instr.Instr.{Instr}
use Rattle.class_file.specs.declared.format_fault.FormatCode.{FormatCode}
use Rattle.class_file.specs.declared.format_fault.FormatCode.TheVariants.{Doubled, Truncated, BadCode}
use Rattle.class_file.specs.Pools.{Slots, is_text}
use Rattle.class_file.specs.Classes.{is_abstract_flag, is_static_flag}
use Rattle.class_file.specs.ClassBytes.{◌⌢◌, Is, U2, Each, Table, TextIs, FieldDescriptorIs, MethodDescriptorIs, is_field_descriptor, is_method_descriptor, AttributeIs, NoneIsNamed, Before, at_start, code_name, stack_map_table, CodeAttributesAre, with_frames, without_frames, CodeIs, FieldIs, HasNoCode, MethodAttributesAre, without_code, MethodIs, Key, field_key, method_key, Differ, AllDiffer}
use Rattle.class_file.specs.ClassBytes as grammar
use Rattle.class_file.specs.Inputs.{◌>>=◌, Input, Read, Reading, read, fault, refused, number_at}
use Rattle.class_file.specs.DescriptorFaults.{unless, field_descriptor_fault, method_descriptor_fault, is_any_field_descriptor, is_any_method_descriptor}
use Rattle.class_file.specs.FormatFaults.{Attributes, attributes, attributes_among, stack_map_at, Code, or_none, code_at, is_key, descriptor_at, field_at, fields_at, method, no_code, with_code, before_code, method_at, methods_at}
use Rattle.class_spelling.proofs.Texts.{both_true, same_text}
use Rattle.class_spelling.proofs.Gives.{Gives, then, last, number2, at_piece, nothing_read, table_gives}
use Rattle.class_spelling.proofs.Attributes.{text_gives, attribute_gives, handler_gives, all_others_give, among_gives}
use Rattle.class_spelling.proofs.Instructions.{code_array_gives}
use Rattle.class_spelling.proofs.Frames.{stack_map_gives}

-- ---- code

-- the attributes of code, by the bytes
record AttributesGive (slots : Slots) (before : Before) (frames : List Frame) (others : List Attribute) (bytes : List ℕ) : Type 0 where
  known : Option (List Frame)
  frames_are : or_none known ≡ frames
  give : Gives (attributes_among slots stack_map_table true (stack_map_at slots before)) (Is bytes) (attributes known others)

code_attributes_give : (slots : Slots) (before : Before) (frames : List Frame) (others : List Attribute) (bytes : List ℕ) → NoneIsNamed stack_map_table others → CodeAttributesAre slots before frames others bytes → AttributesGive slots before frames others bytes
code_attributes_give slots before frames others bytes none (with_frames among) =
    record { known = Some frames; frames_are = refl; give = at_piece (among_gives (stack_map_at slots before) slots stack_map_table others none (stack_map_gives slots before frames)) bytes among }
code_attributes_give slots before frames others bytes none (without_frames e all) =
    record { known = None; frames_are = sym e; give = at_piece (all_others_give (stack_map_at slots before) slots stack_map_table true others none) bytes all }

abbrev code_of : Method → Code
code_of m = record { max_stack = m.max_stack; max_locals = m.max_locals; instrs = m.code; handlers = m.handlers; frames = m.frames; others = m.code_others }

abbrev with_attributes : Method → Read (Attributes (List Frame)) → Reading Code
with_attributes m a = read (record { max_stack = m.max_stack; max_locals = m.max_locals; instrs = m.code; handlers = m.handlers; frames = or_none a.value.known; others = a.value.others }) a.rest

ended : (slots : Slots) (before : Before) (m : Method) (bytes : List ℕ) → AttributesGive slots before m.frames m.code_others bytes
    → Gives (λ i. attributes_among slots stack_map_table true (stack_map_at slots before) i >>= with_attributes m) (Is bytes) (code_of m)
ended slots before m bytes a = last (λ i. with_attributes m) a.give (λ i j. ap (λ (frames : List Frame). read (record { max_stack = m.max_stack; max_locals = m.max_locals; instrs = m.code; handlers = m.handlers; frames = frames; others = m.code_others }) j) a.frames_are)

end_gives : (slots : Slots) (before : Before) (m : Method) → NoneIsNamed stack_map_table m.code_others
    → Gives (λ i. attributes_among slots stack_map_table true (stack_map_at slots before) i >>= with_attributes m) (CodeAttributesAre slots before m.frames m.code_others) (code_of m)
end_gives slots before m none = record { gives = λ at piece rest is. (ended slots before m piece (code_attributes_give slots before m.frames m.code_others piece none is)).gives at piece rest refl }

code_parts_give : (slots : Slots) (this : List ℕ) (m : Method) → NoneIsNamed stack_map_table m.code_others
    → Gives (code_at slots (at_start this m)) (U2 m.max_stack ⌢ U2 m.max_locals ⌢ grammar.Sized (grammar.InstrsAre slots m.code) ⌢ Table (grammar.HandlerIs slots) m.handlers ⌢ CodeAttributesAre slots (at_start this m) m.frames m.code_others) (code_of m)
unfolding code_at
code_parts_give slots this m none = then _ (number2 m.max_stack) (λ i. then _ (number2 m.max_locals) (λ i. then _ (code_array_gives slots m.code) (λ i. then _ (table_gives (handler_gives slots) m.handlers) (λ i. end_gives slots (at_start this m) m none))))

code_gives : (slots : Slots) (this : List ℕ) (m : Method) → Gives (code_at slots (at_start this m)) (CodeIs slots this m) (code_of m)
code_gives slots this m = record { gives = λ at piece rest is. (code_parts_give slots this m is.0).gives at piece rest is.1 }

-- ---- members that differ

same_key : (k l : Key) → is_key k l ≡ true → l ≡ k
same_key k l e = let both = both_true (is_text k.name l.name) (is_text k.descriptor l.descriptor) e in
    ap₂ (λ (n d : List ℕ). record { name = n; descriptor = d }) (sym (same_text k.name l.name both.0)) (sym (same_text k.descriptor l.descriptor both.1))

-- none of the members was seen
abbrev pub Fresh : List Key → List Key → Type 0
Fresh seen = AllByRecursion (λ k. list_any (is_key k) seen ≡ false)

no_keys_seen : (ks : List Key) → Fresh [] ks
no_keys_seen [] = tt
no_keys_seen (k ∷ ks) = (refl, no_keys_seen ks)

one_more : (k l : Key) (seen : List Key) → Differ k l → list_any (is_key l) seen ≡ false → list_any (is_key l) (k ∷ seen) ≡ false
one_more k l seen differ e = elim (cases_Bool (is_key l k)) [
  | inl same ↦ absurd (differ (same_key l k same))
  | inr other ↦ ap₂ (λ a b. a || b) other e
]

more_seen : (k : Key) (seen ks : List Key) → All (Differ k) ks → Fresh seen ks → Fresh (k ∷ seen) ks
more_seen k seen [] differ fresh = tt
more_seen k seen (l ∷ ks) differ fresh = (one_more k l seen (All-head (Differ k) l ks differ) fresh.0, more_seen k seen ks (All-tail (Differ k) l ks differ) fresh.1)

-- ---- descriptors

descriptor_is : (slots : Slots) (judge : List ℕ → Option FormatCode) (seen : List Key) (name text : List ℕ) → judge text ≡ None → list_any (is_key (record { name = name; descriptor = text })) seen ≡ false
    → Gives (descriptor_at slots judge seen name) (TextIs slots text) text
descriptor_is slots judge seen name text fits fresh = last _ (text_gives slots text) (λ i j.
    ap (λ (o : Option FormatCode). refused i.at o (cond (list_any (is_key (record { name = name; descriptor = text })) seen) (fault Doubled i.at) (read text j))) fits
    ∙ ap (λ (b : Bool). cond b (fault Doubled i.at) (read text j)) fresh)

field_descriptor_gives : (slots : Slots) (seen : List Key) (name text : List ℕ) → list_any (is_key (record { name = name; descriptor = text })) seen ≡ false
    → Gives (descriptor_at slots field_descriptor_fault seen name) (FieldDescriptorIs slots text) text
field_descriptor_gives slots seen name text fresh = record {
  gives = λ at piece rest is.
      (descriptor_is slots field_descriptor_fault seen name text (ap (λ (b : Bool). unless b (is_any_field_descriptor text)) is.0) fresh).gives at piece rest is.1;
}

method_descriptor_gives : (slots : Slots) (seen : List Key) (name text : List ℕ) → list_any (is_key (record { name = name; descriptor = text })) seen ≡ false
    → Gives (descriptor_at slots method_descriptor_fault seen name) (MethodDescriptorIs slots text) text
method_descriptor_gives slots seen name text fresh = record {
  gives = λ at piece rest is.
      (descriptor_is slots method_descriptor_fault seen name text (ap (λ (b : Bool). unless b (is_any_method_descriptor text)) is.0) fresh).gives at piece rest is.1;
}

-- ---- fields

field_gives : (slots : Slots) (seen : List Key) (f : Field) → list_any (is_key (field_key f)) seen ≡ false → Gives (field_at slots seen) (FieldIs slots f) f
unfolding field_at
field_gives slots seen f fresh = then _ (number2 f.flags) (λ i. then _ (text_gives slots f.name) (λ i. then _ (field_descriptor_gives slots seen f.name f.descriptor fresh) (λ i. last _ (table_gives (attribute_gives slots) f.others) (λ i j. refl))))

fields_give : (slots : Slots) (seen : List Key) (fs : List Field) → Fresh seen (map field_key fs) → AllDiffer (map field_key fs) → Gives (fields_at slots (length fs) seen) (Each (FieldIs slots) fs) fs
unfolding fields_at
fields_give slots seen [] fresh differ = nothing_read []
fields_give slots seen (f ∷ fs) fresh differ = then _ (field_gives slots seen f fresh.0) (λ i. last _ (fields_give slots (field_key f ∷ seen) fs (more_seen (field_key f) seen (map field_key fs) differ.0 fresh.1) differ.1) (λ i j. refl))

pub all_fields_give : (slots : Slots) (fs : List Field) → AllDiffer (map field_key fs) → Gives (λ i. number_at w16 i >>= λ n. fields_at slots n.value [] n.rest) (Table (FieldIs slots) fs) fs
all_fields_give slots fs differ = then _ (number2 (length fs)) (λ i. fields_give slots [] fs (no_keys_seen (map field_key fs)) differ)

-- ---- methods

abbrev attributes_of : Slots → List ℕ → Method → Input → Reading (Attributes Code)
attributes_of slots this m = attributes_among slots code_name (not (is_abstract_flag m.flags)) (code_at slots (before_code this m.flags m.name m.descriptor))

record CodeGives (slots : Slots) (this : List ℕ) (m : Method) (bytes : List ℕ) : Type 0 where
  known : Option Code
  is : (i : Input) → with_code m.flags m.name m.descriptor m.others i known ≡ read m i
  give : Gives (attributes_of slots this m) (Is bytes) (attributes known m.others)

-- a method without code
bare : (m : Method) → HasNoCode m → (i : Input) → with_code m.flags m.name m.descriptor m.others i None ≡ read m i
bare m none i =
    let free = needs_none (is_abstract_flag m.flags) (is_static_flag m.flags) (is_text m.name (codes "<init>")) (is_text m.name (codes "<clinit>")) none.abstract_flag none.not_static none.no_initialiser in
    ap (λ (b : Bool). cond (not b) (read (method m.flags m.name m.descriptor m.others no_code) i) (cond (ltb (length i.bytes) 2) (fault Truncated i.at) (fault BadCode i.at))) free
    ∙ ap (λ (m : Method). read m i) (emptied m none)
  where
    needs_none : (a s x y : Bool) → a ≡ true → s ≡ false → (x || y) ≡ false → (not a || s || x || y) ≡ false
    needs_none true false false false e f g = refl
    needs_none true false false true e f g = absurd (true≢false g)
    needs_none true false true y e f g = absurd (true≢false g)
    needs_none true true x y e f g = absurd (true≢false f)
    needs_none false s x y e f g = absurd (true≢false (sym e))

    filled : (st lo : ℕ) (co : List Instr) (ha : List Handler) (fr : List Frame) (ot : List Attribute) → st ≡ 0 → lo ≡ 0 → co ≡ [] → ha ≡ [] → fr ≡ [] → ot ≡ []
        → no_code ≡ record { max_stack = st; max_locals = lo; instrs = co; handlers = ha; frames = fr; others = ot }
    filled st lo co ha fr ot a b c d e f = cc

    emptied : (m : Method) → HasNoCode m → method m.flags m.name m.descriptor m.others no_code ≡ m
    emptied m none = ap (method m.flags m.name m.descriptor m.others) (filled m.max_stack m.max_locals m.code m.handlers m.frames m.code_others none.no_stack none.no_locals none.no_instructions none.no_handlers none.no_frames none.no_code_others)

code_attribute_gives : (slots : Slots) (this : List ℕ) (m : Method) (bytes : List ℕ) → NoneIsNamed code_name m.others → MethodAttributesAre slots this m bytes → CodeGives slots this m bytes
code_attribute_gives slots this m bytes none (grammar.with_code flag among) =
    record { known = Some (code_of m); is = λ i. refl; give = at_piece (allowed (is_abstract_flag m.flags) flag) bytes among }
  where
    allowed : (b : Bool) → b ≡ false → Gives (attributes_among slots code_name (not b) (code_at slots (at_start this m))) (grammar.Among slots code_name (CodeIs slots this m) m.others) (attributes (Some (code_of m)) m.others)
    allowed true e = absurd (true≢false e)
    allowed false e = among_gives (code_at slots (at_start this m)) slots code_name m.others none (code_gives slots this m)
code_attribute_gives slots this m bytes none (without_code bare_code all) =
    record { known = None; is = bare m bare_code; give = at_piece (all_others_give (code_at slots (at_start this m)) slots code_name (not (is_abstract_flag m.flags)) m.others none) bytes all }

method_ended : (slots : Slots) (this : List ℕ) (m : Method) (bytes : List ℕ) → CodeGives slots this m bytes
    → Gives (λ i. attributes_of slots this m i >>= λ a. with_code m.flags m.name m.descriptor a.value.others a.rest a.value.known) (Is bytes) m
method_ended slots this m bytes c = last (λ i a. with_code m.flags m.name m.descriptor a.value.others a.rest a.value.known) c.give (λ i j. c.is j)

method_end_gives : (slots : Slots) (this : List ℕ) (m : Method) → NoneIsNamed code_name m.others
    → Gives (λ i. attributes_of slots this m i >>= λ a. with_code m.flags m.name m.descriptor a.value.others a.rest a.value.known) (MethodAttributesAre slots this m) m
method_end_gives slots this m none = record { gives = λ at piece rest is. (method_ended slots this m piece (code_attribute_gives slots this m piece none is)).gives at piece rest refl }

method_parts_give : (slots : Slots) (this : List ℕ) (seen : List Key) (m : Method) → list_any (is_key (method_key m)) seen ≡ false → NoneIsNamed code_name m.others
    → Gives (method_at slots this seen) (U2 m.flags ⌢ TextIs slots m.name ⌢ MethodDescriptorIs slots m.descriptor ⌢ MethodAttributesAre slots this m) m
unfolding method_at
method_parts_give slots this seen m fresh none = then _ (number2 m.flags) (λ i. then _ (text_gives slots m.name) (λ i. then _ (method_descriptor_gives slots seen m.name m.descriptor fresh) (λ i. method_end_gives slots this m none)))

method_gives : (slots : Slots) (this : List ℕ) (seen : List Key) (m : Method) → list_any (is_key (method_key m)) seen ≡ false → Gives (method_at slots this seen) (MethodIs slots this m) m
method_gives slots this seen m fresh = record { gives = λ at piece rest is. (method_parts_give slots this seen m fresh is.0).gives at piece rest is.1 }

methods_give : (slots : Slots) (this : List ℕ) (seen : List Key) (ms : List Method) → Fresh seen (map method_key ms) → AllDiffer (map method_key ms) → Gives (methods_at slots this (length ms) seen) (Each (MethodIs slots this) ms) ms
unfolding methods_at
methods_give slots this seen [] fresh differ = nothing_read []
methods_give slots this seen (m ∷ ms) fresh differ = then _ (method_gives slots this seen m fresh.0) (λ i. last _ (methods_give slots this (method_key m ∷ seen) ms (more_seen (method_key m) seen (map method_key ms) differ.0 fresh.1) differ.1) (λ i j. refl))

pub all_methods_give : (slots : Slots) (this : List ℕ) (ms : List Method) → AllDiffer (map method_key ms) → Gives (λ i. number_at w16 i >>= λ n. methods_at slots this n.value [] n.rest) (Table (MethodIs slots this) ms) ms
all_methods_give slots this ms differ = then _ (number2 (length ms)) (λ i. methods_give slots this [] ms (no_keys_seen (map method_key ms)) differ)

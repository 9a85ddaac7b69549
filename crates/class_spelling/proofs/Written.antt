-- Where any bytes spell a class, those that are written do, and they are no more.
use Rattle.std.proofs.Common.{◌≡◌, ℕ, ◌+◌, ◌^◌, ◌<◌, ◌≤◌, List, [], ◌∷◌, ◌++◌, length, refl, ap, subst, ◌∙◌, append_assoc, arith, length-append}
use Rattle.std.specs.List.{flat_map}
use Rattle.class_file.specs.declared.class.Attribute.{Attribute}
use Rattle.class_file.specs.declared.class.Field.{Field}
use Rattle.class_file.specs.declared.class.Frame.{Frame}
use Rattle.class_file.specs.declared.class.Handler.{Handler}
use Rattle.class_file.specs.declared.class.Method.{Method}
use Rattle.class_file.specs.declared.class.ClassFile.{ClassFile}
use Rattle.class_file.specs.declared.instr.Instr.{Instr}
use Rattle.class_file.specs.Pools.{Slots}
use Rattle.class_file.specs.InstrBytes.{u2, u4, instr_bytes}
use Rattle.class_file.specs.ClassBytes.{◌⌢◌, U2, Each, Table, Sized, PoolIs, pool_bytes, TextIs, MethodDescriptorIs, AttributeIs, Before, at_start, stack_map_table, code_name, InstrIs, InstrsAre, CatchTypeIs, HandlerIs, CodeAttributesAre, with_frames, without_frames, CodeIs, FieldIs, MethodAttributesAre, with_code, without_code, MethodIs, magic, major_version, PartsAre}
use Rattle.class_file.specs.WrittenClass.{table_bytes, attribute_bytes, name_bytes, handler_bytes, code_attributes_bytes, code_bytes, field_bytes, method_attributes_bytes, method_bytes, class_bytes}
use Rattle.class_spelling.specs.Laws.{WrittenSpells, WrittenIsNoLonger}
use Rattle.class_spelling.proofs.Writes.{Writes, write_exact, write_then, write_as, write_number2, write_table, write_size, write_text, write_class_name, write_field_descriptor, write_method_descriptor, write_attribute, write_others, write_among}
use Rattle.class_spelling.proofs.WritesFrames.{write_stack_map}

-- ---- code

instructions_are : (slots : Slots) (code : List Instr) (bytes : List ℕ) → Each (InstrIs slots) code bytes → bytes ≡ flat_map instr_bytes code
instructions_are slots [] bytes e = e
instructions_are slots (i ∷ code) bytes e = e.2 ∙ ap (λ (b : List ℕ). b ++ e.1) e.3.1 ∙ ap (λ (b : List ℕ). instr_bytes i ++ b) (instructions_are slots code e.1 e.4)

pub write_instructions : (slots : Slots) (code : List Instr) → Writes (InstrsAre slots code) (flat_map instr_bytes code)
write_instructions slots code = record {
  writes = λ bytes e.
      let is = instructions_are slots code bytes e.2 in (subst (InstrsAre slots code) is e, omega (arith, ap length is));
}

write_catch_type : (slots : Slots) (index : ℕ) → Writes (CatchTypeIs slots index) (u2 index)
write_catch_type slots index = record { writes = λ bytes e. let x = (write_number2 index).writes bytes e.1 in ((e.0, x.0), x.1) }

pub write_handler : (slots : Slots) (h : Handler) → Writes (HandlerIs slots h) (handler_bytes h)
write_handler slots h = write_then (write_number2 h.start) (write_then (write_number2 h.end) (write_then (write_number2 h.at) (write_catch_type slots h.catch_type)))

-- the others alone
alone : (slots : Slots) (others : List Attribute) (known : List ℕ) (bytes : List ℕ) → Each (AttributeIs slots) others (flat_map (attribute_bytes slots) others) → length others + 1 < 2 ^ 16
    → 2 + (length known + length (flat_map (attribute_bytes slots) others)) ≤ length bytes → Table (AttributeIs slots) others (table_bytes (attribute_bytes slots) others) × (length (table_bytes (attribute_bytes slots) others) ≤ length bytes)
alone slots others known bytes all few long = let w = flat_map (attribute_bytes slots) others in ((u2 (length others), w, refl, (omega arith, refl), all), omega (arith, long, length-append (u2 (length others)) w))

code_attributes : (slots : Slots) (before : Before) (frames : List Frame) (others : List Attribute) (bytes : List ℕ) → CodeAttributesAre slots before frames others bytes
    → CodeAttributesAre slots before frames others (code_attributes_bytes slots before frames others) × (length (code_attributes_bytes slots before frames others) ≤ length bytes)
code_attributes slots before [] others bytes (with_frames among) =
    let o = write_others slots stack_map_table others bytes among in let x = alone slots others o.0 bytes o.2 o.3 o.4 in (without_frames refl x.0, x.1)
code_attributes slots before [] others bytes (without_frames e all) = let x = (write_table (attribute_bytes slots) (write_attribute slots) others).writes bytes all in (without_frames refl x.0, x.1)
code_attributes slots before (f ∷ fs) others bytes (with_frames among) = let x = (write_among slots stack_map_table others (write_stack_map slots before (f ∷ fs))).writes bytes among in (with_frames x.0, x.1)
code_attributes slots before (f ∷ fs) others bytes (without_frames e all) = absurd cc

pub write_code_attributes : (slots : Slots) (before : Before) (frames : List Frame) (others : List Attribute) → Writes (CodeAttributesAre slots before frames others) (code_attributes_bytes slots before frames others)
write_code_attributes slots before frames others = record { writes = λ bytes e. code_attributes slots before frames others bytes e }

pub write_code : (slots : Slots) (this : List ℕ) (m : Method) → Writes (CodeIs slots this m) (code_bytes slots this m)
write_code slots this m = record { writes = λ bytes e. let x = parts.writes bytes e.1 in ((e.0, x.0), x.1) }
  where
    parts : Writes (U2 m.max_stack ⌢ U2 m.max_locals ⌢ Sized (InstrsAre slots m.code) ⌢ Table (HandlerIs slots) m.handlers ⌢ CodeAttributesAre slots (at_start this m) m.frames m.code_others) (code_bytes slots this m)
    parts = write_as (code_bytes slots this m) (write_then (write_number2 m.max_stack) (write_then (write_number2 m.max_locals) (write_then (write_size (write_instructions slots m.code)) (write_then (write_table handler_bytes (write_handler slots) m.handlers)
        (write_code_attributes slots (at_start this m) m.frames m.code_others))))) (simp append_assoc)

-- ---- members

pub write_field : (slots : Slots) (f : Field) → Writes (FieldIs slots f) (field_bytes slots f)
write_field slots f = write_then (write_number2 f.flags) (write_then (write_text slots f.name) (write_then (write_field_descriptor slots f.descriptor) (write_table (attribute_bytes slots) (write_attribute slots) f.others)))

no_instructions : (slots : Slots) (this : List ℕ) (m : Method) (body : List ℕ) → CodeIs slots this m body → m.code ≡ [] → ⊥
no_instructions slots this m body code e =
    let instrs = code.1.4.4.3.3 in
    let none : instrs.2 ≡ instrs.2 = refl in
    let is = instructions_are slots m.code code.1.4.4.3.0 instrs.2 ∙ ap (flat_map instr_bytes) e in
    omega (arith, instrs.0, ap length is)

method_attributes : (slots : Slots) (this : List ℕ) (m : Method) (code : List Instr) (bytes : List ℕ) → m.code ≡ code → MethodAttributesAre slots this m bytes
    → MethodAttributesAre slots this m (method_attributes_bytes slots this m code) × (length (method_attributes_bytes slots this m code) ≤ length bytes)
method_attributes slots this m [] bytes e (with_code flag among) = let body = among.3.4.4.3.4 in absurd (no_instructions slots this m body.0 body.3 e)
method_attributes slots this m [] bytes e (without_code none all) = let x = (write_table (attribute_bytes slots) (write_attribute slots) m.others).writes bytes all in (without_code none x.0, x.1)
method_attributes slots this m (i ∷ is) bytes e (with_code flag among) = let x = (write_among slots code_name m.others (write_code slots this m)).writes bytes among in (with_code flag x.0, x.1)
method_attributes slots this m (i ∷ is) bytes e (without_code none all) = let f = none.no_instructions in absurd cc

write_method_attributes : (slots : Slots) (this : List ℕ) (m : Method) → Writes (MethodAttributesAre slots this m) (method_attributes_bytes slots this m m.code)
write_method_attributes slots this m = record { writes = λ bytes e. method_attributes slots this m m.code bytes refl e }

pub write_method : (slots : Slots) (this : List ℕ) (m : Method) → Writes (MethodIs slots this m) (method_bytes slots this m)
write_method slots this m = record { writes = λ bytes e. let x = parts.writes bytes e.1 in ((e.0, x.0), x.1) }
  where
    parts : Writes (U2 m.flags ⌢ TextIs slots m.name ⌢ MethodDescriptorIs slots m.descriptor ⌢ MethodAttributesAre slots this m) (method_bytes slots this m)
    parts = write_then (write_number2 m.flags) (write_then (write_text slots m.name) (write_then (write_method_descriptor slots m.descriptor) (write_method_attributes slots this m)))

-- ---- classes

write_pool : (slots : Slots) → Writes (PoolIs slots) (pool_bytes slots)
write_pool slots = record { writes = λ bytes e. ((e.0, refl), omega (arith, ap length e.1)) }

regroup : (a b c p f t s i g m o : List ℕ) → (a ++ b ++ c) ++ p ++ (f ++ t ++ s ++ i) ++ (g ++ m) ++ o ≡ a ++ (b ++ (c ++ (p ++ (f ++ (t ++ (s ++ (i ++ (g ++ (m ++ o)))))))))
regroup a b c p f t s i g m o = simp append_assoc

pub write_parts : (c : ClassFile) → Writes (PartsAre c) (class_bytes c)
write_parts c = write_as (class_bytes c)
    (write_then (write_exact (u4 magic)) (write_then (write_exact (u2 0)) (write_then (write_exact (u2 major_version)) (write_then (write_pool c.pool) (write_then (write_number2 c.flags) (write_then (write_class_name c.pool c.this_name) (write_then (write_class_name c.pool c.super_name)
    (write_then (write_table (name_bytes c.pool) (write_class_name c.pool) c.interfaces) (write_then (write_table (field_bytes c.pool) (write_field c.pool) c.fields) (write_then (write_table (method_bytes c.pool c.this_name) (write_method c.pool c.this_name) c.methods)
    (write_table (attribute_bytes c.pool) (write_attribute c.pool) c.others)))))))))))
    (regroup (u4 magic) (u2 0) (u2 major_version) (pool_bytes c.pool) (u2 c.flags) (name_bytes c.pool c.this_name) (name_bytes c.pool c.super_name) (table_bytes (name_bytes c.pool) c.interfaces)
    (table_bytes (field_bytes c.pool) c.fields) (table_bytes (method_bytes c.pool c.this_name) c.methods) (table_bytes (attribute_bytes c.pool) c.others))

pub written_spells : WrittenSpells
written_spells c bytes e = record { parts = ((write_parts c).writes bytes e.parts).0; fields_differ = e.fields_differ; methods_differ = e.methods_differ }

pub written_is_no_longer : WrittenIsNoLonger
written_is_no_longer c bytes e = ((write_parts c).writes bytes e.parts).1

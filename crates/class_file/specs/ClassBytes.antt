-- The bytes of class files (Java Virtual Machine Specification SE 8, chapter 4).
-- A class may be spelled in several ways: a name by any entry of the pool that has its text, a frame by several forms, and the
-- code of a method before, between or behind the method's other attributes.
use Rattle.std.specs.Prelude.{◌≡◌, ℕ, ◌+◌, ◌-◌, ◌^◌, ◌<◌, List, [], ◌∷◌, ◌++◌, length, map, Option, Some, None, IfSome, IsSome, Bool, true, false, ◌||◌, if◌then◌else◌, IsTrue, IsFalse, All, ◌⊎◌, ⊤, FitsSigned, is_some, codes}
use Rattle.std.specs.List.{flat_map, list_any}
use Rattle.std.specs.Int.{w32, w64}
use Rattle.kc_text.specs.Modified.{modified_of, AreUnits}
use Rattle.class_file.specs.declared.class.Attribute.{Attribute}
use Rattle.class_file.specs.declared.class.Field.{Field}
use Rattle.class_file.specs.declared.class.Handler.{Handler}
use Rattle.class_file.specs.declared.class.VType.{VType}
use Rattle.class_file.specs.declared.class.VType.TheVariants as type
use Rattle.class_file.specs.declared.class.Frame.{Frame}
use Rattle.class_file.specs.declared.class.Method.{Method}
use Rattle.class_file.specs.declared.class.ClassFile.{ClassFile}
use Rattle.class_file.specs.declared.pool.Entry.{Entry}
use Rattle.class_file.specs.declared.pool.Entry.TheVariants as entry
use Rattle.class_file.specs.declared.instr.Instr.{Instr}
use Rattle.class_file.specs.Indexing.{added}
use Rattle.class_file.specs.Pools.{Slots, entry_at, text_in, name_in, field_in, named_in, Member, Named, is_text}
use Rattle.class_file.specs.Descriptors.{is_array_name, field_type, signature}
use Rattle.class_file.specs.Classes.{is_static_flag, is_abstract_flag}
use Rattle.class_file.specs.Members.{described}
use Rattle.class_file.specs.InstrBytes.{u1, u2, u4, s4, s8, instr_bytes, IsInstr}

-- ---- grammars: which bytes are a thing's

-- bytes in two parts, one after the other
infixr 5 ◌⌢◌
abbrev pub ◌⌢◌ : (List ℕ → Type 0) → (List ℕ → Type 0) → List ℕ → Type 0
◌⌢◌ P Q bytes = (front : List ℕ) × (rest : List ℕ) × (bytes ≡ front ++ rest) × P front × Q rest

-- these bytes and no others
abbrev pub Is : List ℕ → List ℕ → Type 0
Is wanted bytes = bytes ≡ wanted

-- a number of two bytes
abbrev pub U2 : ℕ → List ℕ → Type 0
U2 n bytes = (n < 2 ^ 16) × (bytes ≡ u2 n)

-- things of one kind, one after the other
abbrev pub Each : {A : Type 0} → (A → List ℕ → Type 0) → List A → List ℕ → Type 0
Each P [] = Is []
Each P (x ∷ xs) = P x ⌢ Each P xs

-- their count, and then the things
abbrev pub Table : {A : Type 0} → (A → List ℕ → Type 0) → List A → List ℕ → Type 0
Table P xs = U2 (length xs) ⌢ Each P xs

-- the length of what follows in bytes, and then the bytes
abbrev pub Sized : (List ℕ → Type 0) → List ℕ → Type 0
Sized P bytes = (body : List ℕ) × (length body < 2 ^ 32) × (bytes ≡ u4 (length body) ++ body) × P body

abbrev pub AreBytes : List ℕ → Type 0
AreBytes bytes = All (λ b. b < 2 ^ 8) bytes

-- ---- the pool (4.4)

abbrev pub text_at : Slots → ℕ → Option (List ℕ)
text_at slots i = text_in (entry_at slots i)

-- the name of the class, or the descriptor of the array, that an index stands for
abbrev pub name_at : Slots → ℕ → Option (List ℕ)
name_at slots i = name_in slots (entry_at slots i)

abbrev pub is_field_descriptor : List ℕ → Bool
is_field_descriptor units = is_some (field_type units)

abbrev pub is_method_descriptor : List ℕ → Bool
is_method_descriptor units = is_some (signature units)

-- what a Class entry may name: a class, or an array by its descriptor
abbrev pub is_type_name : List ℕ → Bool
is_type_name name = if is_array_name name then is_field_descriptor name else true

abbrev pub IsField : Option Member → Type 0
IsField member = IfSome member (λ m. IsTrue (is_field_descriptor m.descriptor)) × IsSome member

abbrev pub IsMethod : Option Named → Type 0
IsMethod named = IfSome named (λ n. IsTrue (is_method_descriptor n.member.descriptor)) × IsSome named

-- what an entry asks for: its indexes are those of entries of the kinds that it needs, and what it names has the right form
abbrev pub IsEntry : Slots → Entry → Type 0
IsEntry slots (entry.Utf8 text) = AreUnits text × (length (modified_of text) < 2 ^ 16)
IsEntry slots (entry.Integer n) = FitsSigned w32 n
IsEntry slots (entry.Long n) = FitsSigned w64 n
IsEntry slots (entry.Class name) = (name < 2 ^ 16) × IfSome (text_at slots name) (λ t. IsTrue (is_type_name t)) × IsSome (text_at slots name)
IsEntry slots (entry.Str text) = (text < 2 ^ 16) × IsSome (text_at slots text)
IsEntry slots (entry.FieldRef owner member) = (owner < 2 ^ 16) × (member < 2 ^ 16) × IsField (field_in slots (Some (entry.FieldRef owner member)))
IsEntry slots (entry.MethodRef owner member) = (owner < 2 ^ 16) × (member < 2 ^ 16) × IsMethod (named_in slots (Some (entry.MethodRef owner member)))
IsEntry slots (entry.InterfaceMethodRef owner member) = (owner < 2 ^ 16) × (member < 2 ^ 16) × IsMethod (named_in slots (Some (entry.InterfaceMethodRef owner member)))
IsEntry slots (entry.NameAndType name descriptor) =
    (name < 2 ^ 16) × (descriptor < 2 ^ 16) × IsSome (text_at slots name) × IsSome (text_at slots descriptor)
    × IfSome (text_at slots descriptor) (λ d. IsTrue (is_field_descriptor d || is_method_descriptor d))

-- its tag, and then what it holds
abbrev pub entry_bytes : Entry → List ℕ
entry_bytes (entry.Utf8 text) = u1 1 ++ u2 (length (modified_of text)) ++ modified_of text
entry_bytes (entry.Integer n) = u1 3 ++ s4 n
entry_bytes (entry.Long n) = u1 5 ++ s8 n
entry_bytes (entry.Class name) = u1 7 ++ u2 name
entry_bytes (entry.Str text) = u1 8 ++ u2 text
entry_bytes (entry.FieldRef owner member) = u1 9 ++ u2 owner ++ u2 member
entry_bytes (entry.MethodRef owner member) = u1 10 ++ u2 owner ++ u2 member
entry_bytes (entry.InterfaceMethodRef owner member) = u1 11 ++ u2 owner ++ u2 member
entry_bytes (entry.NameAndType name descriptor) = u1 12 ++ u2 name ++ u2 descriptor

-- nothing stands for what is behind a Long
abbrev pub slot_bytes : Option Entry → List ℕ
slot_bytes None = []
slot_bytes (Some e) = entry_bytes e

-- a Long takes two indexes, and every other entry one; nothing stands at index 0
pub record IsPool (slots : Slots) : Type 0 where
  pub entries : List Entry
  pub are : slots ≡ None ∷ flat_map added entries
  pub count : length slots < 2 ^ 16
  pub each : All (λ slot. IfSome slot (IsEntry slots)) slots

abbrev pub pool_bytes : Slots → List ℕ
pool_bytes slots = u2 (length slots) ++ flat_map slot_bytes slots

abbrev pub PoolIs : Slots → List ℕ → Type 0
PoolIs slots bytes = IsPool slots × (bytes ≡ pool_bytes slots)

-- ---- what an index names

-- the index of a text
abbrev pub TextIs : Slots → List ℕ → List ℕ → Type 0
TextIs slots text bytes = (index : ℕ) × (text_at slots index ≡ Some text) × U2 index bytes

-- the index of a class or an array
abbrev pub TypeNameIs : Slots → List ℕ → List ℕ → Type 0
TypeNameIs slots name bytes = (index : ℕ) × (name_at slots index ≡ Some name) × U2 index bytes

-- the index of a class that is no array
abbrev pub ClassNameIs : Slots → List ℕ → List ℕ → Type 0
ClassNameIs slots name bytes = IsFalse (is_array_name name) × TypeNameIs slots name bytes

-- the index of a text that is a descriptor
abbrev pub FieldDescriptorIs : Slots → List ℕ → List ℕ → Type 0
FieldDescriptorIs slots text bytes = IsTrue (is_field_descriptor text) × TextIs slots text bytes

abbrev pub MethodDescriptorIs : Slots → List ℕ → List ℕ → Type 0
MethodDescriptorIs slots text bytes = IsTrue (is_method_descriptor text) × TextIs slots text bytes

-- ---- attributes (4.7)

abbrev pub BytesAre : List ℕ → List ℕ → Type 0
BytesAre wanted bytes = AreBytes wanted × (bytes ≡ wanted)

abbrev pub AttributeIs : Slots → Attribute → List ℕ → Type 0
AttributeIs slots a = TextIs slots a.name ⌢ Sized (BytesAre a.bytes)

-- an attribute that the reader knows
abbrev pub KnownIs : Slots → List ℕ → (List ℕ → Type 0) → List ℕ → Type 0
KnownIs slots name P = TextIs slots name ⌢ Sized P

-- attributes among which the one of this name has a meaning: it stands anywhere among the others
abbrev pub Among : Slots → List ℕ → (List ℕ → Type 0) → List Attribute → List ℕ → Type 0
Among slots name P others bytes =
    (before : List Attribute) × (behind : List Attribute) × (others ≡ before ++ behind)
    × (U2 (length others + 1) ⌢ Each (AttributeIs slots) before ⌢ KnownIs slots name P ⌢ Each (AttributeIs slots) behind) bytes

-- no attribute has this name
abbrev pub NoneIsNamed : List ℕ → List Attribute → Type 0
NoneIsNamed name others = All (λ a. IsFalse (is_text a.name name)) others

abbrev pub code_name : List ℕ
code_name = codes "Code"

abbrev pub stack_map_table : List ℕ
stack_map_table = codes "StackMapTable"

-- ---- frames (4.7.4)

-- a verification type
abbrev pub TypeIs : Slots → VType → List ℕ → Type 0
TypeIs slots type.Top = Is (u1 0)
TypeIs slots type.Integer = Is (u1 1)
TypeIs slots type.Long = Is (u1 4)
TypeIs slots type.Null = Is (u1 5)
TypeIs slots type.UninitializedThis = Is (u1 6)
TypeIs slots (type.Object name) = Is (u1 7) ⌢ TypeNameIs slots name
TypeIs slots (type.Uninitialized at) = Is (u1 8) ⌢ U2 at

-- what a frame's form is told against: the place of the frame before, if there is one, and its locals, or those that the method
-- starts with
pub record Before : Type 0 where
  pub at : Option ℕ
  pub locals : List VType

-- a frame's place, from that of the frame before
abbrev pub place_behind : Option ℕ → ℕ → ℕ
place_behind None delta = delta
place_behind (Some at) delta = at + delta + 1

abbrev pub Stands : Before → ℕ → Frame → Type 0
Stands before delta f = f.at ≡ place_behind before.at delta

-- The forms of a frame. Up to three locals can go or come at the end of the locals.
pub data FormIs (slots : Slots) (before : Before) (f : Frame) (bytes : List ℕ) : Type 0 where
  same : (delta : ℕ) → delta < 64 → Stands before delta f → f.locals ≡ before.locals → f.stack ≡ [] → Is (u1 delta) bytes → FormIs slots before f bytes
  one_item : (delta : ℕ) (item : VType) → delta < 64 → Stands before delta f → f.locals ≡ before.locals → f.stack ≡ item ∷ [] → (Is (u1 (64 + delta)) ⌢ TypeIs slots item) bytes → FormIs slots before f bytes
  one_item_extended : (delta : ℕ) (item : VType) → Stands before delta f → f.locals ≡ before.locals → f.stack ≡ item ∷ [] → (Is (u1 247) ⌢ U2 delta ⌢ TypeIs slots item) bytes → FormIs slots before f bytes
  chop : (delta : ℕ) (gone : List VType) → 0 < length gone → length gone < 4 → Stands before delta f → before.locals ≡ f.locals ++ gone → f.stack ≡ [] → (Is (u1 (251 - length gone)) ⌢ U2 delta) bytes → FormIs slots before f bytes
  same_extended : (delta : ℕ) → Stands before delta f → f.locals ≡ before.locals → f.stack ≡ [] → (Is (u1 251) ⌢ U2 delta) bytes → FormIs slots before f bytes
  append : (delta : ℕ) (more : List VType) → 0 < length more → length more < 4 → Stands before delta f → f.locals ≡ before.locals ++ more → f.stack ≡ [] → (Is (u1 (251 + length more)) ⌢ U2 delta ⌢ Each (TypeIs slots) more) bytes → FormIs slots before f bytes
  full : (delta : ℕ) → Stands before delta f → (Is (u1 255) ⌢ U2 delta ⌢ Table (TypeIs slots) f.locals ⌢ Table (TypeIs slots) f.stack) bytes → FormIs slots before f bytes

abbrev pub is_unset : VType → Bool
is_unset type.UninitializedThis = true
is_unset _ = false

-- A frame has at most 65,535 locals. It is of a constructor that has not called another yet where a local is the object that it
-- makes.
abbrev pub FrameIs : Slots → Before → Frame → List ℕ → Type 0
FrameIs slots before f bytes = (f.unset ≡ list_any is_unset f.locals) × (length f.locals < 2 ^ 16) × FormIs slots before f bytes

abbrev pub behind_frame : Frame → Before
behind_frame f = record { at = Some f.at; locals = f.locals }

abbrev pub FramesAre : Slots → Before → List Frame → List ℕ → Type 0
FramesAre slots before [] = Is []
FramesAre slots before (f ∷ fs) = FrameIs slots before f ⌢ FramesAre slots (behind_frame f) fs

-- the locals that a method starts with: its object, which a constructor has still to make, and its parameters
abbrev pub receiver : List ℕ → ℕ → List ℕ → List VType
receiver this flags name =
    if is_static_flag flags then [] else (if is_text name (codes "<init>") then type.UninitializedThis ∷ [] else type.Object this ∷ [])

abbrev pub at_start : List ℕ → Method → Before
at_start this m = record { at = None; locals = receiver this m.flags m.name ++ (described m.descriptor).params }

abbrev pub StackMapIs : Slots → Before → List Frame → List ℕ → Type 0
StackMapIs slots before frames = U2 (length frames) ⌢ FramesAre slots before frames

-- ---- code (4.7.3)

abbrev pub InstrIs : Slots → Instr → List ℕ → Type 0
InstrIs slots i bytes = IsInstr slots i × (bytes ≡ instr_bytes i)

-- the instructions take from 1 to 65,535 bytes
abbrev pub InstrsAre : Slots → List Instr → List ℕ → Type 0
InstrsAre slots code bytes = (0 < length bytes) × (length bytes < 2 ^ 16) × Each (InstrIs slots) code bytes

-- the index of a Class entry, or 0
abbrev pub CatchTypeIs : Slots → ℕ → List ℕ → Type 0
CatchTypeIs slots index bytes = ((index ≡ 0) ⊎ IsSome (name_at slots index)) × U2 index bytes

abbrev pub HandlerIs : Slots → Handler → List ℕ → Type 0
HandlerIs slots h = U2 h.start ⌢ U2 h.end ⌢ U2 h.at ⌢ CatchTypeIs slots h.catch_type

-- frames stand in an attribute; without frames it may be missing
pub data CodeAttributesAre (slots : Slots) (before : Before) (frames : List Frame) (others : List Attribute) (bytes : List ℕ) : Type 0 where
  with_frames : Among slots stack_map_table (StackMapIs slots before frames) others bytes → CodeAttributesAre slots before frames others bytes
  without_frames : frames ≡ [] → Table (AttributeIs slots) others bytes → CodeAttributesAre slots before frames others bytes

abbrev pub CodeIs : Slots → List ℕ → Method → List ℕ → Type 0
CodeIs slots this m bytes =
    NoneIsNamed stack_map_table m.code_others
    × (U2 m.max_stack ⌢ U2 m.max_locals ⌢ Sized (InstrsAre slots m.code) ⌢ Table (HandlerIs slots) m.handlers
    ⌢ CodeAttributesAre slots (at_start this m) m.frames m.code_others) bytes

-- ---- members (4.5, 4.6)

abbrev pub FieldIs : Slots → Field → List ℕ → Type 0
FieldIs slots f = U2 f.flags ⌢ TextIs slots f.name ⌢ FieldDescriptorIs slots f.descriptor ⌢ Table (AttributeIs slots) f.others

-- a method that has no code is abstract, is not static, and initialises neither an object nor a class
pub record HasNoCode (m : Method) : Type 0 where
  pub abstract_flag : IsTrue (is_abstract_flag m.flags)
  pub not_static : IsFalse (is_static_flag m.flags)
  pub no_initialiser : IsFalse (is_text m.name (codes "<init>") || is_text m.name (codes "<clinit>"))
  pub no_stack : m.max_stack ≡ 0
  pub no_locals : m.max_locals ≡ 0
  pub no_instructions : m.code ≡ []
  pub no_handlers : m.handlers ≡ []
  pub no_frames : m.frames ≡ []
  pub no_code_others : m.code_others ≡ []

pub data MethodAttributesAre (slots : Slots) (this : List ℕ) (m : Method) (bytes : List ℕ) : Type 0 where
  with_code : IsFalse (is_abstract_flag m.flags) → Among slots code_name (CodeIs slots this m) m.others bytes → MethodAttributesAre slots this m bytes
  without_code : HasNoCode m → Table (AttributeIs slots) m.others bytes → MethodAttributesAre slots this m bytes

abbrev pub MethodIs : Slots → List ℕ → Method → List ℕ → Type 0
MethodIs slots this m bytes =
    NoneIsNamed code_name m.others
    × (U2 m.flags ⌢ TextIs slots m.name ⌢ MethodDescriptorIs slots m.descriptor ⌢ MethodAttributesAre slots this m) bytes

-- ---- classes (4.1)

-- a member by its name and its descriptor
pub record Key : Type 0 where
  pub name : List ℕ
  pub descriptor : List ℕ

abbrev pub field_key : Field → Key
field_key f = record { name = f.name; descriptor = f.descriptor }

abbrev pub method_key : Method → Key
method_key m = record { name = m.name; descriptor = m.descriptor }

abbrev pub Differ : Key → Key → Type 0
Differ k l = ¬ (k ≡ l)

-- no two members have one name and one descriptor
abbrev pub AllDiffer : List Key → Type 0
AllDiffer [] = ⊤
AllDiffer (k ∷ ks) = All (Differ k) ks × AllDiffer ks

abbrev pub magic : ℕ
magic = 0xCAFEBABE

abbrev pub major_version : ℕ
major_version = 52

abbrev pub PartsAre : ClassFile → List ℕ → Type 0
PartsAre c =
    Is (u4 magic) ⌢ Is (u2 0) ⌢ Is (u2 major_version) ⌢ PoolIs c.pool ⌢ U2 c.flags ⌢ ClassNameIs c.pool c.this_name ⌢ ClassNameIs c.pool c.super_name
    ⌢ Table (ClassNameIs c.pool) c.interfaces ⌢ Table (FieldIs c.pool) c.fields ⌢ Table (MethodIs c.pool c.this_name) c.methods
    ⌢ Table (AttributeIs c.pool) c.others

-- the bytes are the class's
pub record Spells (c : ClassFile) (bytes : List ℕ) : Type 0 where
  pub parts : PartsAre c bytes
  pub fields_differ : AllDiffer (map field_key c.fields)
  pub methods_differ : AllDiffer (map method_key c.methods)

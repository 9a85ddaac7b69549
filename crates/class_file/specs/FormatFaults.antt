-- The first fault of bytes that are no class file: reading from left to right, field by field (Java Virtual Machine Specification
-- SE 8, chapter 4).
use Rattle.std.specs.Prelude.{ℕ, zero, suc, ◌+◌, ◌-◌, List, [], ◌∷◌, ◌++◌, length, take, Option, Some, None, Bool, true, false, not, ◌&&◌, ◌||◌, ◌==◌, nat_lt, if◌then◌else◌, Result, Ok, Err, codes}
use Rattle.std.specs.List.{list_any}
use Rattle.std.specs.Int.{w8, w16, w32}
use Rattle.class_file.specs.declared.class.Attribute.{Attribute}
use Rattle.class_file.specs.declared.class.Field.{Field}
use Rattle.class_file.specs.declared.class.Handler.{Handler}
use Rattle.class_file.specs.declared.class.VType.{VType}
use Rattle.class_file.specs.declared.class.VType.TheVariants as type
use Rattle.class_file.specs.declared.class.Frame.{Frame}
use Rattle.class_file.specs.declared.class.Method.{Method}
use Rattle.class_file.specs.declared.class.ClassFile.{ClassFile}
use Rattle.class_file.specs.declared.pool.Entry.{Entry}
use Rattle.class_file.specs.declared.instr.Instr.{Instr}
use Rattle.class_file.specs.declared.format_fault.FormatFault.{FormatFault}
use Rattle.class_file.specs.declared.format_fault.FormatCode.{FormatCode}
use Rattle.class_file.specs.declared.format_fault.FormatCode.TheVariants.{Truncated, BadMagic, Version, BadIndex, BadCode, BadFrame, OutOfProfile, Doubled, Trailing}
use Rattle.class_file.specs.Pools.{Slots, entry_at, is_text}
use Rattle.class_file.specs.Classes.{is_static_flag, is_abstract_flag}
use Rattle.class_file.specs.Members.{described}
use Rattle.class_file.specs.Descriptors.{is_array_name}
use Rattle.class_file.specs.ClassBytes.{text_at, name_at, is_unset, Before, place_behind, behind_frame, receiver, Key, code_name, stack_map_table, magic, major_version}
use Rattle.class_file.specs.Opcodes.{Form, Plain, Signed1, Signed2, Unsigned1, Unsigned2, Short, Index, Increment, WideIncrement, CallOfInterface, form_of, wide_form_of}
use Rattle.class_file.specs.Inputs.{◌>>=◌, Input, Reading, read, fault, refused, bytes_at, number_at, signed_at, expected, window, sized, each, table}
use Rattle.class_file.specs.DescriptorFaults.{field_descriptor_fault, method_descriptor_fault}
use Rattle.class_file.specs.PoolFaults.{pool_at}

-- ---- indexes behind the pool

abbrev pub named : {A : Type 0} → ℕ → Input → Option A → Reading A
named at rest None = fault BadIndex at
named at rest (Some x) = read x rest

abbrev pub text_named : Slots → Input → Reading (List ℕ)
text_named slots i = do
  n ← number_at w16 i
  named i.at n.rest (text_at slots n.value)

abbrev pub type_named : Slots → Input → Reading (List ℕ)
type_named slots i = do
  n ← number_at w16 i
  named i.at n.rest (name_at slots n.value)

-- a class, and no array
abbrev pub class_named : Slots → Input → Reading (List ℕ)
class_named slots i = do
  name ← type_named slots i
  if is_array_name name.value then fault BadIndex i.at else Ok name

-- ---- attributes (4.7)

abbrev pub kept_bytes : Input → Reading (List ℕ)
kept_bytes i = do
  n ← number_at w32 i
  bytes_at n.value n.rest

unfoldable pub attribute_at : Slots → Input → Reading Attribute
attribute_at slots i = do
  name ← text_named slots i
  bytes ← kept_bytes name.rest
  read (record { name = name.value; bytes = bytes.value }) bytes.rest

-- attributes of which one may have a meaning
pub record Attributes (A : Type 0) : Type 0 where
  pub known : Option A
  pub others : List Attribute

abbrev pub attributes : {A : Type 0} → Option A → List Attribute → Attributes A
attributes known others = record { known = known; others = others }

-- the attribute of this name is read so, unless there was one or it may not be
abbrev pub is_there : {A : Type 0} → Option A → Bool
is_there None = false
is_there (Some x) = true

unfoldable pub among_at : {A : Type 0} → Slots → List ℕ → Bool → (Input → Reading A) → ℕ → Attributes A → Input → Reading (Attributes A)
among_at slots wanted allowed inside zero so_far i = read so_far i
among_at slots wanted allowed inside (suc n) so_far i = do
  name ← text_named slots i
  if is_text name.value wanted
      then (if is_there so_far.known || not allowed then fault BadCode i.at
      else (sized inside name.rest >>= λ x. among_at slots wanted allowed inside n (attributes (Some x.value) so_far.others) x.rest))
      else (kept_bytes name.rest >>= λ b. among_at slots wanted allowed inside n
      (attributes so_far.known (so_far.others ++ record { name = name.value; bytes = b.value } ∷ [])) b.rest)

unfoldable pub attributes_among : {A : Type 0} → Slots → List ℕ → Bool → (Input → Reading A) → Input → Reading (Attributes A)
attributes_among slots wanted allowed inside i = do
  n ← number_at w16 i
  among_at slots wanted allowed inside n.value (attributes None []) n.rest

-- ---- frames (4.7.4)

abbrev pub object_at : Slots → Input → Reading VType
object_at slots i = do
  name ← type_named slots i
  read (type.Object name.value) name.rest

abbrev pub uninitialized_at : Input → Reading VType
uninitialized_at i = do
  n ← number_at w16 i
  read (type.Uninitialized n.value) n.rest

unfoldable pub type_at : Slots → Input → Reading VType
type_at slots i = do
  tag ← number_at w8 i
  if tag.value == 0 then read type.Top tag.rest
      else (if tag.value == 1 then read type.Integer tag.rest
      else (if tag.value == 2 || tag.value == 3 then fault OutOfProfile i.at
      else (if tag.value == 4 then read type.Long tag.rest
      else (if tag.value == 5 then read type.Null tag.rest
      else (if tag.value == 6 then read type.UninitializedThis tag.rest
      else (if tag.value == 7 then object_at slots tag.rest
      else (if tag.value == 8 then uninitialized_at tag.rest
      else fault BadFrame i.at)))))))

abbrev pub frame : Before → ℕ → List VType → List VType → Frame
frame before delta locals stack = record { at = place_behind before.at delta; locals = locals; stack = stack; unset = list_any is_unset locals }

abbrev pub one_item : Slots → Before → ℕ → Input → Reading Frame
one_item slots before delta i = do
  item ← type_at slots i
  read (frame before delta before.locals (item.value ∷ [])) item.rest

abbrev pub full_frame : Slots → Before → ℕ → Input → Reading Frame
full_frame slots before delta i = do
  locals ← table (type_at slots) i
  stack ← table (type_at slots) locals.rest
  read (frame before delta locals.value stack.value) stack.rest

abbrev pub more_locals : Slots → Before → ℕ → ℕ → Input → Reading Frame
more_locals slots before delta n i = do
  more ← each (type_at slots) n i
  read (frame before delta (before.locals ++ more.value) []) more.rest

-- behind the difference of the places, in the forms that have it in two bytes
abbrev pub long_form : Slots → Before → ℕ → ℕ → Input → Reading Frame
long_form slots before tag delta i =
    if tag == 247 then one_item slots before delta i
    else (if nat_lt tag 252 then read (frame before delta (take (length before.locals - (251 - tag)) before.locals) []) i
    else (if nat_lt tag 255 then more_locals slots before delta (tag - 251) i
    else full_frame slots before delta i))

unfoldable pub frame_at : Slots → Before → Input → Reading Frame
frame_at slots before i = do
  tag ← number_at w8 i
  if nat_lt tag.value 64 then read (frame before tag.value before.locals []) tag.rest
      else (if nat_lt tag.value 128 then one_item slots before (tag.value - 64) tag.rest
      else (if nat_lt tag.value 247 || (nat_lt 247 tag.value && nat_lt tag.value 251 && nat_lt (length before.locals) (251 - tag.value))
      || (nat_lt 251 tag.value && nat_lt tag.value 255 && nat_lt 65535 (length before.locals + (tag.value - 251))) then fault BadFrame i.at
      else (number_at w16 tag.rest >>= λ delta. long_form slots before tag.value delta.value delta.rest)))

unfoldable pub frames_at : Slots → ℕ → Before → Input → Reading (List Frame)
frames_at slots zero before i = read [] i
frames_at slots (suc n) before i = do
  first ← frame_at slots before i
  others ← frames_at slots n (behind_frame first.value) first.rest
  read (first.value ∷ others.value) others.rest

unfoldable pub stack_map_at : Slots → Before → Input → Reading (List Frame)
stack_map_at slots before i = do
  n ← number_at w16 i
  frames_at slots n.value before n.rest

-- ---- code (4.7.3)

abbrev pub index_checked : Slots → (Option Entry → Bool) → ℕ → ℕ → Input → (ℕ → Instr) → Reading Instr
index_checked slots is_kind at index rest make = if is_kind (entry_at slots index) then read (make index) rest else fault BadIndex at

abbrev pub operands_at : Slots → Form → ℕ → Input → Reading Instr
operands_at slots (Plain instr) at i = read instr i
operands_at slots (Signed1 make) at i = do
  a ← signed_at w8 i
  read (make a.value) a.rest
operands_at slots (Signed2 make) at i = do
  a ← signed_at w16 i
  read (make a.value) a.rest
operands_at slots (Unsigned1 make) at i = do
  a ← number_at w8 i
  read (make a.value) a.rest
operands_at slots (Unsigned2 make) at i = do
  a ← number_at w16 i
  read (make a.value) a.rest
operands_at slots (Short is_kind make) at i = do
  a ← number_at w8 i
  index_checked slots is_kind i.at a.value a.rest make
operands_at slots (Index is_kind make) at i = do
  a ← number_at w16 i
  index_checked slots is_kind i.at a.value a.rest make
operands_at slots (Increment make) at i = do
  a ← number_at w8 i
  b ← signed_at w8 a.rest
  read (make a.value b.value) b.rest
operands_at slots (WideIncrement make) at i = do
  a ← number_at w16 i
  b ← signed_at w16 a.rest
  read (make a.value b.value) b.rest
operands_at slots (CallOfInterface is_kind make) at i = do
  a ← number_at w16 i
  instr ← index_checked slots is_kind i.at a.value a.rest (λ index. make index 0)
  n ← number_at w8 instr.rest
  if n.value == 0 then fault BadCode instr.rest.at
      else (expected w8 0 BadCode n.rest >>= λ rest. read (make a.value n.value) rest)

abbrev pub formed : Slots → Option Form → ℕ → Input → Reading Instr
formed slots None at i = fault BadCode at
formed slots (Some form) at i = operands_at slots form at i

abbrev pub wide_at : Slots → Input → Reading Instr
wide_at slots i = do
  opcode ← number_at w8 i
  formed slots (wide_form_of opcode.value) i.at opcode.rest

unfoldable pub instruction_at : Slots → Input → Reading Instr
instruction_at slots i = do
  opcode ← number_at w8 i
  if opcode.value == 0xC4 then wide_at slots opcode.rest else formed slots (form_of opcode.value) i.at opcode.rest

-- instructions up to the end, of which there are at most so many
unfoldable pub instructions_at : Slots → ℕ → Input → Reading (List Instr)
instructions_at slots zero i = read [] i
instructions_at slots (suc most) i =
    if length i.bytes == 0 then read [] i
    else (instruction_at slots i >>= λ first.
    instructions_at slots most first.rest >>= λ others. read (first.value ∷ others.value) others.rest)

unfoldable pub code_array_at : Slots → Input → Reading (List Instr)
code_array_at slots i = do
  n ← number_at w32 i
  if n.value == 0 || nat_lt 65535 n.value then fault BadCode i.at
      else window n.value (instructions_at slots n.value) n.rest

abbrev pub catch_type_at : Slots → Input → Reading ℕ
catch_type_at slots i = do
  n ← number_at w16 i
  if n.value == 0 || is_there (name_at slots n.value) then Ok n else fault BadIndex i.at

unfoldable pub handler_at : Slots → Input → Reading Handler
handler_at slots i = do
  start ← number_at w16 i
  end ← number_at w16 start.rest
  at ← number_at w16 end.rest
  catch_type ← catch_type_at slots at.rest
  read (record { start = start.value; end = end.value; at = at.value; catch_type = catch_type.value }) catch_type.rest

pub record Code : Type 0 where
  pub max_stack : ℕ
  pub max_locals : ℕ
  pub instrs : List Instr
  pub handlers : List Handler
  pub frames : List Frame
  pub others : List Attribute

abbrev pub or_none : Option (List Frame) → List Frame
or_none None = []
or_none (Some frames) = frames

unfoldable pub code_at : Slots → Before → Input → Reading Code
code_at slots before i = do
  stack ← number_at w16 i
  locals ← number_at w16 stack.rest
  instrs ← code_array_at slots locals.rest
  handlers ← table (handler_at slots) instrs.rest
  attributes ← attributes_among slots stack_map_table true (stack_map_at slots before) handlers.rest
  read
      (record {
        max_stack = stack.value;
        max_locals = locals.value;
        instrs = instrs.value;
        handlers = handlers.value;
        frames = or_none attributes.value.known;
        others = attributes.value.others;
      })
      attributes.rest

-- ---- members (4.5, 4.6)

abbrev pub is_key : Key → Key → Bool
is_key k l = is_text k.name l.name && is_text k.descriptor l.descriptor

-- a member's descriptor, which no earlier one of the same name has
abbrev pub descriptor_at : Slots → (List ℕ → Option FormatCode) → List Key → List ℕ → Input → Reading (List ℕ)
descriptor_at slots judge seen name i = do
  text ← text_named slots i
  refused i.at (judge text.value)
      (if list_any (is_key (record { name = name; descriptor = text.value })) seen then fault Doubled i.at else Ok text)

unfoldable pub field_at : Slots → List Key → Input → Reading Field
field_at slots seen i = do
  flags ← number_at w16 i
  name ← text_named slots flags.rest
  descriptor ← descriptor_at slots field_descriptor_fault seen name.value name.rest
  others ← table (attribute_at slots) descriptor.rest
  read (record { flags = flags.value; name = name.value; descriptor = descriptor.value; others = others.value }) others.rest

unfoldable pub fields_at : Slots → ℕ → List Key → Input → Reading (List Field)
fields_at slots zero seen i = read [] i
fields_at slots (suc n) seen i = do
  first ← field_at slots seen i
  others ← fields_at slots n (record { name = first.value.name; descriptor = first.value.descriptor } ∷ seen) first.rest
  read (first.value ∷ others.value) others.rest

abbrev pub needs_code : ℕ → List ℕ → Bool
needs_code flags name = not (is_abstract_flag flags) || is_static_flag flags || is_text name (codes "<init>") || is_text name (codes "<clinit>")

abbrev pub method : ℕ → List ℕ → List ℕ → List Attribute → Code → Method
method flags name descriptor others code = record {
  flags = flags;
  name = name;
  descriptor = descriptor;
  max_stack = code.max_stack;
  max_locals = code.max_locals;
  code = code.instrs;
  handlers = code.handlers;
  frames = code.frames;
  code_others = code.others;
  others = others;
}

abbrev pub no_code : Code
no_code = record { max_stack = 0; max_locals = 0; instrs = []; handlers = []; frames = []; others = [] }

-- a method that lacks its code: what comes next may be cut off at the same place
abbrev pub with_code : ℕ → List ℕ → List ℕ → List Attribute → Input → Option Code → Reading Method
with_code flags name descriptor others rest (Some code) = read (method flags name descriptor others code) rest
with_code flags name descriptor others rest None =
    if not (needs_code flags name) then read (method flags name descriptor others no_code) rest
    else (if nat_lt (length rest.bytes) 2 then fault Truncated rest.at else fault BadCode rest.at)

abbrev pub before_code : List ℕ → ℕ → List ℕ → List ℕ → Before
before_code this flags name descriptor = record { at = None; locals = receiver this flags name ++ (described descriptor).params }

unfoldable pub method_at : Slots → List ℕ → List Key → Input → Reading Method
method_at slots this seen i = do
  flags ← number_at w16 i
  name ← text_named slots flags.rest
  descriptor ← descriptor_at slots method_descriptor_fault seen name.value name.rest
  attributes ← attributes_among slots code_name (not (is_abstract_flag flags.value))
      (code_at slots (before_code this flags.value name.value descriptor.value)) descriptor.rest
  with_code flags.value name.value descriptor.value attributes.value.others attributes.rest attributes.value.known

unfoldable pub methods_at : Slots → List ℕ → ℕ → List Key → Input → Reading (List Method)
methods_at slots this zero seen i = read [] i
methods_at slots this (suc n) seen i = do
  first ← method_at slots this seen i
  others ← methods_at slots this n (record { name = first.value.name; descriptor = first.value.descriptor } ∷ seen) first.rest
  read (first.value ∷ others.value) others.rest

-- ---- classes (4.1)

abbrev pub counted : {A : Type 0} → (ℕ → Input → Reading A) → Input → Reading A
counted things i = do
  n ← number_at w16 i
  things n.value n.rest

abbrev pub head_at : Input → Result Input FormatFault
head_at i = do
  minor ← expected w32 magic BadMagic i
  major ← expected w16 0 Version minor
  expected w16 major_version Version major

unfoldable pub class_at : Input → Reading ClassFile
class_at i = do
  start ← head_at i
  pool ← pool_at start
  flags ← number_at w16 pool.rest
  this ← class_named pool.value flags.rest
  super ← class_named pool.value this.rest
  interfaces ← table (class_named pool.value) super.rest
  fields ← counted (λ n. fields_at pool.value n []) interfaces.rest
  methods ← counted (λ n. methods_at pool.value this.value n []) fields.rest
  others ← table (attribute_at pool.value) methods.rest
  read
      (record {
        pool = pool.value;
        flags = flags.value;
        this_name = this.value;
        super_name = super.value;
        interfaces = interfaces.value;
        fields = fields.value;
        methods = methods.value;
        others = others.value;
      })
      others.rest

-- what is at the end of the input has no bytes left
abbrev pub nothing_left : {A : Type 0} → Reading A → Result A FormatFault
nothing_left (Err f) = Err f
nothing_left (Ok x) = if length x.rest.bytes == 0 then Ok x.value else fault Trailing x.rest.at

-- the class that the bytes spell, or the first fault of bytes that spell none
abbrev pub class_of : List ℕ → Result ClassFile FormatFault
class_of bytes = nothing_left (class_at (record { at = 0; bytes = bytes }))

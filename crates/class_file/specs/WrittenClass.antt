-- The one spelling of a class that is written: a name by the first entry that has it, a frame in the first form that fits, and
-- the attributes with a meaning in front of the others.
use Rattle.std.specs.Prelude.{ℕ, ◌+◌, ◌-◌, List, [], ◌∷◌, ◌++◌, length, Option, Some, None, Bool, false, nat_lt, if◌then◌else◌}
use Rattle.std.specs.List.{flat_map}
use Rattle.class_file.specs.declared.class.Attribute.{Attribute}
use Rattle.class_file.specs.declared.class.Field.{Field}
use Rattle.class_file.specs.declared.class.Handler.{Handler}
use Rattle.class_file.specs.declared.class.VType.{VType}
use Rattle.class_file.specs.declared.class.VType.TheVariants as type
use Rattle.class_file.specs.declared.class.Frame.{Frame}
use Rattle.class_file.specs.declared.class.Method.{Method}
use Rattle.class_file.specs.declared.class.ClassFile.{ClassFile}
use Rattle.class_file.specs.declared.instr.Instr.{Instr}
use Rattle.class_file.specs.declared.pool.Entry.{Entry}
use Rattle.class_file.specs.Pools.{Slots, text_in, name_in, is_text}
use Rattle.class_file.specs.Fronts.{is_type}
use Rattle.class_file.specs.InstrBytes.{u1, u2, u4, instr_bytes}
use Rattle.class_file.specs.ClassBytes.{pool_bytes, Before, at_start, behind_frame, code_name, stack_map_table, magic, major_version}

-- ---- indexes

-- the first slot from index k on of which a test holds
abbrev pub index_from : ℕ → (Option Entry → Bool) → Slots → Option ℕ
index_from k test [] = None
index_from k test (slot ∷ slots) = if test slot then Some k else index_from (k + 1) test slots

abbrev pub or_zero : Option ℕ → ℕ
or_zero None = 0
or_zero (Some index) = index

abbrev pub is_this : List ℕ → Option (List ℕ) → Bool
is_this text None = false
is_this text (Some t) = is_text t text

abbrev pub has_text : List ℕ → Option Entry → Bool
has_text text slot = is_this text (text_in slot)

abbrev pub has_name : Slots → List ℕ → Option Entry → Bool
has_name slots name slot = is_this name (name_in slots slot)

-- the first index of a text
abbrev pub text_index : Slots → List ℕ → ℕ
text_index slots text = or_zero (index_from 0 (has_text text) slots)

-- the first index of a class or an array
abbrev pub name_index : Slots → List ℕ → ℕ
name_index slots name = or_zero (index_from 0 (has_name slots name) slots)

abbrev pub text_bytes : Slots → List ℕ → List ℕ
text_bytes slots text = u2 (text_index slots text)

abbrev pub name_bytes : Slots → List ℕ → List ℕ
name_bytes slots name = u2 (name_index slots name)

-- ---- attributes

abbrev pub table_bytes : {A : Type 0} → (A → List ℕ) → List A → List ℕ
table_bytes bytes xs = u2 (length xs) ++ flat_map bytes xs

abbrev pub sized_bytes : List ℕ → List ℕ
sized_bytes body = u4 (length body) ++ body

abbrev pub named_bytes : Slots → List ℕ → List ℕ → List ℕ
named_bytes slots name body = text_bytes slots name ++ sized_bytes body

abbrev pub attribute_bytes : Slots → Attribute → List ℕ
attribute_bytes slots a = named_bytes slots a.name a.bytes

-- an attribute with a meaning, and the others
abbrev pub attributes_bytes : Slots → List ℕ → List Attribute → List ℕ
attributes_bytes slots known others = u2 (length others + 1) ++ known ++ flat_map (attribute_bytes slots) others

-- ---- frames

abbrev pub type_bytes : Slots → VType → List ℕ
type_bytes slots type.Top = u1 0
type_bytes slots type.Integer = u1 1
type_bytes slots type.Long = u1 4
type_bytes slots type.Null = u1 5
type_bytes slots type.UninitializedThis = u1 6
type_bytes slots (type.Object name) = u1 7 ++ name_bytes slots name
type_bytes slots (type.Uninitialized at) = u1 8 ++ u2 at

-- what stands in the second list behind the first, if it begins with that
abbrev pub behind : List VType → List VType → Option (List VType)
behind [] us = Some us
behind (t ∷ ts) [] = None
behind (t ∷ ts) (u ∷ us) = if is_type t u then behind ts us else None

-- how far a frame stands behind the one before
abbrev pub delta_of : Option ℕ → ℕ → ℕ
delta_of None at = at
delta_of (Some before) at = at - before - 1

abbrev pub same_bytes : ℕ → List ℕ
same_bytes delta = if nat_lt delta 64 then u1 delta else u1 251 ++ u2 delta

abbrev pub item_form_bytes : ℕ → List ℕ
item_form_bytes delta = if nat_lt delta 64 then u1 (64 + delta) else u1 247 ++ u2 delta

abbrev pub item_bytes : Slots → ℕ → VType → List ℕ
item_bytes slots delta item = item_form_bytes delta ++ type_bytes slots item

abbrev pub full_bytes : Slots → ℕ → Frame → List ℕ
full_bytes slots delta f = u1 255 ++ u2 delta ++ table_bytes (type_bytes slots) f.locals ++ table_bytes (type_bytes slots) f.stack

-- the locals are those before, and more
abbrev pub longer_bytes : Slots → ℕ → Frame → List VType → List ℕ
longer_bytes slots delta f [] = same_bytes delta
longer_bytes slots delta f (t ∷ ts) =
    if nat_lt (length (t ∷ ts)) 4 then u1 (251 + length (t ∷ ts)) ++ u2 delta ++ flat_map (type_bytes slots) (t ∷ ts) else full_bytes slots delta f

-- some of the locals before are gone, if the others are the frame's
abbrev pub shorter_bytes : Slots → ℕ → Frame → Option (List VType) → List ℕ
shorter_bytes slots delta f (Some gone) = if nat_lt (length gone) 4 then u1 (251 - length gone) ++ u2 delta else full_bytes slots delta f
shorter_bytes slots delta f None = full_bytes slots delta f

abbrev pub no_stack_bytes : Slots → ℕ → Frame → List VType → Option (List VType) → List ℕ
no_stack_bytes slots delta f before (Some more) = longer_bytes slots delta f more
no_stack_bytes slots delta f before None = shorter_bytes slots delta f (behind f.locals before)

abbrev pub one_item_bytes : Slots → ℕ → Frame → VType → Option (List VType) → List ℕ
one_item_bytes slots delta f item (Some []) = item_bytes slots delta item
one_item_bytes slots delta f item _ = full_bytes slots delta f

abbrev pub form_bytes : Slots → ℕ → Frame → List VType → List VType → List ℕ
form_bytes slots delta f before [] = no_stack_bytes slots delta f before (behind before f.locals)
form_bytes slots delta f before (item ∷ []) = one_item_bytes slots delta f item (behind before f.locals)
form_bytes slots delta f before (item ∷ more ∷ items) = full_bytes slots delta f

abbrev pub frame_bytes : Slots → Before → Frame → List ℕ
frame_bytes slots before f = form_bytes slots (delta_of before.at f.at) f before.locals f.stack

abbrev pub frames_bytes : Slots → Before → List Frame → List ℕ
frames_bytes slots before [] = []
frames_bytes slots before (f ∷ fs) = frame_bytes slots before f ++ frames_bytes slots (behind_frame f) fs

-- ---- code

abbrev pub handler_bytes : Handler → List ℕ
handler_bytes h = u2 h.start ++ u2 h.end ++ u2 h.at ++ u2 h.catch_type

-- without frames there is no attribute for them
abbrev pub code_attributes_bytes : Slots → Before → List Frame → List Attribute → List ℕ
code_attributes_bytes slots before [] others = table_bytes (attribute_bytes slots) others
code_attributes_bytes slots before (f ∷ fs) others =
    attributes_bytes slots (named_bytes slots stack_map_table (u2 (length (f ∷ fs)) ++ frames_bytes slots before (f ∷ fs))) others

abbrev pub code_bytes : Slots → List ℕ → Method → List ℕ
code_bytes slots this m =
    u2 m.max_stack ++ u2 m.max_locals ++ sized_bytes (flat_map instr_bytes m.code) ++ table_bytes handler_bytes m.handlers
    ++ code_attributes_bytes slots (at_start this m) m.frames m.code_others

-- ---- members

abbrev pub field_bytes : Slots → Field → List ℕ
field_bytes slots f = u2 f.flags ++ text_bytes slots f.name ++ text_bytes slots f.descriptor ++ table_bytes (attribute_bytes slots) f.others

abbrev pub method_attributes_bytes : Slots → List ℕ → Method → List Instr → List ℕ
method_attributes_bytes slots this m [] = table_bytes (attribute_bytes slots) m.others
method_attributes_bytes slots this m (instr ∷ instrs) = attributes_bytes slots (named_bytes slots code_name (code_bytes slots this m)) m.others

abbrev pub method_bytes : Slots → List ℕ → Method → List ℕ
method_bytes slots this m =
    u2 m.flags ++ text_bytes slots m.name ++ text_bytes slots m.descriptor ++ method_attributes_bytes slots this m m.code

-- ---- classes

abbrev pub head_bytes : List ℕ
head_bytes = u4 magic ++ u2 0 ++ u2 major_version

abbrev pub names_bytes : ClassFile → List ℕ
names_bytes c = u2 c.flags ++ name_bytes c.pool c.this_name ++ name_bytes c.pool c.super_name ++ table_bytes (name_bytes c.pool) c.interfaces

abbrev pub members_bytes : ClassFile → List ℕ
members_bytes c = table_bytes (field_bytes c.pool) c.fields ++ table_bytes (method_bytes c.pool c.this_name) c.methods

abbrev pub class_bytes : ClassFile → List ℕ
class_bytes c = head_bytes ++ pool_bytes c.pool ++ names_bytes c ++ members_bytes c ++ table_bytes (attribute_bytes c.pool) c.others

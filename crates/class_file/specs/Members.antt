-- What the names of a class mean to the verifier: which references are below which, and what a call by name takes and gives
-- (Java Virtual Machine Specification SE 8, 4.10.1.2 and 5.4.3.3).
use Rattle.std.specs.Prelude.{ℕ, zero, suc, List, [], ◌∷◌, ◌++◌, map, Option, Some, None, Bool, true, false, ◌==◌, ◌||◌, ◌&&◌, not, if◌then◌else◌, codes}
use Rattle.std.specs.Option.{option_map}
use Rattle.class_file.specs.declared.class.VType.{VType}
use Rattle.class_file.specs.declared.class.VType.TheVariants.{Top, Integer, Long, Null, UninitializedThis, Object, Uninitialized}
use Rattle.class_file.specs.declared.class.ClassFile.{ClassFile}
use Rattle.class_file.specs.declared.class.Set.{Set}
use Rattle.class_file.specs.declared.row.Row.{Row}
use Rattle.class_file.specs.declared.row.Row.TheVariants as row
use Rattle.class_file.specs.declared.pool.Entry.{Entry}
use Rattle.class_file.specs.declared.pool.Entry.TheVariants as entry
use Rattle.class_file.specs.Pools.{Slots, Member, entry_at, name_in, typed_in, is_text}
use Rattle.class_file.specs.Descriptors.{FieldType, IntType, CharType, BooleanType, LongType, Reference, is_array_name, Signature, signature, field_type}
use Rattle.class_file.specs.Classes.{Element, ClassView, class_at, class_number, chain, is_below, is_special_name, owner_number, first_method, named_method, FoundMethod, named_field, FoundField, without_last, named_type, can_be_made, object_class}

-- ---- references

-- Object and the interfaces, which every reference is below
abbrev pub is_interface_view : Option ClassView → Bool
is_interface_view (Some c) = c.is_interface
is_interface_view None = false

abbrev pub is_root : Set → ℕ → Bool
is_root set n = n == object_class || is_interface_view (class_at set n)

abbrev pub is_member : ℕ → List ℕ → Bool
is_member n [] = false
is_member n (m ∷ ms) = m == n || is_member n ms

abbrev pub is_zero : ℕ → Bool
is_zero zero = true
is_zero (suc n) = false

-- a class below another, or an array, which has dimensions, below an array whose elements its elements are below
abbrev pub element_below : Set → ℕ → ℕ → ℕ → ℕ → Bool
element_below set b m c zero = is_root set c || (is_zero m && is_member c (chain set b))
element_below set b zero c (suc n) = false
element_below set b (suc m) c (suc n) = element_below set b m c n

abbrev pub below_element : Set → Option Element → Option Element → Bool
below_element set (Some x) (Some y) = element_below set x.class x.dimensions y.class y.dimensions
below_element set _ _ = false

abbrev pub reference_below : Set → List ℕ → List ℕ → Bool
reference_below set b c = is_text b c || below_element set (named_type set b) (named_type set c)

-- Whether values of the first type are values of the second: each is below itself and Top, null below every reference, and
-- references below their superclasses, arrays by their elements, and all of them below Object and the interfaces. What is
-- uninitialised is below itself and Top alone.
abbrev pub assignable : Set → VType → VType → Bool
assignable set t Top = true
assignable set Integer Integer = true
assignable set Long Long = true
assignable set Null Null = true
assignable set Null (Object c) = true
assignable set (Object b) (Object c) = reference_below set b c
assignable set UninitializedThis UninitializedThis = true
assignable set (Uninitialized p) (Uninitialized q) = p == q
assignable set _ _ = false

-- ---- descriptors

abbrev pub type_of_field : FieldType → VType
type_of_field IntType = Integer
type_of_field CharType = Integer
type_of_field BooleanType = Integer
type_of_field LongType = Long
type_of_field (Reference name) = Object name

-- what a call takes, the last operand on top, and what it gives
pub record Call : Type 0 where
  pub params : List VType
  pub result : Option VType

abbrev pub call_of : Signature → Call
call_of s = record { params = map type_of_field s.params; result = option_map type_of_field s.result }

abbrev pub no_call : Call
no_call = record { params = []; result = None }

abbrev pub call_or_none : Option Signature → Call
call_or_none (Some s) = call_of s
call_or_none None = no_call

-- the parameters and the result of a method of this descriptor
abbrev pub described : List ℕ → Call
described descriptor = call_or_none (signature descriptor)

-- ---- calls by name

abbrev same_answer : Bool → Bool → Bool
same_answer true b = b
same_answer false b = not b

abbrev pub is_there : {A : Type 0} → Option A → Bool
is_there (Some a) = true
is_there None = false

-- A static method by its name, in a class or an interface as the entry says, or above it.
abbrev pub has_static : Set → Bool → Member → Option ℕ → Bool
has_static set interface m None = false
has_static set interface m (Some n) =
    same_answer interface (is_interface_view (class_at set n)) && (not (is_special_name m.name) && is_there (first_method set true m.name m.descriptor (chain set n)))

abbrev pub when_there : Bool → Member → Option Call
when_there true m = option_map call_of (signature m.descriptor)
when_there false m = None

abbrev pub static_member : Set → Bool → Option Member → Option Call
static_member set interface None = None
static_member set interface (Some m) = when_there (has_static set interface m (owner_number set m.owner m.name)) m

abbrev pub static_entry : Set → Slots → Option Entry → Option Call
static_entry set slots (Some (entry.MethodRef owner member)) = static_member set false (typed_in slots (name_in slots (entry_at slots owner)) (entry_at slots member))
static_entry set slots (Some (entry.InterfaceMethodRef owner member)) = static_member set true (typed_in slots (name_in slots (entry_at slots owner)) (entry_at slots member))
static_entry set slots _ = None

-- what invokestatic takes and gives
abbrev pub static_call : Set → ClassFile → ℕ → Option Call
static_call set class i = static_entry set class.pool (entry_at class.pool i)

-- a call with a receiver, by the class that it is named in
pub record ReceiverCall : Type 0 where
  pub owner : List ℕ
  pub call : Call

abbrev received : Member → Option FoundMethod → Option ReceiverCall
received m None = None
received m (Some f) = option_map (λ s. record { owner = m.owner; call = call_of s }) (signature m.descriptor)

abbrev virtual_in : Set → Bool → Member → Option ℕ → Option ReceiverCall
virtual_in set interface m None = None
virtual_in set interface m (Some n) =
    if same_answer interface (is_interface_view (class_at set n)) && not (is_special_name m.name) then received m (named_method set false m.name m.descriptor n) else None

abbrev virtual_member : Set → Bool → Option Member → Option ReceiverCall
virtual_member set interface None = None
virtual_member set interface (Some m) = virtual_in set interface m (owner_number set m.owner m.name)

abbrev virtual_entry : Set → Bool → Slots → Option Entry → Option ReceiverCall
virtual_entry set false slots (Some (entry.MethodRef owner member)) = virtual_member set false (typed_in slots (name_in slots (entry_at slots owner)) (entry_at slots member))
virtual_entry set true slots (Some (entry.InterfaceMethodRef owner member)) = virtual_member set true (typed_in slots (name_in slots (entry_at slots owner)) (entry_at slots member))
virtual_entry set interface slots _ = None

-- what invokevirtual takes and gives besides the receiver, or, of an interface's method, invokeinterface
abbrev pub virtual_call : Set → Bool → ClassFile → ℕ → Option ReceiverCall
virtual_call set interface class i = virtual_entry set interface class.pool (entry_at class.pool i)

-- what invokespecial names: a constructor; or a method of this class, or of a class or an interface above it
pub data SpecialCall : Type 0 where
  Constructs : (call : ReceiverCall) → SpecialCall
  CallsSuper : (call : ReceiverCall) → SpecialCall
  NoSpecial : SpecialCall

-- a constructor gives nothing
abbrev constructs : Option ReceiverCall → SpecialCall
constructs (Some c) = elim c.call.result [ None ↦ Constructs c | Some t ↦ NoSpecial ]
constructs None = NoSpecial

abbrev calls_super : Option ReceiverCall → SpecialCall
calls_super (Some c) = CallsSuper c
calls_super None = NoSpecial

-- whether invokespecial may name a method of this class or interface
abbrev may_name : Set → ℕ → Option ℕ → Bool
may_name set n None = false
may_name set n (Some this) = is_below set this n

abbrev special_in : Set → ClassFile → Bool → Member → Option ℕ → SpecialCall
special_in set class interface m None = NoSpecial
special_in set class interface m (Some n) =
    if not (same_answer interface (is_interface_view (class_at set n))) then NoSpecial
    else (if is_text m.name (codes "<init>") then (if interface then NoSpecial else constructs (received m (named_method set false m.name m.descriptor n)))
    else (if is_special_name m.name || not (may_name set n (class_number set class.this_name)) then NoSpecial
    else calls_super (received m (named_method set false m.name m.descriptor n))))

abbrev special_member : Set → ClassFile → Bool → Option Member → SpecialCall
special_member set class interface None = NoSpecial
special_member set class interface (Some m) = special_in set class interface m (owner_number set m.owner m.name)

abbrev special_entry : Set → ClassFile → Slots → Option Entry → SpecialCall
special_entry set class slots (Some (entry.MethodRef owner member)) = special_member set class false (typed_in slots (name_in slots (entry_at slots owner)) (entry_at slots member))
special_entry set class slots (Some (entry.InterfaceMethodRef owner member)) = special_member set class true (typed_in slots (name_in slots (entry_at slots owner)) (entry_at slots member))
special_entry set class slots _ = NoSpecial

abbrev pub special_call : Set → ClassFile → ℕ → SpecialCall
special_call set class i = special_entry set class class.pool (entry_at class.pool i)

-- ---- fields by name

-- a field by the class that it is named in, the number of the one that declares it, and its type
pub record FieldUse : Type 0 where
  pub owner : List ℕ
  pub class : ℕ
  pub type : VType

abbrev used : Member → Option FoundField → Option FieldUse
used m None = None
used m (Some f) = option_map (λ t. record { owner = m.owner; class = f.class; type = type_of_field t }) (field_type m.descriptor)

abbrev field_in : Set → Bool → Member → Option ℕ → Option FieldUse
field_in set static m None = None
field_in set static m (Some n) = used m (named_field set static m.name m.descriptor n)

abbrev field_member : Set → Bool → Option Member → Option FieldUse
field_member set static None = None
field_member set static (Some m) = field_in set static m (class_number set m.owner)

abbrev field_entry : Set → Bool → Slots → Option Entry → Option FieldUse
field_entry set static slots (Some (entry.FieldRef owner member)) = field_member set static (typed_in slots (name_in slots (entry_at slots owner)) (entry_at slots member))
field_entry set static slots _ = None

-- the static field, or the field of objects, that an index names
abbrev pub field_use : Set → Bool → ClassFile → ℕ → Option FieldUse
field_use set static class i = field_entry set static class.pool (entry_at class.pool i)

-- ---- classes by name

-- the name of a class, or the descriptor of an array
abbrev pub named_class : ClassFile → ℕ → Option (List ℕ)
named_class class i = name_in class.pool (entry_at class.pool i)

abbrev if_type : Set → Option (List ℕ) → Option (List ℕ)
if_type set None = None
if_type set (Some name) = if is_there (named_type set name) then Some name else None

-- the same, where there is such a class, or a class of such elements
abbrev pub type_named : Set → ClassFile → ℕ → Option (List ℕ)
type_named set class i = if_type set (named_class class i)

-- the descriptor of the arrays of a class or of arrays
abbrev pub array_of : List ℕ → List ℕ
array_of name = if is_array_name name then 91 ∷ name else 91 ∷ 76 ∷ name ++ 59 ∷ []

-- the arrays of what a name of the pool stands for, where there are such
abbrev pub array_named : Set → ClassFile → ℕ → Option (List ℕ)
array_named set class i = if_type set (option_map array_of (named_class class i))

-- what the elements of an array are
abbrev pub element_of : List ℕ → Option (List ℕ)
element_of [] = None
element_of (u ∷ []) = None
element_of (u ∷ v ∷ vs) = if u == 91 then Some (if v == 91 then v ∷ vs else without_last vs) else None

abbrev can_make_class : Set → Option ℕ → Bool
can_make_class set None = false
can_make_class set (Some n) = can_be_made set n

abbrev can_make : Set → Option (List ℕ) → Bool
can_make set None = false
can_make set (Some name) = can_make_class set (class_number set name)

-- `new` of a class of which no object can be made
abbrev pub cannot_be_made : Set → ClassFile → Row → Bool
cannot_be_made set class (row.New i) = not (can_make set (named_class class i))
cannot_be_made set class _ = false

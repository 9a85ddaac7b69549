-- What the indexes of a constant pool stand for (Java Virtual Machine Specification SE 8, 4.4).
use Rattle.std.specs.Prelude.{◌≡◌, ℕ, List, ◌++◌, Bool, true, false, ◌&&◌, Option, Some, None, slice_get, nat_eq, ℤ}
use lib.Pointwise.{pointwise}
use Rattle.class_file.specs.declared.pool.Entry.{Entry}
use Rattle.class_file.specs.declared.pool.Entry.TheVariants.{Utf8, Integer, Long, Class, Str, FieldRef, MethodRef, InterfaceMethodRef, NameAndType}

-- a pool: what stands at each index from 0 on
abbrev pub Slots : Type 0
Slots = List (Option Entry)

abbrev pub flat : Option (Option Entry) → Option Entry
flat (Some (Some e)) = Some e
flat (Some None) = None
flat None = None

abbrev pub entry_at : Slots → ℕ → Option Entry
entry_at slots i = flat (slice_get slots i)

-- the text of a Utf8 entry
abbrev pub text_in : Option Entry → Option (List ℕ)
text_in (Some (Utf8 t)) = Some t
text_in _ = None

-- the name of a Class entry
abbrev pub name_in : Slots → Option Entry → Option (List ℕ)
name_in slots (Some (Class name)) = text_in (entry_at slots name)
name_in slots _ = None

-- a member as code names it: the class that it is looked for in, its name and its descriptor
pub record Member : Type 0 where
  pub owner : List ℕ
  pub name : List ℕ
  pub descriptor : List ℕ

abbrev pub member_of : Option (List ℕ) → Option (List ℕ) → Option (List ℕ) → Option Member
member_of (Some owner) (Some name) (Some descriptor) = Some (record { owner = owner; name = name; descriptor = descriptor })
member_of _ _ _ = None

abbrev pub typed_in : Slots → Option (List ℕ) → Option Entry → Option Member
typed_in slots owner (Some (NameAndType name descriptor)) = member_of owner (text_in (entry_at slots name)) (text_in (entry_at slots descriptor))
typed_in slots owner _ = None

-- the method of a Methodref entry
abbrev pub method_in : Slots → Option Entry → Option Member
method_in slots (Some (MethodRef owner member)) = typed_in slots (name_in slots (entry_at slots owner)) (entry_at slots member)
method_in slots _ = None

-- a method as an instruction names it, and whether as an interface's
pub record Named : Type 0 where
  pub is_interface : Bool
  pub member : Member

abbrev pub named : Bool → Option Member → Option Named
named of_interface None = None
named of_interface (Some m) = Some (record { is_interface = of_interface; member = m })

-- the method of a Methodref or InterfaceMethodref entry
abbrev pub named_in : Slots → Option Entry → Option Named
named_in slots (Some (MethodRef owner member)) = named false (method_in slots (Some (MethodRef owner member)))
named_in slots (Some (InterfaceMethodRef owner member)) = named true (typed_in slots (name_in slots (entry_at slots owner)) (entry_at slots member))
named_in slots _ = None

-- the field of a Fieldref entry
abbrev pub field_in : Slots → Option Entry → Option Member
field_in slots (Some (FieldRef owner member)) = typed_in slots (name_in slots (entry_at slots owner)) (entry_at slots member)
field_in slots _ = None

-- what ldc2_w loads
abbrev pub long_in : Option Entry → Option ℤ
long_in (Some (Long n)) = Some n
long_in _ = None

-- what ldc loads
pub data Constant : Type 0 where
  Number : (z : ℤ) → Constant
  Literal : (units : List ℕ) → Constant

abbrev pub literal_of : Option (List ℕ) → Option Constant
literal_of (Some t) = Some (Literal t)
literal_of None = None

abbrev pub constant_in : Slots → Option Entry → Option Constant
constant_in slots (Some (Integer n)) = Some (Number n)
constant_in slots (Some (Str text)) = literal_of (text_in (entry_at slots text))
constant_in slots _ = None

-- whether two texts are one
abbrev pub is_text : List ℕ → List ℕ → Bool
is_text a b = pointwise nat_eq a b

abbrev pub is_member : Member → Member → Bool
is_member a b = is_text a.owner b.owner && (is_text a.name b.name && is_text a.descriptor b.descriptor)

-- old indexes keep what stands at them
abbrev pub Extends : Slots → Slots → Type 0
Extends old new = (more : Slots) × (new ≡ old ++ more)

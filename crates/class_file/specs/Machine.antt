-- The machine: one step, and runs (Java Virtual Machine Specification SE 8, 2.5, 2.6, 2.11 and 6.5).
use Rattle.std.specs.Prelude.{ℕ, zero, suc, ◌+◌, ◌%◌, ◌^◌, ◌/◌, List, [], ◌∷◌, ◌++◌, length, Option, Some, None, Bool, true, false, nat_lt, if◌then◌else◌, ℤ, pos, negsuc, int_lt, int_le, slice_get, slice_set, replicate, reverse, map, not, ◌&&◌, ◌||◌, ◌==◌, ◌-◌, nat_le, codes}
use Rattle.std.specs.List.{find, filter}
use Rattle.std.specs.Ordering.{int_eq}
use Rattle.std.specs.Int.{w32, w64, int_wrapping_add, int_wrapping_sub, int_wrapping_mul, int_wrapping_div, int_wrapping_neg, int_bit_and, int_bit_or, int_bit_xor, int_shl, int_shr, Width, cast_signed, cast_unsigned}
use Rattle.std.specs.Int.RustNames.{int_rem}
use Rattle.class_file.specs.declared.value.Value.{Value}
use Rattle.class_file.specs.declared.value.Value.TheVariants.{Nothing, Int, Long, Null, Ref}
use Rattle.class_file.specs.declared.value.Kind.{Kind}
use Rattle.class_file.specs.declared.value.Kind.TheVariants as kinds
use Rattle.class_file.specs.declared.value.BuiltIn.{BuiltIn}
use Rattle.class_file.specs.declared.value.BuiltIn.TheVariants as built_in
use Rattle.class_file.specs.declared.row.Row.{Row}
use Rattle.class_file.specs.declared.row.Row.TheVariants as row
use Rattle.class_file.specs.declared.row.Operator.{Operator}
use Rattle.class_file.specs.declared.row.Operator.TheVariants as op
use Rattle.class_file.specs.declared.row.Shift.{Shift}
use Rattle.class_file.specs.declared.row.Shift.TheVariants as shift
use Rattle.class_file.specs.declared.row.Test.{Test}
use Rattle.class_file.specs.declared.row.Test.TheVariants as test
use Rattle.class_file.specs.declared.instr.Instr.{Instr}
use Rattle.class_file.specs.declared.class.Method.{Method}
use Rattle.class_file.specs.declared.class.ClassFile.{ClassFile}
use Rattle.class_file.specs.declared.class.Set.{Set}
use Rattle.class_file.specs.Rows.{length_of, row_of, instr_at}
use Rattle.class_file.specs.declared.class.Handler.{Handler}
use Rattle.class_file.specs.Pools.{Slots, entry_at, Member, Named, name_in, named_in, field_in, Constant, Number, Literal, constant_in, long_in, is_text}
use Rattle.class_file.specs.Descriptors.{FieldType, Reference, kind_of, field_type, Signature, signature}
use Rattle.class_file.specs.Classes.{Body, Coded, Native, NoBody, ClassView, MethodView, FoundMethod, FoundField, Selected, Selects, Abstract, Conflict, Element, built_in_count, object_class, string_class, throwable_class, unit_number, exception_number, class_at, class_number, class_count, chain, is_below, own_method, named_method, named_field, static_fields, layout, field_place, select, one_with_body, is_special_name, owner_number, can_be_made, named_type}
use Rattle.class_file.specs.Natives.{Object, TextObject, Instance, ArrayObject, text_of, name_of, NativeEffect, Gives, SetsFirst, Writes, ReadsLine, NativeThrows, NativeFails, native_effect, Line, first_line, text_of_bytes}
use Rattle.class_file.specs.Natives as native

-- how a method is called
pub data Call : Type 0 where
  Static : Call
  Special : Call
  Virtual : Call
  OfInterface : Call

-- what a row does inside its frame, or what it needs from outside, with what it took off the stack
pub data Effect : Type 0 where
  Goes : (at : ℕ) (locals stack : List Value) → Effect
  Throws : (exception : BuiltIn) → Effect
  LoadsConstant : (index : ℕ) → Effect
  LoadsLong : (index : ℕ) → Effect
  Compares : (wanted : Bool) (to : ℕ) (first second : Value) (rest : List Value) → Effect
  GetsStatic : (index : ℕ) → Effect
  PutsStatic : (index : ℕ) (value : Value) (rest : List Value) → Effect
  GetsField : (index : ℕ) (object : Value) (rest : List Value) → Effect
  PutsField : (index : ℕ) (object value : Value) (rest : List Value) → Effect
  Invokes : (call : Call) (index : ℕ) → Effect
  News : (index : ℕ) → Effect
  NewsArray : (index : ℕ) (count : ℤ) (rest : List Value) → Effect
  Casts : (index : ℕ) (object : Value) → Effect
  Tests : (index : ℕ) (object : Value) (rest : List Value) → Effect
  Measures : (array : Value) (rest : List Value) → Effect
  LoadsItem : (array : Value) (place : ℤ) (rest : List Value) → Effect
  StoresItem : (array : Value) (place : ℤ) (value : Value) (rest : List Value) → Effect
  ThrowsObject : (object : Value) → Effect
  Returns : (values : List Value) → Effect
  -- an operand is missing or of another kind
  Fails : Effect

abbrev pub has_kind : Kind → Value → Bool
has_kind kinds.Int (Int n) = true
has_kind kinds.Long (Long n) = true
has_kind kinds.Ref Null = true
has_kind kinds.Ref (Ref r) = true
has_kind _ _ = false

-- a value that takes one place of the stack
abbrev pub is_narrow : Value → Bool
is_narrow Nothing = false
is_narrow (Long n) = false
is_narrow _ = true

abbrev pub on_int : List Value → (ℤ → List Value → Effect) → Effect
on_int (Int n ∷ rest) go = go n rest
on_int _ go = Fails

abbrev pub on_long : List Value → (ℤ → List Value → Effect) → Effect
on_long (Long n ∷ rest) go = go n rest
on_long _ go = Fails

abbrev pub on_narrow : List Value → (Value → List Value → Effect) → Effect
on_narrow [] go = Fails
on_narrow (v ∷ rest) go = if is_narrow v then go v rest else Fails

abbrev pub on_kind : Kind → List Value → (Value → List Value → Effect) → Effect
on_kind k [] go = Fails
on_kind k (v ∷ rest) go = if has_kind k v then go v rest else Fails

abbrev pub on_local : Kind → List Value → ℕ → (Value → Effect) → Effect
on_local k locals i go = elim (slice_get locals i) [ Some v ↦ if has_kind k v then go v else Fails | None ↦ Fails ]

abbrev pub on_ref : List Value → (Value → List Value → Effect) → Effect
on_ref stack go = on_kind kinds.Ref stack go

-- where a jump goes on that is made where something is so, or, with false, where it is not
abbrev pub branch : Bool → Bool → ℕ → ℕ → ℕ
branch true so to next = if so then to else next
branch false so to next = if so then next else to

abbrev pub is_null : Value → Bool
is_null Null = true
is_null _ = false

-- a long also takes the local after its own
abbrev pub stored : Kind → ℕ → Value → List Value → List Value
stored kinds.Long i v locals = slice_set (slice_set locals i v) (i + 1) Nothing
stored _ i v locals = slice_set locals i v

abbrev pub places : Kind → ℕ
places kinds.Long = 2
places _ = 1

-- the answer of an operator on two Ints, and none for a divisor 0
abbrev pub int_answer : Operator → ℤ → ℤ → Option ℤ
int_answer op.Add x y = Some (int_wrapping_add w32 x y)
int_answer op.Sub x y = Some (int_wrapping_sub w32 x y)
int_answer op.Mul x y = Some (int_wrapping_mul w32 x y)
int_answer op.Div x y = if int_eq y (pos 0) then None else Some (int_wrapping_div w32 x y)
int_answer op.Rem x y = if int_eq y (pos 0) then None else Some (int_rem x y)
int_answer op.And x y = Some (int_bit_and w32 x y)
int_answer op.Or x y = Some (int_bit_or w32 x y)
int_answer op.Xor x y = Some (int_bit_xor w32 x y)

abbrev pub long_answer : Operator → ℤ → ℤ → Option ℤ
long_answer op.Add x y = Some (int_wrapping_add w64 x y)
long_answer op.Sub x y = Some (int_wrapping_sub w64 x y)
long_answer op.Mul x y = Some (int_wrapping_mul w64 x y)
long_answer op.Div x y = if int_eq y (pos 0) then None else Some (int_wrapping_div w64 x y)
long_answer op.Rem x y = if int_eq y (pos 0) then None else Some (int_rem x y)
long_answer op.And x y = Some (int_bit_and w64 x y)
long_answer op.Or x y = Some (int_bit_or w64 x y)
long_answer op.Xor x y = Some (int_bit_xor w64 x y)

-- a number moved by so many bits
abbrev pub shifted : Shift → Width → ℤ → ℕ → ℤ
shifted shift.Left w x k = int_shl w x k
shifted shift.Right w x k = int_shr x k
shifted shift.UnsignedRight w x k = cast_signed w (cast_unsigned w x / 2 ^ k)

-- the distance of a shift: the low bits of an Int, 5 for an Int that is shifted and 6 for a Long
abbrev pub low_bits : ℕ → ℤ → ℕ
low_bits count y = cast_unsigned w32 y % 2 ^ count

abbrev pub holds : Test → ℤ → ℤ → Bool
holds test.Eq x y = int_eq x y
holds test.Ne x y = not (int_eq x y)
holds test.Lt x y = int_lt x y
holds test.Ge x y = int_le y x
holds test.Gt x y = int_lt y x
holds test.Le x y = int_le x y

abbrev pub three_way : ℤ → ℤ → ℤ
three_way x y = if int_lt x y then negsuc 0 else (if int_lt y x then pos 1 else pos 0)

-- the low half of a Long
abbrev pub low_half : ℤ → ℤ
low_half x = cast_signed w32 (cast_unsigned w64 x % 2 ^ 32)

-- the low 16 bits of an Int, which are never negative
abbrev pub low_unit : ℤ → ℤ
low_unit x = pos (cast_unsigned w32 x % 2 ^ 16)

abbrev pub or_zero_divisor : Option ℤ → (ℤ → Effect) → Effect
or_zero_divisor None go = Throws built_in.ArithmeticException
or_zero_divisor (Some n) go = go n

abbrev pub incremented : ℕ → List Value → List Value → ℕ → ℤ → Option Value → Effect
incremented next locals stack i n (Some (Int x)) = Goes next (slice_set locals i (Int (int_wrapping_add w32 x n))) stack
incremented next locals stack i n _ = Fails

-- the effect of a row, given the place of the next instruction, the local variables and the stack, its top first
abbrev pub effect : Row → ℕ → List Value → List Value → Effect
effect row.Nop next locals stack = Goes next locals stack
effect (row.PushInt n) next locals stack = Goes next locals (Int n ∷ stack)
effect (row.PushLong n) next locals stack = Goes next locals (Long n ∷ stack)
effect row.PushNull next locals stack = Goes next locals (Null ∷ stack)
effect (row.PushConstant i) next locals stack = LoadsConstant i
effect (row.Load k i) next locals stack = on_local k locals i (λ v. Goes next locals (v ∷ stack))
effect (row.Store k i) next locals stack =
    on_kind k stack (λ v rest. if nat_lt (length locals) (i + places k) then Fails else Goes next (stored k i v locals) rest)
effect (row.Increment i n) next locals stack = incremented next locals stack i n (slice_get locals i)
effect row.Pop next locals stack = on_narrow stack (λ v rest. Goes next locals rest)
effect row.Pop2 next locals (Long n ∷ rest) = Goes next locals rest
effect row.Pop2 next locals stack = on_narrow stack (λ v rest. on_narrow rest (λ w below. Goes next locals below))
effect row.Dup next locals stack = on_narrow stack (λ v rest. Goes next locals (v ∷ v ∷ rest))
effect row.DupX1 next locals stack = on_narrow stack (λ v rest. on_narrow rest (λ w below. Goes next locals (v ∷ w ∷ v ∷ below)))
effect row.Dup2 next locals (Long n ∷ rest) = Goes next locals (Long n ∷ Long n ∷ rest)
effect row.Dup2 next locals stack = on_narrow stack (λ v rest. on_narrow rest (λ w below. Goes next locals (v ∷ w ∷ v ∷ w ∷ below)))
effect (row.IntBinary o) next locals stack =
    on_int stack (λ y rest. on_int rest (λ x below. or_zero_divisor (int_answer o x y) (λ n. Goes next locals (Int n ∷ below))))
effect (row.LongBinary o) next locals stack =
    on_long stack (λ y rest. on_long rest (λ x below. or_zero_divisor (long_answer o x y) (λ n. Goes next locals (Long n ∷ below))))
effect (row.IntShift s) next locals stack =
    on_int stack (λ y rest. on_int rest (λ x below. Goes next locals (Int (shifted s w32 x (low_bits 5 y)) ∷ below)))
effect (row.LongShift s) next locals stack =
    on_int stack (λ y rest. on_long rest (λ x below. Goes next locals (Long (shifted s w64 x (low_bits 6 y)) ∷ below)))
effect row.IntNeg next locals stack = on_int stack (λ x rest. Goes next locals (Int (int_wrapping_neg w32 x) ∷ rest))
effect row.LongNeg next locals stack = on_long stack (λ x rest. Goes next locals (Long (int_wrapping_neg w64 x) ∷ rest))
effect row.IntToLong next locals stack = on_int stack (λ x rest. Goes next locals (Long x ∷ rest))
effect row.LongToInt next locals stack = on_long stack (λ x rest. Goes next locals (Int (low_half x) ∷ rest))
effect row.IntToChar next locals stack = on_int stack (λ x rest. Goes next locals (Int (low_unit x) ∷ rest))
effect row.LongCompare next locals stack =
    on_long stack (λ y rest. on_long rest (λ x below. Goes next locals (Int (three_way x y) ∷ below)))
effect (row.IfZero t to) next locals stack =
    on_int stack (λ x rest. Goes (if holds t x (pos 0) then to else next) locals rest)
effect (row.IfCompare t to) next locals stack =
    on_int stack (λ y rest. on_int rest (λ x below. Goes (if holds t x y then to else next) locals below))
effect (row.IfNull wanted to) next locals stack =
    on_ref stack (λ v rest. Goes (branch wanted (is_null v) to next) locals rest)
effect (row.Goto to) next locals stack = Goes to locals stack
effect (row.PushLongConstant i) next locals stack = LoadsLong i
effect (row.IfSame wanted to) next locals stack = on_ref stack (λ w rest. on_ref rest (λ v below. Compares wanted to v w below))
effect (row.GetStatic i) next locals stack = GetsStatic i
effect (row.PutStatic i) next locals [] = Fails
effect (row.PutStatic i) next locals (v ∷ rest) = PutsStatic i v rest
effect (row.GetField i) next locals stack = on_ref stack (λ o rest. GetsField i o rest)
effect (row.PutField i) next locals [] = Fails
effect (row.PutField i) next locals (v ∷ rest) = on_ref rest (λ o below. PutsField i o v below)
effect (row.InvokeVirtual i) next locals stack = Invokes Virtual i
effect (row.InvokeSpecial i) next locals stack = Invokes Special i
effect (row.InvokeStatic i) next locals stack = Invokes Static i
effect (row.InvokeInterface i) next locals stack = Invokes OfInterface i
effect (row.New i) next locals stack = News i
effect (row.NewArray i) next locals stack = on_int stack (λ n rest. NewsArray i n rest)
effect (row.CheckCast i) next locals stack = on_ref stack (λ o rest. Casts i o)
effect (row.InstanceOf i) next locals stack = on_ref stack (λ o rest. Tests i o rest)
effect row.ArrayLength next locals stack = on_ref stack (λ a rest. Measures a rest)
effect row.ArrayLoad next locals stack = on_int stack (λ i rest. on_ref rest (λ a below. LoadsItem a i below))
effect row.ArrayStore next locals stack = on_ref stack (λ v rest. on_int rest (λ i below. on_ref below (λ a bottom. StoresItem a i v bottom)))
effect row.Throw next locals stack = on_ref stack (λ o rest. ThrowsObject o)
effect row.Return next locals stack = Returns []
effect (row.ReturnValue k) next locals stack = on_kind k stack (λ v rest. Returns (v ∷ []))

-- ---- the whole state

-- A method that runs or waits, by its class's place in the set and its own in the class: the place of the instruction under way,
-- also while it waits for a call, its local variables and its stack, the top first. `starts` says that it initialises its
-- class: behind its return the frame below makes its own instruction again.
pub record Active : Type 0 where
  pub class : ℕ
  pub method : ℕ
  pub at : ℕ
  pub locals : List Value
  pub stack : List Value
  pub starts : Bool

-- What changes in a run: the frames, the running one first, and none before main is called; the objects, each under its
-- number; the values of static fields, by the number of their class and their place in it; for each class of the set whether its
-- initialisation has begun; the bytes of the standard input that are left; and the bytes written so far.
pub record State : Type 0 where
  pub frames : List Active
  pub heap : List Object
  pub statics : List (List Value)
  pub started : List Bool
  pub input : List ℕ
  pub out : List ℕ

-- how a run ends
pub data Ending : Type 0 where
  Ended : Ending
  Threw : (class : List ℕ) (message : Option (List ℕ)) → Ending
  Stuck : Ending

-- what a step comes to; an end keeps what was written
pub data Next : Type 0 where
  Going : (state : State) → Next
  Over : (how : Ending) (out : List ℕ) → Next

abbrev pub stuck : State → Next
stuck s = Over Stuck s.out

abbrev pub written : Next → List ℕ
written (Going s) = s.out
written (Over how out) = out

-- goes on with what is there, and is stuck where nothing is
abbrev pub with : {A : Type 0} → State → Option A → (A → Next) → Next
with s None go = stuck s
with s (Some a) go = go a

abbrev pub only_if : State → Bool → Next → Next
only_if s true next = next
only_if s false next = stuck s

-- the running frame goes on at a place with a stack
abbrev pub goes_on : State → Active → List Active → ℕ → List Value → Next
goes_on s f fs at stack = Going (record s { frames = record f { at = at; stack = stack } ∷ fs })

-- the same with a new object, whose number comes onto the stack
abbrev pub made : State → Active → List Active → ℕ → Object → List Value → Next
made s f fs next object rest =
    Going (record s { frames = record f { at = next; stack = Ref (length s.heap) ∷ rest } ∷ fs; heap = s.heap ++ object ∷ [] })

-- ---- names of a class's pool

abbrev pub pool_of : Option ClassFile → Slots
pool_of (Some c) = c.pool
pool_of None = []

-- the pool of the class at a place of the set
abbrev pub class_pool : Set → ℕ → Slots
class_pool set class = pool_of (slice_get set.classes class)

abbrev pub methods_of : Option ClassFile → List Method
methods_of (Some c) = c.methods
methods_of None = []

abbrev pub method_at : Set → ℕ → ℕ → Option Method
method_at set class method = slice_get (methods_of (slice_get set.classes class)) method

abbrev pub instr_in : Option Method → ℕ → Option Instr
instr_in (Some m) at = instr_at m.code at
instr_in None at = None

-- the instruction at a place of a method
unfoldable pub fetch : Set → ℕ → ℕ → ℕ → Option Instr
fetch set class method at = instr_in (method_at set class method) at

unfoldable pub constant : Set → ℕ → ℕ → Option Constant
constant set class i = constant_in (class_pool set class) (entry_at (class_pool set class) i)

unfoldable pub long_constant : Set → ℕ → ℕ → Option ℤ
long_constant set class i = long_in (entry_at (class_pool set class) i)

-- a method that is called: the number of the class that the reference names, the method found there, and its signature
pub record Callee : Type 0 where
  pub owner : ℕ
  pub found : FoundMethod
  pub signature : Signature

abbrev pub is_static_call : Call → Bool
is_static_call Static = true
is_static_call Special = false
is_static_call Virtual = false
is_static_call OfInterface = false

abbrev pub is_interface_in : Option ClassView → Bool
is_interface_in (Some c) = c.is_interface
is_interface_in None = false

-- A reference to an interface's method names an interface, any other one a class. invokevirtual calls a class's methods and
-- invokeinterface an interface's.
abbrev pub may_call : Call → Bool → Bool → Bool
may_call Static of_interface is_interface = if of_interface then is_interface else not is_interface
may_call Special of_interface is_interface = if of_interface then is_interface else not is_interface
may_call Virtual of_interface is_interface = not of_interface && not is_interface
may_call OfInterface of_interface is_interface = of_interface && is_interface

abbrev pub callee_of : ℕ → Option FoundMethod → Option Signature → Option Callee
callee_of owner (Some found) (Some sign) = Some (record { owner = owner; found = found; signature = sign })
callee_of owner _ _ = None

-- a method whose name begins with `<` is called by invokespecial alone
abbrev pub may_name : Call → List ℕ → Bool
may_name Static name = not (is_special_name name)
may_name Special name = true
may_name Virtual name = not (is_special_name name)
may_name OfInterface name = not (is_special_name name)

abbrev pub callee_at : Set → Call → Named → Option ℕ → Option Callee
callee_at set call n None = None
callee_at set call n (Some owner) =
    if may_call call n.is_interface (is_interface_in (class_at set owner)) && may_name call n.member.name
    then callee_of owner (named_method set (is_static_call call) n.member.name n.member.descriptor owner) (signature n.member.descriptor)
    else None

-- the method that a reference names, for a way of calling it
abbrev pub callee : Set → Call → Option Named → Option Callee
callee set call None = None
callee set call (Some n) = callee_at set call n (owner_number set n.member.owner n.member.name)

-- the method that an index of a class's pool names
unfoldable pub resolve : Set → Call → ℕ → ℕ → Option Callee
resolve set call class i = callee set call (named_in (class_pool set class) (entry_at (class_pool set class) i))

abbrev pub field_of : Set → Bool → Member → Option ℕ → Option FoundField
field_of set static m None = None
field_of set static m (Some owner) = named_field set static m.name m.descriptor owner

abbrev pub field_named : Set → Bool → Option Member → Option FoundField
field_named set static None = None
field_named set static (Some m) = field_of set static m (class_number set m.owner)

-- the field that an index of a class's pool names
unfoldable pub resolve_field : Set → Bool → ℕ → ℕ → Option FoundField
resolve_field set static class i = field_named set static (field_in (class_pool set class) (entry_at (class_pool set class) i))

abbrev pub type_named : Set → Option (List ℕ) → Option Element
type_named set None = None
type_named set (Some name) = named_type set name

-- the class or array that an index of a class's pool names
unfoldable pub resolve_type : Set → ℕ → ℕ → Option Element
resolve_type set class i = type_named set (name_in (class_pool set class) (entry_at (class_pool set class) i))

-- ---- objects and their types

abbrev pub class_of : Object → ℕ
class_of (TextObject units) = string_class
class_of (Instance class fields) = class
class_of (ArrayObject class dimensions items) = object_class

-- is every array with elements of one kind an array with elements of the other?
abbrev pub element_below : Set → ℕ → ℕ → ℕ → ℕ → Bool
element_below set class dimensions other wanted =
    if nat_lt dimensions wanted then false
    else (if nat_lt wanted dimensions then other == object_class else is_below set class other)

-- is an object of this type? The type of an array stands as its element with one dimension more.
abbrev pub is_instance : Set → Object → Element → Bool
is_instance set (TextObject units) t = t.dimensions == 0 && is_below set string_class t.class
is_instance set (Instance class fields) t = t.dimensions == 0 && is_below set class t.class
is_instance set (ArrayObject class dimensions items) t = element_below set class (dimensions + 1) t.class t.dimensions

abbrev pub same_text : Option (List ℕ) → Option (List ℕ) → Bool
same_text (Some a) (Some b) = is_text a b
same_text _ _ = false

abbrev pub same_object : List Object → ℕ → ℕ → Bool
same_object heap r q = r == q || same_text (text_of heap r) (text_of heap q)

-- two references are the same where both are null, name one object, or name texts of equal contents
abbrev pub is_same : List Object → Value → Value → Bool
is_same heap Null Null = true
is_same heap (Ref r) (Ref q) = same_object heap r q
is_same heap _ _ = false

-- ---- throws

-- the message of an exception that the machine makes
abbrev pub message : BuiltIn → Option (List ℕ)
message built_in.ArithmeticException = Some (codes "/ by zero")
message _ = None

-- a new exception, behind its message if it has one
abbrev pub exception_objects : ℕ → ℕ → Option (List ℕ) → List Object
exception_objects here class None = Instance class (Null ∷ []) ∷ []
exception_objects here class (Some units) = TextObject units ∷ Instance class (Ref here ∷ []) ∷ []

abbrev pub exception_place : ℕ → Option (List ℕ) → ℕ
exception_place here None = here
exception_place here (Some units) = here + 1

abbrev pub with_exception : BuiltIn → State → State
with_exception x s = record s { heap = s.heap ++ exception_objects (length s.heap) (exception_number x) (message x) }

abbrev pub exception_reference : BuiltIn → State → ℕ
exception_reference x s = exception_place (length s.heap) (message x)

abbrev pub type_covers : Set → ℕ → Option ℕ → Bool
type_covers set class None = false
type_covers set class (Some caught) = is_below set class caught

abbrev pub number_named : Set → Option (List ℕ) → Option ℕ
number_named set None = None
number_named set (Some name) = class_number set name

-- does a row of an exception table catch an exception of a class that comes from a place?
abbrev pub catches : Set → Slots → ℕ → ℕ → Handler → Bool
catches set pool class at h =
    nat_le h.start at && nat_lt at h.end
    && (h.catch_type == 0 || type_covers set class (number_named set (name_in pool (entry_at pool h.catch_type))))

abbrev pub handlers_of : Option Method → List Handler
handlers_of (Some m) = m.handlers
handlers_of None = []

-- the first row of a frame's method that catches the exception
abbrev pub handler : Set → ℕ → Active → Option Handler
handler set class f = find (catches set (class_pool set f.class) class f.at) (handlers_of (method_at set f.class f.method))

abbrev pub message_of : List Object → List Value → Option (List ℕ)
message_of heap (Ref r ∷ vs) = text_of heap r
message_of heap _ = None

-- an exception of a class, with these fields, leaves the frames down to one that handles it
abbrev pub unwound : Set → State → ℕ → ℕ → List Value → List Active → Next
unwound set s r class fields [] = Over (Threw (name_of set class) (message_of s.heap fields)) s.out
unwound set s r class fields (f ∷ fs) = elim (handler set class f) [
  | Some h ↦ goes_on s f fs h.at (Ref r ∷ [])
  | None ↦ unwound set s r class fields fs
]

-- an object is thrown
abbrev pub thrown_object : Set → State → ℕ → List Active → Option Object → Next
thrown_object set s r fs (Some (Instance class fields)) = only_if s (is_below set class throwable_class) (unwound set s r class fields fs)
thrown_object set s r fs _ = stuck s

abbrev pub exception_fields : ℕ → Option (List ℕ) → List Value
exception_fields here None = Null ∷ []
exception_fields here (Some units) = Ref here ∷ []

-- an exception of the machine's own is thrown
abbrev pub thrown : Set → BuiltIn → State → List Active → Next
thrown set x s fs =
    let t = with_exception x s in
    unwound set t (exception_reference x s) (exception_number x) (exception_fields (length s.heap) (message x)) fs

-- ---- initialisation of classes

abbrev pub clinit : Set → ℕ → Option MethodView
clinit set n = own_method set true (codes "<clinit>") (codes "()V") n

-- the frame of a method without parameters
abbrev pub first_frame : Bool → ℕ → ℕ → Method → Active
first_frame starts class method m = record { class = class; method = method; at = 0; locals = replicate m.max_locals Nothing; stack = []; starts = starts }

-- the initialisation of the class of this number has begun
abbrev pub marked : ℕ → List Bool → List Bool
marked n started = slice_set started (n - built_in_count) true

abbrev pub started_with : State → ℕ → List Active → ℕ → ℕ → Option Method → Next
started_with s n fs class method None = stuck s
started_with s n fs class method (Some m) = Going (record s { frames = first_frame true class method m ∷ fs; started = marked n s.started })

abbrev pub run_clinit : Set → State → ℕ → List Active → Body → Next
run_clinit set s n fs (Coded class method) = started_with s n fs class method (method_at set class method)
run_clinit set s n fs (Native id) = stuck s
run_clinit set s n fs NoBody = stuck s

-- Classes are initialised in this order: one that has an initialiser runs it, and the instruction under way is made again
-- behind it; where none has one the instruction goes on.
abbrev pub starting : Set → State → List Active → List ℕ → (State → Next) → Next
starting set s fs [] go = go s
starting set s fs (n ∷ ns) go = elim (clinit set n) [
  | Some m ↦ run_clinit set s n fs m.body
  | None ↦ starting set (record s { started = marked n s.started }) fs ns go
]

abbrev pub is_marked : Option Bool → Bool
is_marked (Some mark) = mark
is_marked None = false

-- built-in classes have nothing to initialise
abbrev pub is_started : List Bool → ℕ → Bool
is_started started n = nat_lt n built_in_count || is_marked (slice_get started (n - built_in_count))

-- of a class and its superclasses those that are not started, the topmost one first
abbrev pub unstarted : Set → State → ℕ → List ℕ
unstarted set s n = filter (λ m. not (is_started s.started m)) (reverse (chain set n))

-- A class that is not started is initialised first, its superclasses before it, the topmost one first; its interfaces are not
-- initialised with it.
abbrev pub with_started : Set → State → List Active → ℕ → (State → Next) → Next
with_started set s fs n go =
    if is_started s.started n then go s else starting set s fs (unstarted set s n) go

-- ---- calls

-- arguments that were taken off a stack, the first one first, and what is left of the stack
pub record Popped : Type 0 where
  pub args : List Value
  pub rest : List Value

abbrev pub take_args : List FieldType → List Value → List Value → Option Popped
take_args [] args stack = Some (record { args = args; rest = stack })
take_args (t ∷ ts) args [] = None
take_args (t ∷ ts) args (v ∷ stack) = if has_kind (kind_of t) v then take_args ts (v ∷ args) stack else None

-- the arguments of these types, the last one on top
abbrev pub popped : List FieldType → List Value → Option Popped
popped params stack = take_args (reverse params) [] stack

-- arguments as local variables
abbrev pub spread : List Value → List Value
spread [] = []
spread (Long n ∷ vs) = Long n ∷ Nothing ∷ spread vs
spread (v ∷ vs) = v ∷ spread vs

abbrev pub first_locals : ℕ → List Value → List Value
first_locals max args = spread args ++ replicate (max - length (spread args)) Nothing

abbrev pub entered : State → List Active → ℕ → ℕ → List Value → Option Method → Next
entered s fs class method args None = stuck s
entered s fs class method args (Some m) =
    Going (record s { frames = record { class = class; method = method; at = 0; locals = first_locals m.max_locals args; stack = []; starts = false } ∷ fs })

abbrev pub set_first_field : Value → Object → Object
set_first_field v (Instance class fields) = Instance class (slice_set fields 0 v)
set_first_field v o = o

abbrev pub with_object : State → ℕ → Option Object → (Object → Object) → State
with_object s r None change = s
with_object s r (Some o) change = record s { heap = slice_set s.heap r (change o) }

abbrev pub line_read : State → Active → List Active → ℕ → Option Line → Next
line_read s f fs next None = goes_on s f fs next (Null ∷ f.stack)
line_read s f fs next (Some line) = made (record s { input = line.rest }) f fs next (TextObject (text_of_bytes line.bytes)) f.stack

-- what a native's effect makes of the state; the arguments are off the stack
abbrev pub native_step : Set → State → Active → List Active → ℕ → NativeEffect → Next
native_step set s f fs next (Gives values) = goes_on s f fs next (values ++ f.stack)
native_step set s f fs next (native.Makes object) = made s f fs next object f.stack
native_step set s f fs next (SetsFirst r v) = goes_on (with_object s r (slice_get s.heap r) (set_first_field v)) f fs next f.stack
native_step set s f fs next (Writes bytes) = Going (record s { frames = record f { at = next } ∷ fs; out = s.out ++ bytes })
native_step set s f fs next ReadsLine = line_read s f fs next (first_line s.input)
native_step set s f fs next (NativeThrows x) = thrown set x s (f ∷ fs)
native_step set s f fs next NativeFails = stuck s

-- a method's body runs over its arguments, which are off the stack
abbrev pub run : Set → State → Active → List Active → ℕ → List Value → Body → Next
run set s f fs next args (Coded class method) = entered s (f ∷ fs) class method args (method_at set class method)
run set s f fs next args (Native id) = native_step set s f fs next (native_effect set id s.heap args)
run set s f fs next args NoBody = thrown set built_in.AbstractMethodError s (f ∷ fs)

abbrev pub selected : Set → State → Active → List Active → ℕ → List Value → Selected → Next
selected set s f fs next args (Selects found) = run set s f fs next args found.method.body
selected set s f fs next args Abstract = thrown set built_in.AbstractMethodError s (f ∷ fs)
selected set s f fs next args Conflict = thrown set built_in.IncompatibleClassChangeError s (f ∷ fs)

-- the object that a method is called on
abbrev pub on_receiver : Set → State → Active → List Active → List Value → (Object → Next) → Next
on_receiver set s f fs (Ref r ∷ args) go = with s (slice_get s.heap r) go
on_receiver set s f fs (Null ∷ args) go = thrown set built_in.NullPointerException s (f ∷ fs)
on_receiver set s f fs _ go = stuck s

-- what invokespecial runs: a constructor as it is named, any other method as the class that is named would run it
abbrev pub special : Set → Callee → Selected
special set c =
    if is_special_name c.found.method.name then one_with_body c.found
    else select set c.owner c.found.method.name c.found.method.descriptor

abbrev pub dispatched : Set → State → Active → List Active → ℕ → Call → Callee → List Value → Object → Next
dispatched set s f fs next Static c args o = stuck s
dispatched set s f fs next Special c args o = selected set s f fs next args (special set c)
dispatched set s f fs next Virtual c args o =
    only_if s (is_below set (class_of o) c.owner) (selected set s f fs next args (select set (class_of o) c.found.method.name c.found.method.descriptor))
dispatched set s f fs next OfInterface c args o =
    if is_below set (class_of o) c.owner
    then selected set s f fs next args (select set (class_of o) c.found.method.name c.found.method.descriptor)
    else thrown set built_in.IncompatibleClassChangeError s (f ∷ fs)

abbrev pub on_object : Set → State → Active → List Active → ℕ → Call → Callee → Next
on_object set s f fs next call c =
    with s (popped (Reference [] ∷ c.signature.params) f.stack) (λ p.
    on_receiver set s (record f { stack = p.rest }) fs p.args (dispatched set s (record f { stack = p.rest }) fs next call c p.args))

abbrev pub static_call : Set → State → Active → List Active → ℕ → Callee → Next
static_call set s f fs next c =
    with s (popped c.signature.params f.stack) (λ p. run set s (record f { stack = p.rest }) fs next p.args c.found.method.body)

abbrev pub called : Set → State → Active → List Active → ℕ → Call → Callee → Next
called set s f fs next Static c = with_started set s (f ∷ fs) c.found.class (λ t. static_call set t f fs next c)
called set s f fs next Special c = on_object set s f fs next Special c
called set s f fs next Virtual c = on_object set s f fs next Virtual c
called set s f fs next OfInterface c = on_object set s f fs next OfInterface c

abbrev pub invoked : Set → State → Active → List Active → ℕ → Call → Option Callee → Next
invoked set s f fs next call None = stuck s
invoked set s f fs next call (Some c) = called set s f fs next call c

-- a frame that waited goes on behind its call, with what the call gave
abbrev pub resumed : State → List Value → Active → List Active → Option Instr → Next
resumed s values f fs None = stuck s
resumed s values f fs (Some i) = goes_on s f fs (f.at + length_of i) (values ++ f.stack)

-- main and initialisers of classes give nothing
abbrev pub without_value : State → List Value → Next → Next
without_value s [] next = next
without_value s (v ∷ vs) next = stuck s

abbrev pub handed : Set → State → List Value → List Active → Next
handed set s values [] = without_value s values (Over Ended s.out)
handed set s values (f ∷ fs) = resumed s values f fs (fetch set f.class f.method f.at)

-- the running frame returns
abbrev pub returned : Set → State → List Value → Active → List Active → Next
returned set s values f fs =
    if f.starts then without_value s values (Going (record s { frames = fs })) else handed set s values fs

-- ---- constants, fields, objects and arrays

-- a literal is a new object each time; two texts of equal contents are one to the code
abbrev pub loaded : State → Active → List Active → ℕ → Option Constant → Next
loaded s f fs next None = stuck s
loaded s f fs next (Some (Number n)) = goes_on s f fs next (Int n ∷ f.stack)
loaded s f fs next (Some (Literal units)) = made s f fs next (TextObject units) f.stack

abbrev pub statics_in : Option (List Value) → List Value
statics_in (Some values) = values
statics_in None = []

abbrev pub static_value : State → FoundField → Option Value
static_value s field = slice_get (statics_in (slice_get s.statics field.class)) field.place

abbrev pub with_static : State → FoundField → Value → State
with_static s field v = record s { statics = slice_set s.statics field.class (slice_set (statics_in (slice_get s.statics field.class)) field.place v) }

-- is the value of the kind of the field?
abbrev pub suits : Option FieldType → Value → Bool
suits (Some t) v = has_kind (kind_of t) v
suits None v = false

abbrev pub got_static : Set → State → Active → List Active → ℕ → FoundField → Next
got_static set s f fs next field =
    with_started set s (f ∷ fs) field.class (λ t. with t (static_value t field) (λ v. goes_on t f fs next (v ∷ f.stack)))

abbrev pub put_static : Set → State → Active → List Active → ℕ → Value → List Value → FoundField → Next
put_static set s f fs next v rest field =
    with_started set s (f ∷ fs) field.class (λ t.
    only_if t (suits (field_type field.descriptor) v) (with t (static_value t field) (λ old. goes_on (with_static t field v) f fs next rest)))

-- an object's fields, where it has the field
abbrev pub fields_of : Set → FoundField → Object → Option (List Value)
fields_of set field (Instance class fields) = if is_below set class field.class then Some fields else None
fields_of set field _ = None

-- an object is wanted; null throws
abbrev pub on_reference : Set → State → Active → List Active → Value → (ℕ → Object → Next) → Next
on_reference set s f fs (Ref r) go = with s (slice_get s.heap r) (go r)
on_reference set s f fs Null go = thrown set built_in.NullPointerException s (f ∷ fs)
on_reference set s f fs _ go = stuck s

abbrev pub got_field : Set → State → Active → List Active → ℕ → Value → List Value → FoundField → Next
got_field set s f fs next object rest field =
    on_reference set s f fs object (λ r o. with s (fields_of set field o) (λ fields.
    with s (slice_get fields (field_place set field.class field.place)) (λ v. goes_on s f fs next (v ∷ rest))))

abbrev pub with_field : State → ℕ → Object → ℕ → Value → State
with_field s r (Instance class fields) place v = record s { heap = slice_set s.heap r (Instance class (slice_set fields place v)) }
with_field s r (TextObject units) place v = s
with_field s r (ArrayObject class dimensions items) place v = s

abbrev pub put_field : Set → State → Active → List Active → ℕ → Value → Value → List Value → FoundField → Next
put_field set s f fs next object v rest field =
    only_if s (suits (field_type field.descriptor) v) (on_reference set s f fs object (λ r o. with s (fields_of set field o) (λ fields.
    with s (slice_get fields (field_place set field.class field.place)) (λ old.
    goes_on (with_field s r o (field_place set field.class field.place) v) f fs next rest))))

abbrev pub new_object : Set → State → Active → List Active → ℕ → Element → Next
new_object set s f fs next t =
    only_if s (t.dimensions == 0 && can_be_made set t.class)
    (with_started set s (f ∷ fs) t.class (λ u. made u f fs next (Instance t.class (layout set t.class)) f.stack))

abbrev pub new_array : Set → State → Active → List Active → ℕ → ℤ → List Value → Element → Next
new_array set s f fs next (pos count) rest t = made s f fs next (ArrayObject t.class t.dimensions (replicate count Null)) rest
new_array set s f fs next (negsuc n) rest t = thrown set built_in.NegativeArraySizeException s (f ∷ fs)

-- null passes every cast
abbrev pub cast : Set → State → Active → List Active → ℕ → Value → Element → Next
cast set s f fs next Null t = goes_on s f fs next f.stack
cast set s f fs next (Ref r) t =
    with s (slice_get s.heap r) (λ o. if is_instance set o t then goes_on s f fs next f.stack else thrown set built_in.ClassCastException s (f ∷ fs))
cast set s f fs next _ t = stuck s

-- null is of no type
abbrev pub tested : Set → State → Active → List Active → ℕ → Value → List Value → Element → Next
tested set s f fs next Null rest t = goes_on s f fs next (Int (pos 0) ∷ rest)
tested set s f fs next (Ref r) rest t =
    with s (slice_get s.heap r) (λ o. goes_on s f fs next (Int (if is_instance set o t then pos 1 else pos 0) ∷ rest))
tested set s f fs next _ rest t = stuck s

abbrev pub items_of : Object → Option (List Value)
items_of (ArrayObject class dimensions items) = Some items
items_of _ = None

abbrev pub measured : Set → State → Active → List Active → ℕ → Value → List Value → Next
measured set s f fs next array rest =
    on_reference set s f fs array (λ r o. with s (items_of o) (λ items. goes_on s f fs next (Int (cast_signed w32 (length items % 2 ^ 32)) ∷ rest)))

-- the element at a place, or a throw
abbrev pub at_place : Set → State → Active → List Active → List Value → ℤ → (ℕ → Value → Next) → Next
at_place set s f fs items (pos place) go = elim (slice_get items place) [
  | Some v ↦ go place v
  | None ↦ thrown set built_in.ArrayIndexOutOfBoundsException s (f ∷ fs)
]
at_place set s f fs items (negsuc n) go = thrown set built_in.ArrayIndexOutOfBoundsException s (f ∷ fs)

abbrev pub item_loaded : Set → State → Active → List Active → ℕ → Value → ℤ → List Value → Next
item_loaded set s f fs next array place rest =
    on_reference set s f fs array (λ r o. with s (items_of o) (λ items. at_place set s f fs items place (λ k v. goes_on s f fs next (v ∷ rest))))

-- may the value be an element? Null always may.
abbrev pub fits_element : Set → State → ℕ → ℕ → Value → Option Bool
fits_element set s class dimensions Null = Some true
fits_element set s class dimensions (Ref r) =
    elim (slice_get s.heap r) [ Some o ↦ Some (is_instance set o (record { class = class; dimensions = dimensions })) | None ↦ None ]
fits_element set s class dimensions _ = None

abbrev pub stored_in : Set → State → Active → List Active → ℕ → ℤ → Value → List Value → ℕ → Object → Next
stored_in set s f fs next place v rest r (ArrayObject class dimensions items) =
    at_place set s f fs items place (λ k old. with s (fits_element set s class dimensions v) (λ fits.
    if fits then goes_on (record s { heap = slice_set s.heap r (ArrayObject class dimensions (slice_set items k v)) }) f fs next rest
    else thrown set built_in.ArrayStoreException s (f ∷ fs)))
stored_in set s f fs next place v rest r _ = stuck s

abbrev pub item_stored : Set → State → Active → List Active → ℕ → Value → ℤ → Value → List Value → Next
item_stored set s f fs next array place v rest = on_reference set s f fs array (stored_in set s f fs next place v rest)

abbrev pub throws_object : Set → State → Active → List Active → Value → Next
throws_object set s f fs (Ref r) = thrown_object set s r (f ∷ fs) (slice_get s.heap r)
throws_object set s f fs Null = thrown set built_in.NullPointerException s (f ∷ fs)
throws_object set s f fs _ = stuck s

-- ---- steps

-- what an effect makes of the whole state
abbrev pub after : Set → State → Active → List Active → ℕ → Effect → Next
after set s f fs next (Goes at locals stack) = Going (record s { frames = record f { at = at; locals = locals; stack = stack } ∷ fs })
after set s f fs next (Throws x) = thrown set x s (f ∷ fs)
after set s f fs next (LoadsConstant i) = loaded s f fs next (constant set f.class i)
after set s f fs next (LoadsLong i) = with s (long_constant set f.class i) (λ n. goes_on s f fs next (Long n ∷ f.stack))
after set s f fs next (Compares wanted to v w rest) = goes_on s f fs (branch wanted (is_same s.heap v w) to next) rest
after set s f fs next (GetsStatic i) = with s (resolve_field set true f.class i) (got_static set s f fs next)
after set s f fs next (PutsStatic i v rest) = with s (resolve_field set true f.class i) (put_static set s f fs next v rest)
after set s f fs next (GetsField i o rest) = with s (resolve_field set false f.class i) (got_field set s f fs next o rest)
after set s f fs next (PutsField i o v rest) = with s (resolve_field set false f.class i) (put_field set s f fs next o v rest)
after set s f fs next (Invokes call i) = invoked set s f fs next call (resolve set call f.class i)
after set s f fs next (News i) = with s (resolve_type set f.class i) (new_object set s f fs next)
after set s f fs next (NewsArray i count rest) = with s (resolve_type set f.class i) (new_array set s f fs next count rest)
after set s f fs next (Casts i o) = with s (resolve_type set f.class i) (cast set s f fs next o)
after set s f fs next (Tests i o rest) = with s (resolve_type set f.class i) (tested set s f fs next o rest)
after set s f fs next (Measures array rest) = measured set s f fs next array rest
after set s f fs next (LoadsItem array place rest) = item_loaded set s f fs next array place rest
after set s f fs next (StoresItem array place v rest) = item_stored set s f fs next array place v rest
after set s f fs next (ThrowsObject o) = throws_object set s f fs o
after set s f fs next (Returns values) = returned set s values f fs
after set s f fs next Fails = stuck s

abbrev pub executed : Set → State → Active → List Active → Option Instr → Next
executed set s f fs None = stuck s
executed set s f fs (Some i) = after set s f fs (f.at + length_of i) (effect (row_of f.at i) (f.at + length_of i) f.locals f.stack)

abbrev pub begun : Set → State → Body → Next
begun set s (Coded class method) = entered s [] class method [] (method_at set class method)
begun set s (Native id) = stuck s
begun set s NoBody = stuck s

-- the method that a run begins with
abbrev pub main_found : Set → Option ℕ → Option FoundMethod
main_found set None = None
main_found set (Some class) = named_method set true (codes "main") (codes "()V") class

unfoldable pub main_method : Set → Option FoundMethod
main_method set = main_found set (class_number set set.main)

-- the call of main, which is a step of its own, and which first initialises its class
unfoldable pub begin : Set → State → Next
begin set s = with s (main_method set) (λ m. with_started set s [] m.class (λ t. begun set t m.method.body))

abbrev pub running : Set → State → List Active → Next
running set s [] = begin set s
running set s (f ∷ fs) = executed set s f fs (fetch set f.class f.method f.at)

unfoldable pub step : Set → State → Next
step set s = running set s s.frames

-- at most n steps on; a run that is over stays over
abbrev pub on_from : Set → ℕ → Next → Next
on_from set zero next = next
on_from set (suc n) (Going s) = on_from set n (step set s)
on_from set (suc n) (Over how out) = Over how out

abbrev pub static_values : Set → ℕ → List Value
static_values set n = map (λ f. f.initial) (static_fields set n)

-- the classes by number, from one on
abbrev pub first_statics_from : Set → ℕ → ℕ → List (List Value)
first_statics_from set n zero = []
first_statics_from set n (suc count) = static_values set n ∷ first_statics_from set (n + 1) count

unfoldable pub first_statics : Set → List (List Value)
first_statics set = first_statics_from set 0 (class_count set)

-- before anything is made there is the one object of Unit
abbrev pub first_heap : List Object
first_heap = Instance unit_number [] ∷ []

-- before the first step
abbrev pub first : Set → List ℕ → State
first set input = record { frames = []; heap = first_heap; statics = first_statics set; started = replicate (length set.classes) false; input = input; out = [] }

abbrev pub machine : Set → List ℕ → ℕ → Next
machine set input n = on_from set n (Going (first set input))

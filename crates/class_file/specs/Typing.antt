-- What the verifier knows of a method's frame, and what each instruction makes of it
-- (Java Virtual Machine Specification SE 8, 4.10.1.2 to 4.10.1.4 and 4.10.1.9).
use Rattle.std.specs.Prelude.{ℕ, ◌+◌, ◌-◌, List, [], ◌∷◌, ◌++◌, length, Option, Some, None, Bool, true, false, nat_lt, ◌==◌, ◌&&◌, ◌||◌, if◌then◌else◌, slice_get, slice_set, reverse, drop, not, Result, Ok, Err, codes}
use Rattle.class_file.specs.declared.value.Kind.{Kind}
use Rattle.class_file.specs.declared.value.Kind.TheVariants as kinds
use Rattle.class_file.specs.declared.class.VType.{VType}
use Rattle.class_file.specs.declared.class.VType.TheVariants.{Top, Integer, Long, Null, UninitializedThis, Object, Uninitialized}
use Rattle.class_file.specs.declared.class.Method.{Method}
use Rattle.class_file.specs.declared.class.ClassFile.{ClassFile}
use Rattle.class_file.specs.declared.instr.Instr.{Instr}
use Rattle.class_file.specs.declared.instr.Instr.TheVariants as instr
use Rattle.class_file.specs.declared.class.Set.{Set}
use Rattle.class_file.specs.declared.row.Row.{Row}
use Rattle.class_file.specs.declared.row.Row.TheVariants as row
use Rattle.class_file.specs.declared.verify_code.VerifyCode.{VerifyCode}
use Rattle.class_file.specs.declared.verify_code.VerifyCode.TheVariants.{LocalRange, StackUnderflow, StackOverflow, WrongType, Uninitialised, ReturnType}
use Rattle.class_file.specs.declared.pool.Entry.{Entry}
use Rattle.class_file.specs.declared.pool.Entry.TheVariants as entry
use Rattle.class_file.specs.Pools.{entry_at, constant_in, Constant, Number, Literal, is_text}
use Rattle.class_file.specs.Rows.{instr_at}
use Rattle.class_file.specs.Descriptors.{is_array_name}
use Rattle.class_file.specs.Classes.{class_number}
use Rattle.class_file.specs.Members.{assignable, Call, described, static_call, ReceiverCall, virtual_call, SpecialCall, Constructs, CallsSuper, NoSpecial, special_call, FieldUse, field_use, named_class, type_named, array_named, element_of}

-- The types of the local variables, one for each place, so that a Long is followed by Top; those of the stack, its top first;
-- and whether this is a constructor that has not called another yet.
pub record Types : Type 0 where
  pub locals : List VType
  pub stack : List VType
  pub unset : Bool

abbrev pub all_assignable : Set → List VType → List VType → Bool
all_assignable set [] [] = true
all_assignable set (t ∷ ts) (u ∷ us) = assignable set t u && all_assignable set ts us
all_assignable set _ _ = false

abbrev pub same : Bool → Bool → Bool
same true b = b
same false b = not b

-- what flows on from one frame may flow into the other
abbrev pub types_assignable : Set → Types → Types → Bool
types_assignable set a b = all_assignable set a.locals b.locals && (all_assignable set a.stack b.stack && same a.unset b.unset)

-- how many places of the stack a value takes, and the values of a stack take together
abbrev pub width : VType → ℕ
width Long = 2
width _ = 1

abbrev pub widths : List VType → ℕ
widths [] = 0
widths (t ∷ ts) = width t + widths ts

-- a value that its constructor has not been called on
abbrev pub is_uninitialised : VType → Bool
is_uninitialised UninitializedThis = true
is_uninitialised (Uninitialized at) = true
is_uninitialised _ = false

-- a type of an instruction's kind; a reference may be uninitialised
abbrev pub is_kind : Kind → VType → Bool
is_kind kinds.Int Integer = true
is_kind kinds.Long Long = true
is_kind kinds.Ref Null = true
is_kind kinds.Ref (Object c) = true
is_kind kinds.Ref UninitializedThis = true
is_kind kinds.Ref (Uninitialized at) = true
is_kind _ _ = false

-- a type whose values take one place of the stack
abbrev pub takes_one : VType → Bool
takes_one Top = false
takes_one Long = false
takes_one _ = true

-- what is left, or why there is nothing
abbrev pub Verdict : Type 0
Verdict = Result Types VerifyCode

abbrev pub left : Types → List VType → Verdict
left t stack = Ok (record { locals = t.locals; stack = stack; unset = t.unset })

-- a wrong operand further down counts before one that is uninitialised
abbrev pub late : Verdict → Verdict
late (Err WrongType) = Err WrongType
late v = Err Uninitialised

abbrev pub t_int : List VType → (List VType → Verdict) → Verdict
t_int (Integer ∷ ts) go = go ts
t_int _ go = Err WrongType

abbrev pub t_long : List VType → (List VType → Verdict) → Verdict
t_long (Long ∷ ts) go = go ts
t_long _ go = Err WrongType

abbrev pub t_narrow : List VType → (VType → List VType → Verdict) → Verdict
t_narrow [] go = Err WrongType
t_narrow (t ∷ ts) go = if takes_one t then go t ts else Err WrongType

-- a Long, or two values of one place
abbrev pub t_pop2 : List VType → (List VType → Verdict) → Verdict
t_pop2 (Long ∷ ts) go = go ts
t_pop2 ts go = t_narrow ts (λ t more. t_narrow more (λ u below. go below))

abbrev pub t_kind : Kind → List VType → (VType → List VType → Verdict) → Verdict
t_kind k [] go = Err WrongType
t_kind k (t ∷ ts) go = if is_kind k t then go t ts else Err WrongType

-- a Long whose second place is written is there no longer
abbrev pub cut_at : ℕ → Option VType → List VType → List VType
cut_at i (Some Long) locals = slice_set locals i Top
cut_at i _ locals = locals

abbrev pub cut_long : ℕ → List VType → List VType
cut_long i locals = if i == 0 then locals else cut_at (i - 1) (slice_get locals (i - 1)) locals

abbrev pub t_stored : Kind → ℕ → VType → List VType → List VType
t_stored kinds.Long i t locals = slice_set (slice_set (cut_long i locals) i t) (i + 1) Top
t_stored _ i t locals = slice_set (cut_long i locals) i t

-- Why a value of one type can't be used where the other is wanted. A value before its constructor call is a reference, but can't
-- be used.
abbrev pub is_reference : VType → Bool
is_reference Null = true
is_reference (Object c) = true
is_reference _ = false

abbrev pub misuse : Set → VType → VType → Option VerifyCode
misuse set wanted t = if assignable set t wanted then None else (if is_uninitialised t && is_reference wanted then Some Uninitialised else Some WrongType)

-- of the causes at several operands the first by the order of the codes
abbrev pub worse : Option VerifyCode → Option VerifyCode → Option VerifyCode
worse None o = o
worse (Some WrongType) o = Some WrongType
worse (Some c) None = Some c
worse (Some c) (Some d) = Some d

-- why the values on a stack, its top first, can't be used where these types are wanted
abbrev pub misuses : Set → List VType → List VType → Option VerifyCode
misuses set [] ts = None
misuses set (w ∷ ws) [] = Some WrongType
misuses set (w ∷ ws) (t ∷ ts) = worse (misuse set w t) (misuses set ws ts)

abbrev pub result_types : Option VType → List VType
result_types None = []
result_types (Some t) = t ∷ []

abbrev pub refuse : Option VerifyCode → Verdict → Verdict
refuse (Some c) v = Err c
refuse None v = v

-- a call of a method without a receiver
abbrev pub t_call : Set → Types → Option Call → Verdict
t_call set t None = Err WrongType
t_call set t (Some s) =
    refuse (misuses set (reverse s.params) t.stack) (left t (result_types s.result ++ drop (length s.params) t.stack))

abbrev pub t_pushed : Types → Option VType → Verdict
t_pushed t None = Err WrongType
t_pushed t (Some u) = left t (u ∷ t.stack)

abbrev pub constant_type : Option Constant → Option VType
constant_type None = None
constant_type (Some (Number n)) = Some Integer
constant_type (Some (Literal units)) = Some (Object (codes "java/lang/String"))

abbrev pub long_constant_type : Option Entry → Option VType
long_constant_type (Some (entry.Long n)) = Some Long
long_constant_type _ = None

-- a value of the descriptor's kind that is not of its type, a constructor that has called no other, and a return of another kind
abbrev pub t_returned : Set → Option VType → Types → Kind → VType → List VType → Verdict
t_returned set None t k u rest = if t.unset || is_uninitialised u then Err Uninitialised else Err ReturnType
t_returned set (Some w) t k u rest =
    if is_kind k w
    then refuse (misuse set w u) (if t.unset then Err Uninitialised else left t rest)
    else (if t.unset || is_uninitialised u then Err Uninitialised else Err ReturnType)

abbrev pub t_return : Option VType → Types → Verdict
t_return result t = if t.unset then Err Uninitialised else elim result [ None ↦ Ok t | Some w ↦ Err ReturnType ]

abbrev pub t_load : Kind → Types → Option VType → Verdict
t_load k t None = Err WrongType
t_load k t (Some u) = if is_kind k u then left t (u ∷ t.stack) else Err WrongType

-- a value that a field takes
abbrev pub t_put_static : Set → Types → Option FieldUse → Verdict
t_put_static set t None = Err WrongType
t_put_static set t (Some f) = refuse (misuses set (f.type ∷ []) t.stack) (left t (drop 1 t.stack))

abbrev pub t_get_static : Types → Option FieldUse → Verdict
t_get_static t None = Err WrongType
t_get_static t (Some f) = left t (f.type ∷ t.stack)

abbrev pub t_get : Set → Types → Option FieldUse → Verdict
t_get set t None = Err WrongType
t_get set t (Some f) = refuse (misuses set (Object f.owner ∷ []) t.stack) (left t (f.type ∷ drop 1 t.stack))

abbrev pub is_number : Option ℕ → ℕ → Bool
is_number None n = false
is_number (Some m) n = m == n

-- a constructor's own object takes its class's own fields before the call of another constructor
abbrev pub takes_early : Set → ClassFile → FieldUse → List VType → Bool
takes_early set class f (u ∷ UninitializedThis ∷ ts) = is_number (class_number set class.this_name) f.class
takes_early set class f _ = false

abbrev pub t_put : Set → ClassFile → Types → Option FieldUse → Verdict
t_put set class t None = Err WrongType
t_put set class t (Some f) =
    refuse (misuses set (if takes_early set class f t.stack then f.type ∷ [] else f.type ∷ Object f.owner ∷ []) t.stack) (left t (drop 2 t.stack))

-- a call of a method with a receiver that is of this type
abbrev pub t_receive : Set → Types → VType → Call → Verdict
t_receive set t receiver c =
    refuse (misuses set (reverse c.params ++ receiver ∷ []) t.stack) (left t (result_types c.result ++ drop (length c.params + 1) t.stack))

abbrev pub t_virtual : Set → Types → Option ReceiverCall → Verdict
t_virtual set t None = Err WrongType
t_virtual set t (Some r) = t_receive set t (Object r.owner) r.call

-- an interface as the type of a receiver is Object
abbrev pub t_interface : Set → Types → Option ReceiverCall → Verdict
t_interface set t None = Err WrongType
t_interface set t (Some r) = t_receive set t (Object (codes "java/lang/Object")) r.call

abbrev pub same_type : VType → VType → Bool
same_type UninitializedThis UninitializedThis = true
same_type (Uninitialized p) (Uninitialized q) = p == q
same_type _ _ = false

-- each place of one uninitialised type becomes another type
abbrev pub replaced : VType → VType → List VType → List VType
replaced old new [] = []
replaced old new (t ∷ ts) = (if same_type old t then new else t) ∷ replaced old new ts

abbrev pub started : Types → VType → VType → List VType → Bool → Verdict
started t old new rest unset = Ok (record { locals = replaced old new t.locals; stack = replaced old new rest; unset = unset })

-- whether the `new` at a place makes objects of this class
abbrev pub made_by : ClassFile → Option Instr → List ℕ → Bool
made_by class (Some (instr.New i)) owner = elim (named_class class i) [ Some name ↦ is_text name owner | None ↦ false ]
made_by class _ owner = false

-- a constructor's call on an object that `new` made, or on the object of a constructor
abbrev pub t_constructed : ClassFile → Method → Types → List ℕ → List VType → Verdict
t_constructed class m t owner (Uninitialized at ∷ rest) =
    if made_by class (instr_at m.code at) owner then started t (Uninitialized at) (Object owner) rest t.unset else Err WrongType
t_constructed class m t owner (UninitializedThis ∷ rest) =
    if is_text owner class.this_name || is_text owner class.super_name then started t UninitializedThis (Object class.this_name) rest false else Err WrongType
t_constructed class m t owner _ = Err WrongType

-- of a wrong operand and another cause the operand counts
abbrev pub after_operands : Option VerifyCode → Verdict → Verdict
after_operands None v = v
after_operands (Some WrongType) v = Err WrongType
after_operands (Some c) (Err WrongType) = Err WrongType
after_operands (Some c) v = Err c

abbrev pub t_special : Set → ClassFile → Method → Types → SpecialCall → Verdict
t_special set class m t NoSpecial = Err WrongType
t_special set class m t (CallsSuper r) = t_receive set t (Object class.this_name) r.call
t_special set class m t (Constructs r) =
    after_operands (misuses set (reverse r.call.params) t.stack) (t_constructed class m t r.owner (drop (length r.call.params) t.stack))

-- what an earlier turn of the same `new` made can't be used any more, and must not stand on the stack
abbrev pub has_type : VType → List VType → Bool
has_type u [] = false
has_type u (t ∷ ts) = same_type u t || has_type u ts

abbrev pub t_new : ℕ → Types → Option (List ℕ) → Verdict
t_new pc t None = Err WrongType
t_new pc t (Some name) =
    if is_array_name name then Err WrongType
    else (if has_type (Uninitialized pc) t.stack then Err Uninitialised
    else Ok (record { locals = replaced (Uninitialized pc) Top t.locals; stack = Uninitialized pc ∷ t.stack; unset = t.unset }))

abbrev pub t_new_array : Types → Option (List ℕ) → Verdict
t_new_array t None = Err WrongType
t_new_array t (Some name) = t_int t.stack (λ rest. left t (Object name ∷ rest))

-- a reference that can be used
abbrev pub t_reference : List VType → (List VType → Verdict) → Verdict
t_reference (Null ∷ ts) go = go ts
t_reference (Object c ∷ ts) go = go ts
t_reference (UninitializedThis ∷ ts) go = late (go ts)
t_reference (Uninitialized at ∷ ts) go = late (go ts)
t_reference _ go = Err WrongType

abbrev pub t_cast : Types → VType → Option (List ℕ) → Verdict
t_cast t to None = Err WrongType
t_cast t to (Some name) = t_reference t.stack (λ rest. left t (to ∷ rest))

abbrev pub named_or_null : Option (List ℕ) → VType
named_or_null (Some name) = Object name
named_or_null None = Null

-- an array of references, or null, and what is taken from it
abbrev pub t_array : List VType → (VType → List VType → Verdict) → Verdict
t_array (Null ∷ ts) go = go Null ts
t_array (Object c ∷ ts) go = elim (element_of c) [ Some name ↦ go (Object name) ts | None ↦ Err WrongType ]
t_array (UninitializedThis ∷ ts) go = late (go Null ts)
t_array (Uninitialized at ∷ ts) go = late (go Null ts)
t_array _ go = Err WrongType

abbrev pub t_throw : Set → Types → Verdict
t_throw set t = refuse (misuses set (Object (codes "java/lang/Throwable") ∷ []) t.stack) (left t (drop 1 t.stack))

abbrev pub t_increment : Types → Option VType → Verdict
t_increment t (Some Integer) = Ok t
t_increment t _ = Err WrongType

-- two values of one place each, doubled
abbrev pub t_dup2 : Types → List VType → Verdict
t_dup2 t (Long ∷ ts) = left t (Long ∷ Long ∷ ts)
t_dup2 t ts = t_narrow ts (λ u more. t_narrow more (λ v below. left t (u ∷ v ∷ u ∷ v ∷ below)))

-- The types after a row at a place, if the operands are there and the locals and the stack have room.
abbrev pub typed : Set → ClassFile → Method → ℕ → Row → Types → Verdict
typed set class m pc row.Nop t = Ok t
typed set class m pc (row.PushInt n) t = left t (Integer ∷ t.stack)
typed set class m pc (row.PushLong n) t = left t (Long ∷ t.stack)
typed set class m pc row.PushNull t = left t (Null ∷ t.stack)
typed set class m pc (row.PushConstant i) t = t_pushed t (constant_type (constant_in class.pool (entry_at class.pool i)))
typed set class m pc (row.PushLongConstant i) t = t_pushed t (long_constant_type (entry_at class.pool i))
typed set class m pc (row.Load k i) t = t_load k t (slice_get t.locals i)
typed set class m pc (row.Store k i) t = t_kind k t.stack (λ u rest. Ok (record { locals = t_stored k i u t.locals; stack = rest; unset = t.unset }))
typed set class m pc (row.Increment i n) t = t_increment t (slice_get t.locals i)
typed set class m pc row.Pop t = t_narrow t.stack (λ u rest. left t rest)
typed set class m pc row.Pop2 t = t_pop2 t.stack (λ rest. left t rest)
typed set class m pc row.Dup t = t_narrow t.stack (λ u rest. left t (u ∷ u ∷ rest))
typed set class m pc row.DupX1 t = t_narrow t.stack (λ u rest. t_narrow rest (λ v below. left t (u ∷ v ∷ u ∷ below)))
typed set class m pc row.Dup2 t = t_dup2 t t.stack
typed set class m pc (row.IntBinary o) t = t_int t.stack (λ rest. t_int rest (λ below. left t (Integer ∷ below)))
typed set class m pc (row.LongBinary o) t = t_long t.stack (λ rest. t_long rest (λ below. left t (Long ∷ below)))
typed set class m pc (row.IntShift o) t = t_int t.stack (λ rest. t_int rest (λ below. left t (Integer ∷ below)))
typed set class m pc (row.LongShift o) t = t_int t.stack (λ rest. t_long rest (λ below. left t (Long ∷ below)))
typed set class m pc row.IntNeg t = t_int t.stack (λ rest. left t (Integer ∷ rest))
typed set class m pc row.LongNeg t = t_long t.stack (λ rest. left t (Long ∷ rest))
typed set class m pc row.IntToLong t = t_int t.stack (λ rest. left t (Long ∷ rest))
typed set class m pc row.LongToInt t = t_long t.stack (λ rest. left t (Integer ∷ rest))
typed set class m pc row.IntToChar t = t_int t.stack (λ rest. left t (Integer ∷ rest))
typed set class m pc row.LongCompare t = t_long t.stack (λ rest. t_long rest (λ below. left t (Integer ∷ below)))
typed set class m pc (row.IfZero test to) t = t_int t.stack (λ rest. left t rest)
typed set class m pc (row.IfCompare test to) t = t_int t.stack (λ rest. t_int rest (λ below. left t below))
typed set class m pc (row.IfSame same to) t = t_reference t.stack (λ rest. t_reference rest (λ below. left t below))
typed set class m pc (row.IfNull null to) t = t_reference t.stack (λ rest. left t rest)
typed set class m pc (row.Goto to) t = Ok t
typed set class m pc row.Return t = t_return (described m.descriptor).result t
typed set class m pc (row.ReturnValue k) t = t_kind k t.stack (λ u rest. t_returned set (described m.descriptor).result t k u rest)
typed set class m pc (row.GetStatic i) t = t_get_static t (field_use set true class i)
typed set class m pc (row.PutStatic i) t = t_put_static set t (field_use set true class i)
typed set class m pc (row.GetField i) t = t_get set t (field_use set false class i)
typed set class m pc (row.PutField i) t = t_put set class t (field_use set false class i)
typed set class m pc (row.InvokeVirtual i) t = t_virtual set t (virtual_call set false class i)
typed set class m pc (row.InvokeSpecial i) t = t_special set class m t (special_call set class i)
typed set class m pc (row.InvokeStatic i) t = t_call set t (static_call set class i)
typed set class m pc (row.InvokeInterface i) t = t_interface set t (virtual_call set true class i)
typed set class m pc (row.New i) t = t_new pc t (named_class class i)
typed set class m pc (row.NewArray i) t = t_new_array t (array_named set class i)
typed set class m pc (row.CheckCast i) t = t_cast t (named_or_null (type_named set class i)) (type_named set class i)
typed set class m pc (row.InstanceOf i) t = t_cast t Integer (type_named set class i)
typed set class m pc row.ArrayLength t = t_array t.stack (λ u rest. left t (Integer ∷ rest))
typed set class m pc row.ArrayLoad t = t_int t.stack (λ rest. t_array rest (λ u below. left t (u ∷ below)))
typed set class m pc row.ArrayStore t = t_reference t.stack (λ rest. t_int rest (λ more. t_array more (λ u below. left t below)))
typed set class m pc row.Throw t = t_throw set t

-- how many values a row takes off a stack
abbrev pub pop2_needs : List VType → ℕ
pop2_needs (Long ∷ ts) = 1
pop2_needs _ = 2

abbrev pub call_needs : Option Call → ℕ
call_needs (Some s) = length s.params
call_needs None = 0

abbrev pub receiver_needs : Option ReceiverCall → ℕ
receiver_needs (Some r) = length r.call.params + 1
receiver_needs None = 0

abbrev pub special_needs : SpecialCall → ℕ
special_needs (Constructs r) = length r.call.params + 1
special_needs (CallsSuper r) = length r.call.params + 1
special_needs NoSpecial = 0

abbrev pub needs : Set → ClassFile → Row → List VType → ℕ
needs set class (row.Store k i) stack = 1
needs set class row.Pop stack = 1
needs set class row.Pop2 stack = pop2_needs stack
needs set class row.Dup stack = 1
needs set class row.DupX1 stack = 2
needs set class row.Dup2 stack = pop2_needs stack
needs set class (row.IntBinary o) stack = 2
needs set class (row.LongBinary o) stack = 2
needs set class (row.IntShift o) stack = 2
needs set class (row.LongShift o) stack = 2
needs set class row.IntNeg stack = 1
needs set class row.LongNeg stack = 1
needs set class row.IntToLong stack = 1
needs set class row.LongToInt stack = 1
needs set class row.IntToChar stack = 1
needs set class row.LongCompare stack = 2
needs set class (row.IfZero test to) stack = 1
needs set class (row.IfCompare test to) stack = 2
needs set class (row.IfSame same to) stack = 2
needs set class (row.IfNull null to) stack = 1
needs set class (row.ReturnValue k) stack = 1
needs set class (row.PutStatic i) stack = 1
needs set class (row.GetField i) stack = 1
needs set class (row.PutField i) stack = 2
needs set class (row.InvokeVirtual i) stack = receiver_needs (virtual_call set false class i)
needs set class (row.InvokeSpecial i) stack = special_needs (special_call set class i)
needs set class (row.InvokeStatic i) stack = call_needs (static_call set class i)
needs set class (row.InvokeInterface i) stack = receiver_needs (virtual_call set true class i)
needs set class (row.NewArray i) stack = 1
needs set class (row.CheckCast i) stack = 1
needs set class (row.InstanceOf i) stack = 1
needs set class row.ArrayLength stack = 1
needs set class row.ArrayLoad stack = 2
needs set class row.ArrayStore stack = 3
needs set class row.Throw stack = 1
needs set class _ stack = 0

abbrev pub call_width : Option Call → ℕ
call_width (Some s) = widths (result_types s.result)
call_width None = 0

abbrev pub receiver_width : Option ReceiverCall → ℕ
receiver_width (Some r) = widths (result_types r.call.result)
receiver_width None = 0

abbrev pub special_width : SpecialCall → ℕ
special_width (Constructs r) = 0
special_width (CallsSuper r) = widths (result_types r.call.result)
special_width NoSpecial = 0

abbrev pub field_width : Option FieldUse → ℕ
field_width (Some f) = width f.type
field_width None = 0

abbrev pub kind_width : Kind → ℕ
kind_width kinds.Long = 2
kind_width _ = 1

-- how many places of the stack a row's results take
abbrev pub gives : Set → ClassFile → Row → ℕ
gives set class (row.PushInt n) = 1
gives set class (row.PushLong n) = 2
gives set class row.PushNull = 1
gives set class (row.PushConstant i) = 1
gives set class (row.PushLongConstant i) = 2
gives set class (row.Load k i) = kind_width k
gives set class row.Dup = 2
gives set class row.DupX1 = 3
gives set class row.Dup2 = 4
gives set class (row.IntBinary o) = 1
gives set class (row.LongBinary o) = 2
gives set class (row.IntShift o) = 1
gives set class (row.LongShift o) = 2
gives set class row.IntNeg = 1
gives set class row.LongNeg = 2
gives set class row.IntToLong = 2
gives set class row.LongToInt = 1
gives set class row.IntToChar = 1
gives set class row.LongCompare = 1
gives set class (row.GetStatic i) = field_width (field_use set true class i)
gives set class (row.GetField i) = field_width (field_use set false class i)
gives set class (row.InvokeVirtual i) = receiver_width (virtual_call set false class i)
gives set class (row.InvokeSpecial i) = special_width (special_call set class i)
gives set class (row.InvokeStatic i) = call_width (static_call set class i)
gives set class (row.InvokeInterface i) = receiver_width (virtual_call set true class i)
gives set class (row.New i) = 1
gives set class (row.NewArray i) = 1
gives set class (row.CheckCast i) = 1
gives set class (row.InstanceOf i) = 1
gives set class row.ArrayLength = 1
gives set class row.ArrayLoad = 1
gives set class _ = 0

-- how many places of the locals a row asks for
abbrev pub reaches : Row → ℕ
reaches (row.Load k i) = i + kind_width k
reaches (row.Store k i) = i + kind_width k
reaches (row.Increment i n) = i + 1
reaches _ = 0

-- Why a row can't be so much as tried: a local beyond the last, too few values, or no room for the results.
abbrev pub room_fault : ℕ → ℕ → Bool → ℕ → ℕ → Types → Option VerifyCode
room_fault max_locals max_stack beyond needed given t =
    if nat_lt max_locals (length t.locals) || beyond then Some LocalRange
    else (if nat_lt (length t.stack) needed then Some StackUnderflow
    else (if nat_lt max_stack (widths t.stack) || nat_lt max_stack (widths (drop needed t.stack) + given) then Some StackOverflow
    else None))

abbrev pub size_fault : Set → ClassFile → Method → Row → Types → Option VerifyCode
size_fault set class m r t =
    room_fault m.max_locals m.max_stack (nat_lt m.max_locals (reaches r)) (needs set class r t.stack) (gives set class r) t

-- the types after a row at a place of a method, or the first code that it comes to by its operands
abbrev pub stepped : Set → ClassFile → Method → ℕ → Row → Types → Verdict
stepped set class m pc r t =
    refuse (size_fault set class m r t) (typed set class m pc r t)

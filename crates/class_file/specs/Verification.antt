-- Which sets of class files verify, and which instruction is the first that does not
-- (Java Virtual Machine Specification SE 8, 4.10.1.5 to 4.10.1.7).
use Rattle.std.specs.Prelude.{◌≡◌, ℕ, ◌+◌, ◌-◌, List, [], ◌∷◌, ◌++◌, length, Option, Some, None, Bool, true, false, nat_lt, nat_le, ◌==◌, ◌&&◌, ◌||◌, if◌then◌else◌, slice_get, reverse, replicate, not, Result, Ok, Err, codes, bit_and}
use Rattle.class_file.specs.declared.class.VType.{VType}
use Rattle.class_file.specs.declared.class.VType.TheVariants.{Top, Long, Object, UninitializedThis}
use Rattle.class_file.specs.declared.class.Frame.{Frame}
use Rattle.class_file.specs.declared.class.Handler.{Handler}
use Rattle.class_file.specs.declared.class.Method.{Method}
use Rattle.class_file.specs.declared.class.ClassFile.{ClassFile}
use Rattle.class_file.specs.declared.class.Set.{Set}
use Rattle.class_file.specs.declared.instr.Instr.{Instr}
use Rattle.class_file.specs.declared.row.Row.{Row}
use Rattle.class_file.specs.declared.row.Row.TheVariants as row
use Rattle.class_file.specs.declared.verify_code.VerifyCode.{VerifyCode}
use Rattle.class_file.specs.declared.verify_code.VerifyCode.TheVariants.{MissingFrame, WrongFrame, BadTarget, BadHandler, FallsOff, AbstractNew}
use Rattle.class_file.specs.declared.verify_code.VerifyFault.{VerifyFault}
use Rattle.class_file.specs.Rows.{length_of, row_of, instr_at}
use Rattle.class_file.specs.Pools.{entry_at, name_in, is_text}
use Rattle.class_file.specs.Members.{described, assignable, cannot_be_made}
use Rattle.class_file.specs.Typing.{Types, types_assignable, stepped}

-- ---- the frames of a method

-- the types of a class file's list by places
abbrev pub spread : List VType → List VType
spread [] = []
spread (Long ∷ ts) = Long ∷ Top ∷ spread ts
spread (t ∷ ts) = t ∷ spread ts

-- the locals that are left hold nothing
abbrev pub padded : ℕ → List VType → List VType
padded max types = types ++ replicate (max - length types) Top

-- what a given frame says; its stack has the top last
abbrev pub types_given : ℕ → Frame → Types
types_given max f = record { locals = padded max (spread f.locals); stack = reverse f.stack; unset = f.unset }

-- the frame that is given for a place: the first
abbrev pub given_in : ℕ → List Frame → ℕ → Option Types
given_in max [] pc = None
given_in max (f ∷ fs) pc = if f.at == pc then Some (types_given max f) else given_in max fs pc

abbrev pub given_at : Method → ℕ → Option Types
given_at m pc = given_in m.max_locals m.frames pc

abbrev pub is_static : Method → Bool
is_static m = bit_and m.flags 8 == 8

-- a method in which another constructor of the object must be called first
abbrev pub is_constructor : Method → Bool
is_constructor m = is_text m.name (codes "<init>") && not (is_static m)

abbrev pub receiver_types : ClassFile → Method → List VType
receiver_types c m = if is_static m then [] else (if is_constructor m then UninitializedThis ∷ [] else Object c.this_name ∷ [])

-- what a method starts with
abbrev pub first_types : ClassFile → Method → Types
first_types c m = record {
  locals = padded m.max_locals (receiver_types c m ++ spread (described m.descriptor).params);
  stack = [];
  unset = is_constructor m;
}

-- ---- where the flow goes

-- the place to which a row may jump
abbrev pub jump_of : Row → Option ℕ
jump_of (row.IfZero test to) = Some to
jump_of (row.IfCompare test to) = Some to
jump_of (row.IfSame same to) = Some to
jump_of (row.IfNull null to) = Some to
jump_of (row.Goto to) = Some to
jump_of _ = None

-- whether a row may go on to the next instruction
abbrev pub goes_on : Row → Bool
goes_on (row.Goto to) = false
goes_on row.Return = false
goes_on (row.ReturnValue k) = false
goes_on row.Throw = false
goes_on _ = true

abbrev pub is_place : Option ℕ → ℕ → Bool
is_place None pc = false
is_place (Some to) pc = to == pc

-- whether a jump of a rest of the code, which begins at a place, leads to a place
abbrev pub is_target : ℕ → List Instr → ℕ → Bool
is_target at [] pc = false
is_target at (i ∷ is) pc = is_place (jump_of (row_of at i)) pc || is_target (at + length_of i) is pc

abbrev pub is_handler : List Handler → ℕ → Bool
is_handler [] pc = false
is_handler (h ∷ hs) pc = h.at == pc || is_handler hs pc

-- a place for which a frame must be given
abbrev pub needs_frame : Method → ℕ → Bool
needs_frame m pc = is_target 0 m.code pc || is_handler m.handlers pc

abbrev pub code_length : List Instr → ℕ
code_length [] = 0
code_length (i ∷ is) = length_of i + code_length is

abbrev pub has : {A : Type 0} → Option A → Bool
has (Some a) = true
has None = false

abbrev pub starts : Method → ℕ → Bool
starts m pc = has (instr_at m.code pc)

-- ---- handlers

abbrev pub covers : Handler → ℕ → Bool
covers h pc = nat_le h.start pc && nat_lt pc h.end

-- the class that a row of the exception table catches
abbrev pub caught : ClassFile → Handler → Option (List ℕ)
caught c h = if h.catch_type == 0 then Some (codes "java/lang/Throwable") else name_in c.pool (entry_at c.pool h.catch_type)

abbrev pub is_throwable : Set → Option (List ℕ) → Bool
is_throwable set None = false
is_throwable set (Some name) = assignable set (Object name) (Object (codes "java/lang/Throwable"))

-- a row whose range is not empty, whose places are starts of instructions, where the end may be the code's, and which catches
-- what can be thrown
abbrev pub is_good_row : Set → ClassFile → Method → Handler → Bool
is_good_row set c m h =
    (nat_lt h.start h.end && starts m h.start) && ((starts m h.end || h.end == code_length m.code) && (starts m h.at && is_throwable set (caught c h)))

-- what a thrown object finds at a handler
abbrev pub thrown_types : Types → List ℕ → Types
thrown_types t name = record { locals = t.locals; stack = Object name ∷ []; unset = t.unset }

abbrev pub fits_handler : Set → Types → Option (List ℕ) → Option Types → Bool
fits_handler set t (Some name) (Some g) = types_assignable set (thrown_types t name) g
fits_handler set t _ _ = true

-- whether what is known before an instruction is assignable to a handler's frame, if it may be thrown there
abbrev pub is_caught : Set → ClassFile → Method → ℕ → Types → Handler → Bool
is_caught set c m pc t h = not (covers h pc) || fits_handler set t (caught c h) (given_at m h.at)

-- ---- sets that verify: for each instruction the types before it, which are the given ones where some are given, and else those
-- that flow there

-- a fact of each row of an exception table
abbrev pub EachRow : (Handler → Type 0) → List Handler → Type 0
EachRow P [] = Unit {0}
EachRow P (h ∷ hs) = P h × EachRow P hs

-- the flow goes on to a place where an instruction starts, with what is wanted there
pub record Enters (set : Set) (m : Method) (before : ℕ → Types) (after : Types) (to : ℕ) : Type 0 where
  pub start : starts m to ≡ true
  pub given : (g : Types) → given_at m to ≡ Some g → types_assignable set after g ≡ true
  pub carried : given_at m to ≡ None → before to ≡ after

pub record Passes (set : Set) (c : ClassFile) (m : Method) (before : ℕ → Types) (pc : ℕ) (i : Instr) : Type 0 where
  pub framed : needs_frame m pc ≡ true → has (given_at m pc) ≡ true
  pub after : Types
  pub is : stepped set c m pc (row_of pc i) (before pc) ≡ Ok after
  pub jumps : (to : ℕ) → jump_of (row_of pc i) ≡ Some to → Enters set m before after to
  pub goes : goes_on (row_of pc i) ≡ true → Enters set m before after (pc + length_of i)
  pub stops : goes_on (row_of pc i) ≡ false → starts m (pc + length_of i) ≡ true → has (given_at m (pc + length_of i)) ≡ true
  pub caught : EachRow (λ h. is_caught set c m pc (before pc) h ≡ true) m.handlers
  pub makes : cannot_be_made set c (row_of pc i) ≡ false

-- the method's start flows into the first instruction, and the exception table is well formed
pub record Begins (set : Set) (c : ClassFile) (m : Method) (before : ℕ → Types) : Type 0 where
  pub enters : Enters set m before (first_types c m) 0
  pub rows : EachRow (λ h. is_good_row set c m h ≡ true) m.handlers

pub record IsTyped (set : Set) (c : ClassFile) (m : Method) (before : ℕ → Types) : Type 0 where
  pub given : (pc : ℕ) (g : Types) → given_at m pc ≡ Some g → before pc ≡ g
  pub begins : starts m 0 ≡ true → Begins set c m before
  pub each : (pc : ℕ) (i : Instr) → instr_at m.code pc ≡ Some i → Passes set c m before pc i

pub record MethodVerifies (set : Set) (c : ClassFile) (m : Method) : Type 0 where
  pub before : ℕ → Types
  pub typed : IsTyped set c m before

pub record Verifies (set : Set) : Type 0 where
  pub methods : (class : ℕ) (c : ClassFile) (method : ℕ) (m : Method) → slice_get set.classes class ≡ Some c → slice_get c.methods method ≡ Some m → MethodVerifies set c m

-- ---- the first instruction that does not verify

abbrev pub or_else : Option VerifyCode → Option VerifyCode → Option VerifyCode
or_else (Some code) o = Some code
or_else None o = o

abbrev pub unless : Bool → VerifyCode → Option VerifyCode
unless true code = None
unless false code = Some code

abbrev pub fits_given : Set → Types → Option Types → Bool
fits_given set after None = true
fits_given set after (Some g) = types_assignable set after g

-- WrongFrame where a flow leads to an instruction with a given frame that it is not assignable to
abbrev pub frame_fault : Set → Method → Types → ℕ → Option VerifyCode
frame_fault set m after to = unless (not (starts m to) || fits_given set after (given_at m to)) WrongFrame

abbrev pub jump_frame_fault : Set → Method → Types → Option ℕ → Option VerifyCode
jump_frame_fault set m after None = None
jump_frame_fault set m after (Some to) = frame_fault set m after to

abbrev pub next_frame_fault : Set → Method → Types → Bool → ℕ → Option VerifyCode
next_frame_fault set m after false next = None
next_frame_fault set m after true next = frame_fault set m after next

abbrev pub target_fault : Method → Option ℕ → Option VerifyCode
target_fault m None = None
target_fault m (Some to) = unless (starts m to) BadTarget

abbrev pub all_rows : Set → ClassFile → Method → List Handler → Bool
all_rows set c m [] = true
all_rows set c m (h ∷ hs) = is_good_row set c m h && all_rows set c m hs

abbrev pub rows_fault : Set → ClassFile → Method → ℕ → Option VerifyCode
rows_fault set c m pc = if pc == 0 then unless (all_rows set c m m.handlers) BadHandler else None

abbrev pub all_caught : Set → ClassFile → Method → ℕ → Types → List Handler → Bool
all_caught set c m pc t [] = true
all_caught set c m pc t (h ∷ hs) = is_caught set c m pc t h && all_caught set c m pc t hs

abbrev pub fall_fault : Method → Bool → ℕ → Option VerifyCode
fall_fault m false next = None
fall_fault m true next = unless (starts m next) FallsOff

abbrev pub start_fault : Set → ClassFile → Method → ℕ → Option VerifyCode
start_fault set c m pc = if pc == 0 then frame_fault set m (first_types c m) 0 else None

-- The codes that count once an instruction's operands are right, in their order, given whether what may be thrown is caught as
-- the handlers' frames say.
abbrev pub flow_fault : Set → ClassFile → Method → ℕ → Row → ℕ → Bool → Types → Option VerifyCode
flow_fault set c m pc r next is_safe after =
    or_else (jump_frame_fault set m after (jump_of r))
    (or_else (next_frame_fault set m after (goes_on r) next)
    (or_else (target_fault m (jump_of r))
    (or_else (rows_fault set c m pc)
    (or_else (unless is_safe BadHandler)
    (or_else (fall_fault m (goes_on r) next)
    (unless (not (cannot_be_made set c r)) AbstractNew))))))

abbrev pub verdict_fault : Set → ClassFile → Method → ℕ → Row → ℕ → Bool → Result Types VerifyCode → Option VerifyCode
verdict_fault set c m pc r next is_safe (Err code) = Some code
verdict_fault set c m pc r next is_safe (Ok after) = flow_fault set c m pc r next is_safe after

-- the first code of an instruction before which these types are known
abbrev pub fault_of : Set → ClassFile → Method → ℕ → Instr → Types → Option VerifyCode
fault_of set c m pc i t =
    or_else (start_fault set c m pc) (verdict_fault set c m pc (row_of pc i) (pc + length_of i) (all_caught set c m pc t m.handlers) (stepped set c m pc (row_of pc i) t))

-- what an instruction leaves to the next one
abbrev pub leaves : Bool → Result Types VerifyCode → Option Types
leaves true (Ok after) = Some after
leaves _ _ = None

abbrev pub left_by : Set → ClassFile → Method → ℕ → Instr → Types → Option Types
left_by set c m pc i t = leaves (goes_on (row_of pc i)) (stepped set c m pc (row_of pc i) t)

-- the types before an instruction, from what the one before it leaves
abbrev pub entering : Option Types → Bool → Option Types → Option Types
entering (Some g) needed flow = Some g
entering None true flow = None
entering None false flow = flow

abbrev pub entering_at : Method → ℕ → Option Types → Option Types
entering_at m pc flow = entering (given_at m pc) (needs_frame m pc) flow

-- a place in a method's code, and the code there
pub record PlaceFault : Type 0 where
  pub at : ℕ
  pub code : VerifyCode

-- the first fault of a rest of the code, which begins at a place
unfoldable pub scan : Set → ClassFile → Method → List Instr → ℕ → Option Types → Option PlaceFault
scan set c m [] pc flow = None
scan set c m (i ∷ is) pc flow =
    elim (entering_at m pc flow) [
      | None ↦ Some (record { at = pc; code = MissingFrame })
      | Some t ↦ elim (fault_of set c m pc i t) [ Some code ↦ Some (record { at = pc; code = code }) | None ↦ scan set c m is (pc + length_of i) (left_by set c m pc i t) ]
    ]

abbrev pub method_fault : Set → ClassFile → Method → Option PlaceFault
method_fault set c m = scan set c m m.code 0 (Some (first_types c m))

abbrev pub fault_in : ℕ → ℕ → PlaceFault → VerifyFault
fault_in class method p = record { class = class; method = method; at = p.at; code = p.code }

-- the first fault of methods that are numbered from a number on
abbrev pub methods_fault : Set → ℕ → ClassFile → ℕ → List Method → Option VerifyFault
methods_fault set class c n [] = None
methods_fault set class c n (m ∷ ms) = elim (method_fault set c m) [ Some p ↦ Some (fault_in class n p) | None ↦ methods_fault set class c (n + 1) ms ]

abbrev pub classes_fault : Set → ℕ → List ClassFile → Option VerifyFault
classes_fault set n [] = None
classes_fault set n (c ∷ cs) = elim (methods_fault set n c 0 c.methods) [ Some f ↦ Some f | None ↦ classes_fault set (n + 1) cs ]

-- the first fault of a set, in the order of classes, methods and code
unfoldable pub first_fault : Set → Option VerifyFault
first_fault set = classes_fault set 0 set.classes

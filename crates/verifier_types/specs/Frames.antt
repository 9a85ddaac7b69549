-- The frame that is known, as the definitions have it.
use Rattle.std.specs.Prelude.{◌≡◌, ℕ, List, Option, Some, None, Ok, Err, Bool, false}
use Rattle.class_file.specs.declared.class.VType.{VType}
use Rattle.class_file.specs.declared.row.Row.{Row}
use Rattle.class_file.specs.declared.row.Row.TheVariants as row
use Rattle.class_file.specs.declared.verify_code.VerifyCode.{VerifyCode}
use Rattle.class_file.specs.declared.verify_code.VerifyCode.TheVariants.{WrongType, Uninitialised}
use Rattle.class_file.specs.declared.class.Set.{Set}
use Rattle.class_file.specs.Members.{Call}
use Rattle.class_file.specs.Lots.{in_first_lot}
use Rattle.class_file.specs.Typing.{Types, Verdict, left, late, refuse, room_fault, call_needs, call_width, t_call, t_int, t_long, t_narrow, t_reference}
use Rattle.verifier_types.specs.declared.known.Known.{Known}

abbrev pub shown : Known → Types
shown k = record { locals = k.locals; stack = k.stack; unset = k.unset }

-- the types after a row, or its code
abbrev pub Stepped : Verdict → Option VerifyCode → Known → Type 0
Stepped v None k = v ≡ Ok (shown k)
Stepped v (Some code) k = v ≡ Err code

-- no Int is on top
abbrev pub NotInt : List VType → Type 0
NotInt ts = (go : List VType → Verdict) → t_int ts go ≡ Err WrongType

abbrev pub NotLong : List VType → Type 0
NotLong ts = (go : List VType → Verdict) → t_long ts go ≡ Err WrongType

-- a reference was on top, one that can't be used, or none
abbrev pub ReferenceTaken : Option VerifyCode → List VType → List VType → Type 0
ReferenceTaken None old new = (go : List VType → Verdict) → t_reference old go ≡ go new
ReferenceTaken (Some WrongType) old new = (go : List VType → Verdict) → t_reference old go ≡ Err WrongType
ReferenceTaken (Some code) old new = (code ≡ Uninitialised) × ((go : List VType → Verdict) → t_reference old go ≡ late (go new))

abbrev pub TwoTaken : Option VerifyCode → List VType → List VType → Type 0
TwoTaken None old new = (t : Types) → t_reference old (λ rest. t_reference rest (λ below. left t below)) ≡ left t new
TwoTaken (Some code) old new = (t : Types) → t_reference old (λ rest. t_reference rest (λ below. left t below)) ≡ Err code

-- a value of one place was on top, or none was
abbrev pub Narrow : Option VerifyCode → List VType → List VType → Type 0
Narrow None old new = (go : List VType → Verdict) → t_narrow old (λ t rest. go rest) ≡ go new
Narrow (Some code) old new = (code ≡ WrongType) × ((go : List VType → Verdict) → t_narrow old (λ t rest. go rest) ≡ Err WrongType)

-- the rows of the first lot but calls
abbrev pub is_plain : Row → Bool
is_plain (row.InvokeStatic i) = false
is_plain r = in_first_lot r

-- what a call makes of the types, in a method with so much room
abbrev pub call_verdict : Set → ℕ → ℕ → Option Call → Types → Verdict
call_verdict set max_locals max_stack call t = refuse (room_fault max_locals max_stack false (call_needs call) (call_width call) t) (t_call set t call)

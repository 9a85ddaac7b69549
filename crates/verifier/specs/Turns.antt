-- One instruction: its fault, or what it leaves to the next.
use Rattle.std.specs.Prelude.{◌≡◌, ℕ, Option, Some, None}
use Rattle.class_file.specs.declared.class.Method.{Method}
use Rattle.class_file.specs.declared.class.ClassFile.{ClassFile}
use Rattle.class_file.specs.declared.class.Set.{Set}
use Rattle.class_file.specs.declared.instr.Instr.{Instr}
use Rattle.class_file.specs.declared.verify_code.VerifyCode.{VerifyCode}
use Rattle.class_file.specs.declared.verify_code.VerifyCode.TheVariants.{MissingFrame}
use Rattle.class_file.specs.Typing.{Types}
use Rattle.class_file.specs.Verification.{fault_of, left_by}

-- what flows to the instruction, its fault, and what flows on from it
abbrev pub turn_of : Set → ClassFile → Method → ℕ → Instr → Option Types → Option VerifyCode → Option Types → Type 0
turn_of set c m pc i None (Some code) left = code ≡ MissingFrame
turn_of set c m pc i None None left = ⊥
turn_of set c m pc i (Some t) (Some code) left = fault_of set c m pc i t ≡ Some code
turn_of set c m pc i (Some t) None left = (fault_of set c m pc i t ≡ None) × (left_by set c m pc i t ≡ left)

-- Files of the form, with their programs.
use Rattle.std.specs.Prelude.{◌≡◌, ℕ, List, Some, Result, Ok, Err}
use Rattle.kc_text.specs.declared.errors.Fail.{Fail}
use Rattle.kc_text.specs.Fail.{IfCause}
use Rattle.kc_core.specs.declared.tree.Program.{Program}
use Rattle.form_parser.specs.declared.tokens.NotBuilt.{NotBuilt}
use Rattle.form_parser.specs.declared.surface.Source.{Source}
use Rattle.form_parser.specs.Form.{Form as IsWritten}
use Rattle.form_elaboration.specs.Elaboration.{program_of}

-- The file with this number and these bytes is of the form, and this is its program. Each byte is one UTF-16 unit.
pub record Form (file : ℕ) (bytes : List ℕ) (program : Program) : Type 0 where
  pub source : Source
  pub is_written : IsWritten bytes source
  pub elaborates : program_of file bytes source ≡ Some program

-- Ok exactly where the file is of the form, with its program. The one other cause is a want of memory.
abbrev pub ReadsForm : ℕ → List ℕ → Result Program (Fail NotBuilt) → Type 0
ReadsForm file bytes (Ok program) = Form file bytes program
ReadsForm file bytes (Err cause) = IfCause cause (λ _. (program : Program) → ¬ Form file bytes program)

-- a file has one program at most
abbrev pub FormIsDetermined : Type 0
FormIsDetermined = (file : ℕ) (bytes : List ℕ) (p q : Program) → Form file bytes p → Form file bytes q → p ≡ q

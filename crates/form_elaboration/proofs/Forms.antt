-- How a file's reading follows from those of its tree and of its program.
use Rattle.std.proofs.Common.{◌≡◌, ℕ, List, Some, Result, Ok, Err, sym, ap, ◌∙◌}
use Rattle.std.specs.Prelude.{IfOk}
use Rattle.kc_text.specs.declared.errors.Fail.{Fail}
use Rattle.kc_text.specs.declared.errors.Fail.TheVariants.{Found, Memory}
use Rattle.kc_text.specs.Fail.{IfCause}
use Rattle.kc_core.specs.declared.tree.Program.{Program}
use Rattle.kc_core.specs.Formed.{MainFormed}
use Rattle.form_parser.specs.declared.tokens.NotBuilt.{NotBuilt}
use Rattle.form_parser.specs.declared.surface.Source.{Source}
use Rattle.form_parser.specs.Form.{Form as IsWritten}
use Rattle.form_parser.proofs.Forms.{one_tree}
use Rattle.form_elaboration.specs.Elaboration.{program_of, Gives}
use Rattle.form_elaboration.specs.Laws.{IsMainAlone}
use Rattle.form_elaboration.specs.Form.{Form, ReadsForm}
use Rattle.form_elaboration.proofs.Fits.{same_value, none_or_some}
use Rattle.form_elaboration.proofs.Programs.{program_formed, program_is_main}

-- the tree that is written is that of the form
elaborated : (file : ℕ) (bytes : List ℕ) (source : Source) (program : Program) → IsWritten bytes source → (f : Form file bytes program) → program_of file bytes source ≡ Some program
elaborated file bytes source program w f = ap (program_of file bytes) (one_tree bytes source f.source w f.is_written) ∙ f.elaborates

pub one_program : (file : ℕ) (bytes : List ℕ) (p q : Program) → Form file bytes p → Form file bytes q → p ≡ q
one_program file bytes p q f g = same_value (sym f.elaborates ∙ elaborated file bytes f.source q f.is_written g)

pub nothing_written : (file : ℕ) (bytes : List ℕ) (cause : Fail NotBuilt) → IfCause cause (λ _. (source : Source) → ¬ IsWritten bytes source)
    → IfCause cause (λ _. (program : Program) → ¬ Form file bytes program)
nothing_written file bytes (Found cause) never = λ program f. never f.source f.is_written
nothing_written file bytes Memory never = tt

pub form_reads : (file : ℕ) (bytes : List ℕ) (source : Source) → IsWritten bytes source → (r : Result Program (Fail NotBuilt)) → Gives (program_of file bytes source) r → ReadsForm file bytes r
form_reads file bytes source w (Ok program) g = record { source = source; is_written = w; elaborates = g }
form_reads file bytes source w (Err (Found cause)) g = λ program f. none_or_some (sym g ∙ elaborated file bytes source program w f)
form_reads file bytes source w (Err Memory) g = tt

pub if_formed : (file : ℕ) (bytes : List ℕ) (source : Source) (r : Result Program (Fail NotBuilt)) → Gives (program_of file bytes source) r → IfOk r (λ program. MainFormed program 0)
if_formed file bytes source (Ok program) g = program_formed file bytes source program g
if_formed file bytes source (Err cause) g = tt

pub if_main : (file : ℕ) (bytes : List ℕ) (source : Source) (r : Result Program (Fail NotBuilt)) → Gives (program_of file bytes source) r → IfOk r (λ program. IsMainAlone program)
if_main file bytes source (Ok program) g = program_is_main file bytes source program g
if_main file bytes source (Err cause) g = tt

-- Files of the form.
use Rattle.std.specs.Prelude.{◌≡◌, ℕ, ◌≤◌, false, List, length, Result, Ok, Err}
use Rattle.kc_text.specs.declared.errors.Fail.{Fail}
use Rattle.kc_text.specs.Fail.{IfCause}
use Rattle.form_parser.specs.declared.tokens.NotBuilt.{NotBuilt}
use Rattle.form_parser.specs.declared.tokens.Token.{Token}
use Rattle.form_parser.specs.declared.surface.Source.{Source}
use Rattle.form_parser.specs.Cut.{Cut}
use Rattle.form_parser.specs.Grammar.{Derives}

-- These bytes, at most 256, are of the form, and this is their tree. The bytes of a text that has a cut are ASCII, so each is one
-- UTF-16 unit.
pub record Form (bytes : List ℕ) (source : Source) : Type 0 where
  pub tokens : List Token
  pub short : length bytes ≤ 256
  pub cut : Cut 0 false bytes tokens
  pub derives : Derives tokens source

-- Ok exactly where the bytes are of the form, with their tree. The one other cause is a want of memory.
abbrev pub ReadsForm : List ℕ → Result Source (Fail NotBuilt) → Type 0
ReadsForm bytes (Ok source) = Form bytes source
ReadsForm bytes (Err cause) = IfCause cause (λ _. (source : Source) → ¬ Form bytes source)

-- bytes have one tree at most
abbrev pub SourceIsDetermined : Type 0
SourceIsDetermined = (bytes : List ℕ) (s z : Source) → Form bytes s → Form bytes z → s ≡ z

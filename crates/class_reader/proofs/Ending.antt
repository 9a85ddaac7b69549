-- What is left behind a class.
use Rattle.std.proofs.Common.{◌≡◌, ℕ, Bool, true, false, cond, eqb, length, Result, Ok, Err, ap, ◌∙◌}
use Rattle.class_file.specs.declared.format_fault.FormatFault.{FormatFault}
use Rattle.class_file.specs.declared.format_fault.FormatCode.TheVariants.{Trailing}
use Rattle.kc_text.specs.declared.errors.Fail.{Fail}
use Rattle.kc_text.specs.declared.errors.Fail.TheVariants as fail
use Rattle.class_file.specs.Inputs.{Input, Reading, read}
use Rattle.class_file.specs.FormatFaults.{nothing_left}
use Rattle.class_reader.specs.Reads.{Fails}

abbrev trailing : {A : Type 0} → ℕ → Result A FormatFault
trailing at = Err (record { at = at; code = Trailing })

abbrev trailing_at : ℕ → FormatFault
trailing_at at = record { at = at; code = Trailing }

abbrev ended : Bool → ℕ → Result (Unit {0}) FormatFault
ended b at = cond b (Ok tt) (trailing at)

pub not_ended : {A : Type 0} (x : A) (i : Input) (given : Reading A) (e : Fail FormatFault) → given ≡ read x i → Fails e (ended (eqb (length i.bytes) 0) i.at) → Fails e (nothing_left given)
not_ended x i given fail.Memory is h = tt
not_ended x i given (fail.Found f) is h = ap nothing_left is ∙ by (eqb (length i.bytes) 0) h
  where
    by : (b : Bool) → ended b i.at ≡ Err f → cond b (Ok x) (trailing i.at) ≡ Err f
    by true h = absurd cc
    by false h = let same : trailing_at i.at ≡ f = cc in ap (λ (g : FormatFault). Err g) same

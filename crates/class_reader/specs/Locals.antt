-- The local variables of the frame that is read.
use Rattle.std.specs.Prelude.{◌≡◌, ℕ, zero, suc, ◌++◌, List, [], ◌∷◌, Result, Ok, Err, if◌then◌else◌}
use Rattle.class_file.specs.declared.class.VType.{VType}
use Rattle.class_file.specs.declared.format_fault.FormatFault.{FormatFault}
use Rattle.class_file.specs.ClassBytes.{is_unset}
use Rattle.class_file.specs.Inputs.{◌>>=◌, Reading, read}
use Rattle.class_reader.specs.declared.input.Input as kept
use Rattle.class_reader.specs.Reads.{Fails, input_of}
use Rattle.kc_text.specs.declared.errors.Fail.{Fail}

-- how many local variables stand before the object that a constructor has still to make: all, where there is none
abbrev pub set_before : List VType → ℕ
set_before [] = zero
set_before (t ∷ ts) = if is_unset t then zero else suc (set_before ts)

-- what the definition gives stands behind the old ones, unless memory ran out
abbrev pub Appends : List VType → List VType → Result kept.Input (Fail FormatFault) → Reading (List VType) → Type 0
Appends old new (Ok rest) given = (given >>= λ x. read (old ++ x.value) x.rest) ≡ read new (input_of rest)
Appends old new (Err e) given = Fails e given

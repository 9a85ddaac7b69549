-- What a reading function returned, against what the definition reads there.
use Rattle.std.specs.Prelude.{◌≡◌, ℕ, ◌==◌, length, drop, Result, Ok, Err, ⊤, if◌then◌else◌}
use Rattle.class_file.specs.declared.format_fault.FormatFault.{FormatFault}
use Rattle.class_file.specs.declared.format_fault.FormatCode.TheVariants.{Trailing}
use Rattle.kc_text.specs.declared.errors.Fail.{Fail}
use Rattle.kc_text.specs.declared.errors.Fail.TheVariants as fail
use Rattle.class_file.specs.Inputs.{◌>>=◌, Input, Reading, read, fault, bytes_at}
use Rattle.class_reader.specs.declared.input.Input as kept

abbrev pub input_of : kept.Input → Input
input_of i = record { at = i.at; bytes = drop i.at i.front.now }

abbrev pub length_of : kept.Input → ℕ
length_of i = length (drop i.at i.front.now)

-- the fault that was found is the definition's
abbrev pub Fails : {Y : Type 0} → Fail FormatFault → Result Y FormatFault → Type 0
Fails fail.Memory given = ⊤
Fails (fail.Found f) given = given ≡ Err f

-- what was returned, seen by view, is what the definition gives, unless memory ran out
abbrev pub Gives : {X Y : Type 0} → (X → Y) → Result X (Fail FormatFault) → Result Y FormatFault → Type 0
Gives view (Ok x) given = given ≡ Ok (view x)
Gives view (Err e) given = Fails e given

-- the same of a value and what is left behind it
abbrev pub Reads : {X Y : Type 0} → (X → Y) → Result (X × kept.Input) (Fail FormatFault) → Reading Y → Type 0
Reads view (Ok x) given = given ≡ read (view x.0) (input_of x.1)
Reads view (Err e) given = Fails e given

-- the next bytes as a part of their own, and what is behind them
abbrev pub opened : ℕ → Input → Reading Input
opened n i = do
  b ← bytes_at n i
  read (record { at = i.at; bytes = b.value }) b.rest

abbrev pub Ends : Result Unit (Fail FormatFault) → Input → Type 0
Ends result i = Gives (λ x. x) result (if length i.bytes == 0 then Ok tt else fault Trailing i.at)

-- What a call that writes answers, and the count of faults.
use Rattle.std.specs.Prelude.{ℕ, ◌<◌, ⊤, Result, Ok, Err}
use Rattle.kc_io.specs.declared.sinks.OutFault.{OutFault}
use Rattle.kc_io.specs.declared.sinks.OutFault.TheVariants.{Failed, Memory}

-- an answer `Failed` comes only where the count of faults rose
abbrev pub HasCause : {A : Type 0} → ℕ → ℕ → Result A OutFault → Type 0
HasCause before after (Ok value) = ⊤
HasCause before after (Err Failed) = before < after
HasCause before after (Err Memory) = ⊤

-- Faults, and where they come from.
use Rattle.std.specs.Prelude.{ℕ, ◌<◌, ⊤, Result, Ok, Err}
use Rattle.kc_io.specs.declared.sinks.OutFault.{OutFault}
use Rattle.kc_io.specs.declared.sinks.OutFault.TheVariants as out
use Rattle.class_machine.specs.declared.faults.Fault.{Fault}
use Rattle.class_machine.specs.declared.faults.Fault.TheVariants as fault

abbrev pub fault_of : OutFault → Fault
fault_of out.Failed = fault.Write
fault_of out.Memory = fault.Memory

-- a write fault comes only where the sink's count of faults rose
abbrev pub HasCause : {A : Type 0} → ℕ → ℕ → Result A Fault → Type 0
HasCause before after (Ok value) = ⊤
HasCause before after (Err fault.Write) = before < after
HasCause before after (Err fault.Memory) = ⊤

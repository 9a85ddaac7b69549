use Rattle.std.proofs.Common.{◌≡◌, ◌++◌, drop}
use Rattle.verifier.specs.Flags.{flags_of}
use Rattle.verifier.proofs.tables.flags_of.Given as goal

abbrev pub invariant-loop-instr : goal.invariant-loop-instr
invariant-loop-instr l = l.flags.items ++ flags_of (drop l.instr-index l.code) ≡ flags_of l.code

use Rattle.std.proofs.Common.{◌≡◌, ◌++◌, drop}
use Rattle.stack_code.specs.Walking.{set_of, met}
use Rattle.stack_code.proofs.frames.met.Given as goal

abbrev pub invariant-loop-i : goal.invariant-loop-i
invariant-loop-i l = l.flags.items ++ met (drop l.i l.one) l.i (set_of l.other) ≡ met l.one 0 (set_of l.other)

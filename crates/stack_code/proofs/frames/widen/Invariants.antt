use Rattle.std.proofs.Common.{◌≡◌, length}
use Rattle.stack_code.specs.Walking.{set_of}
use Rattle.stack_code.proofs.frames.widen.Given as goal

abbrev pub invariant-loop : goal.invariant-loop
invariant-loop l = (length l.flags.items ≡ l.counter) × (set_of l.flags.items ≡ set_of l.fn.flags.items)

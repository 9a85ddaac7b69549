use Rattle.std.proofs.Common.{◌≡◌, ◌++◌, drop}
use Rattle.stack_code.specs.Frames.{local_types}
use Rattle.stack_code.specs.Walking.{set_of}
use Rattle.stack_code.proofs.frames.local_types.Given as goal

abbrev pub invariant-loop-i : goal.invariant-loop-i
invariant-loop-i l = l.types ++ local_types l.i (drop l.i l.locals) (set_of l.assigned) ≡ local_types 0 l.locals (set_of l.assigned)

use Rattle.std.proofs.Common.{◌≡◌, ◌-◌}
use Rattle.class_file.specs.Inputs.{each}
use Rattle.class_file.specs.FormatFaults.{type_at}
use Rattle.class_reader.specs.Reads.{input_of}
use Rattle.class_reader.proofs.Loops.{with_front}
use Rattle.class_reader.proofs.frames.push_each.Given as goal

abbrev pub invariant-loop : goal.invariant-loop
invariant-loop l = with_front l.locals (each (type_at l.pool) (l.count - l.counter) (input_of l.rest)) ≡ with_front l.fn.locals (each (type_at l.pool) l.count (input_of l.input))

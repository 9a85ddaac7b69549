use Rattle.std.proofs.Common.{◌≡◌, ◌-◌}
use Rattle.class_file.specs.FormatFaults.{instructions_at}
use Rattle.class_reader.specs.Reads.{input_of}
use Rattle.class_reader.proofs.Loops.{with_front}
use Rattle.class_reader.proofs.instructions.instructions_at.Given as goal

abbrev pub invariant-loop : goal.invariant-loop
invariant-loop l = with_front l.code (instructions_at l.pool (l.most - l.counter) (input_of l.rest)) ≡ instructions_at l.pool l.most (input_of l.input)

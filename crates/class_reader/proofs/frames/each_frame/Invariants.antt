use Rattle.std.proofs.Common.{◌≡◌, ◌-◌, ◌*◌, ◌≤◌}
use Rattle.class_file.specs.FormatFaults.{frames_at}
use Rattle.class_file.specs.Fronts.{last_locals}
use Rattle.class_reader.specs.Reads.{input_of}
use Rattle.class_reader.specs.Frames.{before, started}
use Rattle.class_reader.proofs.Loops.{with_front}
use Rattle.class_reader.proofs.frames.each_frame.Given as goal

abbrev pub invariant-loop : goal.invariant-loop
invariant-loop l = record {
  so_far : with_front l.frames (frames_at l.pool (l.count - l.counter) (before l.first l.locals) (input_of l.rest)) ≡ frames_at l.pool l.count (started l.start) (input_of l.input);
  behind : last_locals l.start l.frames ≡ l.locals;
  small : l.first ≤ 65536 * l.counter;
}

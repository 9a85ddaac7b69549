use Rattle.std.proofs.Common.{◌≡◌, ◌-◌, []}
use Rattle.class_file.specs.FormatFaults.{methods_at}
use Rattle.class_reader.specs.Reads.{input_of}
use Rattle.class_reader.proofs.Loops.{with_front}
use Rattle.class_reader.proofs.members.each_method.Given as goal

abbrev pub invariant-loop : goal.invariant-loop
invariant-loop l = with_front l.methods (methods_at l.pool l.this (l.count - l.counter) l.seen (input_of l.rest)) ≡ methods_at l.pool l.this l.count [] (input_of l.input)

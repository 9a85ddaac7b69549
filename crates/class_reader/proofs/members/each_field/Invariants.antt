use Rattle.std.proofs.Common.{◌≡◌, ◌-◌, []}
use Rattle.class_file.specs.FormatFaults.{fields_at}
use Rattle.class_reader.specs.Reads.{input_of}
use Rattle.class_reader.proofs.Loops.{with_front}
use Rattle.class_reader.proofs.members.each_field.Given as goal

abbrev pub invariant-loop : goal.invariant-loop
invariant-loop l = with_front l.fields (fields_at l.pool (l.count - l.counter) l.seen (input_of l.rest)) ≡ fields_at l.pool l.count [] (input_of l.input)

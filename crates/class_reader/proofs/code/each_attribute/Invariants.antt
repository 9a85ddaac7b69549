use Rattle.std.proofs.Common.{◌≡◌, ◌-◌, true, [], None}
use Rattle.class_file.specs.ClassBytes.{stack_map_table}
use Rattle.class_file.specs.FormatFaults.{attributes, among_at, stack_map_at}
use Rattle.class_reader.specs.Frames.{started}
use Rattle.class_reader.specs.Reads.{input_of}
use Rattle.class_reader.proofs.code.each_attribute.Given as goal

abbrev pub invariant-loop : goal.invariant-loop
invariant-loop l =
    among_at l.pool stack_map_table true (stack_map_at l.pool (started l.start)) (l.count - l.counter) (attributes l.known l.others) (input_of l.rest)
    ≡ among_at l.pool stack_map_table true (stack_map_at l.pool (started l.start)) l.count (attributes None []) (input_of l.input)

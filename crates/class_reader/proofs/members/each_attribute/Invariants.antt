use Rattle.std.proofs.Common.{◌≡◌, ◌-◌, [], None}
use Rattle.std.specs.Option.{option_map}
use Rattle.class_file.specs.ClassBytes.{code_name}
use Rattle.class_file.specs.FormatFaults.{attributes, among_at, code_at}
use Rattle.class_reader.specs.Codes.{code_of}
use Rattle.class_reader.specs.Frames.{started}
use Rattle.class_reader.specs.Reads.{input_of}
use Rattle.class_reader.proofs.members.each_attribute.Given as goal

abbrev pub invariant-loop : goal.invariant-loop
invariant-loop l =
    among_at l.pool code_name l.allowed (code_at l.pool (started l.start)) (l.count - l.counter) (attributes (option_map code_of l.known) l.others) (input_of l.rest)
    ≡ among_at l.pool code_name l.allowed (code_at l.pool (started l.start)) l.count (attributes None []) (input_of l.input)

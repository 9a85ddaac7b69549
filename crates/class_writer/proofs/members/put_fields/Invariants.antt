use Rattle.std.proofs.Common.{◌≡◌, ◌++◌, take, length}
use Rattle.std.specs.List.{flat_map}
use Rattle.class_file.specs.InstrBytes.{u2}
use Rattle.class_file.specs.WrittenClass.{field_bytes}
use Rattle.class_writer.specs.Indexes.{slots_of}
use Rattle.class_writer.proofs.members.put_fields.Given as goal

abbrev pub invariant-loop-field : goal.invariant-loop-field
invariant-loop-field l = l.out.items ≡ l.fn.out.items ++ (u2 (length l.fields) ++ flat_map (field_bytes (slots_of l.names)) (take l.field-index l.fields))

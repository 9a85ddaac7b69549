use Rattle.std.proofs.Common.{◌≡◌, ◌++◌, take}
use Rattle.std.specs.List.{flat_map}
use Rattle.class_file.specs.WrittenClass.{type_bytes}
use Rattle.class_writer.specs.Indexes.{slots_of}
use Rattle.class_writer.proofs.types.put_each_type.Given as goal

abbrev pub invariant-loop-kept : goal.invariant-loop-kept
invariant-loop-kept l = l.out.items ≡ l.fn.out.items ++ flat_map (type_bytes (slots_of l.names)) (take l.kept-index l.types)

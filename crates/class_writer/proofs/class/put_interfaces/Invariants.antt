use Rattle.std.proofs.Common.{◌≡◌, ◌++◌, take, length}
use Rattle.std.specs.List.{flat_map}
use Rattle.class_file.specs.InstrBytes.{u2}
use Rattle.class_file.specs.WrittenClass.{name_bytes}
use Rattle.class_writer.specs.Indexes.{slots_of}
use Rattle.class_writer.proofs.class.put_interfaces.Given as goal

abbrev pub invariant-loop-interface : goal.invariant-loop-interface
invariant-loop-interface l = l.out.items ≡ l.fn.out.items ++ (u2 (length l.interfaces) ++ flat_map (name_bytes (slots_of l.names)) (take l.interface-index l.interfaces))

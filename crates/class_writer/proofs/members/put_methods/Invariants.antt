use Rattle.std.proofs.Common.{◌≡◌, ◌++◌, take, length}
use Rattle.std.specs.List.{flat_map}
use Rattle.class_file.specs.InstrBytes.{u2}
use Rattle.class_file.specs.WrittenClass.{method_bytes}
use Rattle.class_writer.specs.Indexes.{slots_of}
use Rattle.class_writer.proofs.members.put_methods.Given as goal

abbrev pub invariant-loop-method : goal.invariant-loop-method
invariant-loop-method l = l.out.items ≡ l.fn.out.items ++ (u2 (length l.methods) ++ flat_map (method_bytes (slots_of l.names) l.this) (take l.method-index l.methods))

use Rattle.std.proofs.Common.{◌≡◌, ◌++◌, take}
use Rattle.std.specs.List.{flat_map}
use Rattle.class_file.specs.WrittenClass.{attribute_bytes}
use Rattle.class_writer.specs.Indexes.{slots_of}
use Rattle.class_writer.proofs.attributes.put_each.Given as goal

abbrev pub invariant-loop-attribute : goal.invariant-loop-attribute
invariant-loop-attribute l = l.out.items ≡ l.fn.out.items ++ flat_map (attribute_bytes (slots_of l.names)) (take l.attribute-index l.attributes)

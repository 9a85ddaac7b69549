use Rattle.std.proofs.Common.{◌≡◌, ◌++◌, take, map, Bor}
use Rattle.std.specs.List.{flat_map}
use Rattle.class_file.specs.declared.class.VType.{VType}
use Rattle.class_file.specs.WrittenClass.{type_bytes}
use Rattle.class_writer.specs.Indexes.{slots_of}
use Rattle.class_writer.proofs.types.put_each_local.Given as goal

abbrev pub invariant-loop-kept : goal.invariant-loop-kept
invariant-loop-kept l = l.out.items ≡ l.fn.out.items ++ flat_map (type_bytes (slots_of l.names)) (map (λ (k : Bor VType). k.now) (take l.kept-index l.locals))

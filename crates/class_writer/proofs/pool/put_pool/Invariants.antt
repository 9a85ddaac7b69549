use Rattle.std.proofs.Common.{◌≡◌, ◌++◌, take, length}
use Rattle.std.specs.List.{flat_map}
use Rattle.class_file.specs.InstrBytes.{u2}
use Rattle.class_file.specs.ClassBytes.{slot_bytes}
use Rattle.class_writer.proofs.pool.put_pool.Given as goal

abbrev pub invariant-loop-index : goal.invariant-loop-index
invariant-loop-index l = l.out.items ≡ l.fn.out.items ++ (u2 (length l.pool) ++ flat_map slot_bytes (take l.index l.pool))

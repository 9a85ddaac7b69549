use Rattle.std.proofs.Common.{◌≡◌, ◌++◌, take, length}
use Rattle.std.specs.List.{flat_map}
use Rattle.class_file.specs.InstrBytes.{u2}
use Rattle.class_file.specs.WrittenClass.{handler_bytes}
use Rattle.class_writer.proofs.code.put_handlers.Given as goal

abbrev pub invariant-loop-handler : goal.invariant-loop-handler
invariant-loop-handler l = l.out.items ≡ l.fn.out.items ++ (u2 (length l.handlers) ++ flat_map handler_bytes (take l.handler-index l.handlers))

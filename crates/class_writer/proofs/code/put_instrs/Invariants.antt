use Rattle.std.proofs.Common.{◌≡◌, ◌++◌, take}
use Rattle.std.specs.List.{flat_map}
use Rattle.class_file.specs.InstrBytes.{instr_bytes}
use Rattle.class_writer.proofs.code.put_instrs.Given as goal

abbrev pub invariant-loop-instr : goal.invariant-loop-instr
invariant-loop-instr l = l.out.items ≡ l.fn.out.items ++ flat_map instr_bytes (take l.instr-index l.code)

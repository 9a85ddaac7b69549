use Rattle.std.proofs.Common.{◌≡◌, ◌++◌, ◌≤◌, ◌*◌, length, drop}
use Rattle.class_machine.specs.Links.{ops_of}
use Rattle.class_machine.proofs.linking.ops_of.Given as goal

abbrev pub invariant-loop-instr : goal.invariant-loop-instr
invariant-loop-instr l = record { all : l.ops.items ++ ops_of (length l.ops.items) (drop l.instr-index l.code) ≡ ops_of 0 l.code; short : length l.ops.items ≤ 6 * l.instr-index }

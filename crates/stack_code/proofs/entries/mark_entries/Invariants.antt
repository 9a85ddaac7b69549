use Rattle.std.proofs.Common.{◌≤◌, ◌*◌, drop}
use Rattle.stack_code.specs.Walking.{HasEntries}
use Rattle.stack_code.proofs.entries.mark_entries.Given as goal

abbrev pub invariant-loop-instr : goal.invariant-loop-instr
invariant-loop-instr l = record {
  short : l.at ≤ 6 * l.instr-index;
  marks : HasEntries l.flags.items l.code l.count l.at (drop l.instr-index l.code);
}

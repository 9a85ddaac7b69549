use Rattle.std.proofs.Common.{◌≤◌, ◌*◌, drop}
use Rattle.verifier.specs.Flags.{MarksTargets}
use Rattle.verifier.proofs.tables.mark_targets.Given as goal

abbrev pub invariant-loop-instr : goal.invariant-loop-instr
invariant-loop-instr l = record {
  short : l.at ≤ 6 * l.instr-index;
  marks : MarksTargets l.flags.items l.code l.at (drop l.instr-index l.code);
}

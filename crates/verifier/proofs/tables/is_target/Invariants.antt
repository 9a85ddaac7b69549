use Rattle.std.proofs.Common.{◌≡◌, ◌≤◌, ◌*◌, drop}
use Rattle.class_file.specs.Verification.{is_target}
use Rattle.verifier.proofs.tables.is_target.Given as goal

abbrev pub invariant-loop-instr : goal.invariant-loop-instr
invariant-loop-instr l = record {
  short : l.at ≤ 6 * l.instr-index;
  same : is_target l.at (drop l.instr-index l.code) l.pc ≡ is_target 0 l.code l.pc;
}

use Rattle.std.proofs.Common.{◌≡◌, ◌≤◌, ◌*◌, Some, drop}
use Rattle.class_file.specs.Verification.{scan}
use Rattle.verifier_types.specs.Frames.{shown}
use Rattle.verifier.specs.Sweeping.{IsSwept}
use Rattle.verifier.specs.Carrying.{IsTracked, flow_of}
use Rattle.verifier.proofs.scan.scan.Given as goal

abbrev pub invariant-loop-instr : goal.invariant-loop-instr
invariant-loop-instr l = record {
  short : l.pc ≤ 6 * l.instr-index;
  swept : IsSwept l.method.handlers l.pc l.sweep;
  tracked : IsTracked l.carried;
  same : scan l.set l.class l.method (drop l.instr-index l.code) l.pc (flow_of l.carried) ≡ scan l.set l.class l.method l.code 0 (Some (shown l.fn.first));
}

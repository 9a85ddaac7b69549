use Rattle.std.proofs.Common.{◌≡◌, drop}
use Rattle.class_file.specs.Verification.{all_caught}
use Rattle.verifier_types.specs.Frames.{shown}
use Rattle.verifier.proofs.handlers.all_caught.Given as goal

abbrev pub invariant-loop-handler : goal.invariant-loop-handler
invariant-loop-handler l =
    all_caught l.set l.class l.method l.pc (shown l.known) (drop l.handler-index l.rows) ≡ all_caught l.set l.class l.method l.pc (shown l.known) l.method.handlers

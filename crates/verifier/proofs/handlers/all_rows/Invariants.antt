use Rattle.std.proofs.Common.{◌≡◌, drop}
use Rattle.class_file.specs.Verification.{all_rows}
use Rattle.verifier.proofs.handlers.all_rows.Given as goal

abbrev pub invariant-loop-handler : goal.invariant-loop-handler
invariant-loop-handler l = all_rows l.set l.class l.method (drop l.handler-index l.handlers) ≡ all_rows l.set l.class l.method l.handlers

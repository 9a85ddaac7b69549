use Rattle.std.proofs.Common.{◌≡◌, drop}
use Rattle.class_file.specs.Verification.{is_handler}
use Rattle.verifier.proofs.tables.is_handler.Given as goal

abbrev pub invariant-loop-handler : goal.invariant-loop-handler
invariant-loop-handler l = is_handler (drop l.handler-index l.handlers) l.pc ≡ is_handler l.handlers l.pc

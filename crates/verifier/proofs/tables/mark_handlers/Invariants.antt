use Rattle.std.proofs.Common.{drop}
use Rattle.verifier.specs.Flags.{MarksHandlers}
use Rattle.verifier.proofs.tables.mark_handlers.Given as goal

abbrev pub invariant-loop-handler : goal.invariant-loop-handler
invariant-loop-handler l = MarksHandlers l.flags.items l._code l.handlers (drop l.handler-index l.handlers)

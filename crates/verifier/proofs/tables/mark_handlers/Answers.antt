use Rattle.verifier.proofs.Marks.{start_handlers, one_handler, all_handlers}
use Rattle.verifier.proofs.tables.mark_handlers.Goals as goal

pub loop-handler-init : goal.loop-handler-init
loop-handler-init c = start_handlers c.args.flags.now.items c.args._code.now c.args.handlers.now c.requires

pub loop-handler-preserved : goal.loop-handler-preserved
loop-handler-preserved c =
    one_handler c.loop-handler.flags.items c.mark_place.new.flags.items c.args._code.now c.args.handlers.now c.loop-handler.handler-index (record { start = 0; end = 0; at = 0; catch_type = 0 }) c.mark_place.ensures c.loop-handler-test.true c.loop-handler.invariant

pub returns : goal.returns
returns c = all_handlers c.loop-handler.flags.items c.args._code.now c.args.handlers.now c.loop-handler.handler-index c.loop-handler-test.false c.loop-handler.invariant

use Rattle.std.proofs.Common.{arith}
use Rattle.class_machine.proofs.Buildable.{one_call}
use Rattle.class_machine.proofs.building.calls_of.Goals as goal

pub loop-index-preserved : goal.loop-index-preserved
loop-index-preserved c = one_call c.args.set.now c.args.pool.now c.loop-index.calls.items c.push.new.self.items c.in_ok-is_call.field-0 c.loop-index.index (omega (arith, c.count-index-end.ensures)) c.in_ok-push.ensures.items c.in_ok-is_call.ensures c.loop-index.invariant

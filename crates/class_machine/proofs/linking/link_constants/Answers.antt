use Rattle.std.proofs.Common.{arith}
use Rattle.class_machine.proofs.Linked.{one_link}
use Rattle.class_machine.proofs.linking.link_constants.Goals as goal

pub loop-index-preserved : goal.loop-index-preserved
loop-index-preserved c = one_link c.args.set.now.classes c.args.pool.now c.loop-index.constants.items c.push.new.self.items c.in_ok-link_of.field-0 c.loop-index.index (omega (arith, c.count-index-end.ensures)) c.in_ok-push.ensures.items c.in_ok-link_of.ensures c.loop-index.invariant

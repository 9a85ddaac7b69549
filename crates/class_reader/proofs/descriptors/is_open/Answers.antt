use Rattle.std.proofs.Common.{◌-◌, ◌∙◌, arith}
use Rattle.class_reader.proofs.Spelled.{open_step}
use Rattle.class_reader.proofs.descriptors.is_open.Goals as goal

pub loop-rest-preserved : goal.loop-rest-preserved
loop-rest-preserved c =
    open_step c.args.types c.loop-rest.left (c.loop-rest.left - 1) c.loop-rest.rest.now c.in-Some.next.now (omega arith) c.in-len1-up.len_at_least c.if-unit-eq41.false c.in-Some.ensures ∙ c.loop-rest.invariant

use Rattle.std.proofs.Common.{arith}
use Rattle.class_machine.proofs.Running.{nonempty}
use Rattle.class_machine.proofs.Moving.{top_op, top_moves, set_moved}
use Rattle.class_machine.proofs.frames.move_top_on.Goals as goal

pub ops_of-ops-requires : goal.ops_of-ops-requires
ops_of-ops-requires c =
    top_op c.args.links.now c.args.frames.now.items c.requires _ _ c.index_mut-frame.result.now (omega (arith, c.len-top.ensures)) c.index_mut-frame.ensures.value

pub move_on-requires : goal.move_on-requires
move_on-requires c =
    top_moves c.args.links.now c.args.frames.now.items c.requires _ _ c.index_mut-frame.result.now (omega (arith, c.len-top.ensures)) c.index_mut-frame.ensures.value c.ops_of-ops.result.now c.ops_of-ops.ensures

pub returns-clause-moved : goal.returns-clause-moved
returns-clause-moved c =
    let m = c.in_ok-made.ensures in
    set_moved c.args.links.now c.in_ok-made.made c.args.most c.args.frames.now.items (nonempty c.args.frames.now.items c.requires.top c.requires.below c.requires.is) _ _ c.index_mut-frame.result.now c.move_on.new.f (omega (arith, c.len-top.ensures)) c.index_mut-frame.ensures.value
    c.ops_of-ops.result.now c.ops_of-ops.ensures m.same m.moved m.stops

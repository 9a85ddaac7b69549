use Rattle.verifier.proofs.FrameTable.{blank_frames, one_frame, all_frames}
use Rattle.verifier.proofs.tables.place_frames.Goals as goal

pub loop-number-init : goal.loop-number-init
loop-number-init c = blank_frames c.args.count c.args.table.now.items c.args.frames.now c.requires

pub loop-number-preserved : goal.loop-number-preserved
loop-number-preserved c =
    one_frame c.loop-number.table.items c.place_first.new.table.items c.args.frames.now c.loop-number.number c.index-frames-number.result c.index-frames-number.is c.place_first.ensures c.loop-number-test.true c.loop-number.invariant

pub returns : goal.returns
returns c = all_frames c.loop-number.table.items c.args.frames.now c.loop-number.number c.loop-number-test.false c.loop-number.invariant

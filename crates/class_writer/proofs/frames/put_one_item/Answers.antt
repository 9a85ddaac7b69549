use Rattle.std.proofs.Common.{◌≡◌, length, arith}
use Rattle.class_file.specs.Fronts.{common_front}
use Rattle.class_writer.specs.Indexes.{slots_of}
use Rattle.class_writer.proofs.Behind.{common_fits, common_both_ways, short_form, no_front, only_front}
use Rattle.class_writer.proofs.frames.put_one_item.Goals as goal

pub returns-then-front-len : goal.returns-then-front-len
returns-then-front-len c =
    rw (no_front (slots_of c.args.names.now) c.args.delta c.args.frame.now c.args.item.now c.args.before.now c.args.frame.now.locals (omega (arith, c.requires.front, c.if-front-len.true, c.len.ensures))) c.put_full.ensures

pub returns-then-front-len-2 : goal.returns-then-front-len-2
returns-then-front-len-2 c =
    let before = c.args.before.now in
    let locals = c.args.frame.now.locals in
    let all : common_front before locals ≡ length before = omega (arith, common_fits before locals, c.requires.front, c.if-front-len.false, c.len.ensures) in
    rw (only_front (slots_of c.args.names.now) c.args.delta c.args.frame.now c.args.item.now before locals all (omega (arith, c.requires.front, c.if-front-len-2.true, c.len-2.ensures))) c.put_full-then-front-len-2.ensures

pub returns : goal.returns
returns c =
    let before = c.args.before.now in
    let locals = c.args.frame.now.locals in
    let all : common_front before locals ≡ length before = omega (arith, common_fits before locals, c.requires.front, c.if-front-len.false, c.len.ensures) in
    let same : common_front before locals ≡ length locals = omega (arith, common_both_ways before locals, common_fits locals before, c.requires.front, c.if-front-len-2.false, c.len-2.ensures) in
    rw (short_form (slots_of c.args.names.now) c.args.delta c.args.frame.now c.args.item.now before locals all same) c.put_item.ensures

use Rattle.std.proofs.Common.{◌≡◌, length, drop, arith, sym, ◌∙◌}
use Rattle.std.proofs.lemmas.List.{length-drop}
use Rattle.class_writer.specs.Indexes.{slots_of}
use Rattle.class_writer.proofs.Behind.{common_fits, common_both_ways, all_common, not_all_common}
use Rattle.class_writer.proofs.frames.put_no_stack.Goals as goal

pub put_longer-requires-clause-within : goal.put_longer-requires-clause-within
put_longer-requires-clause-within c =
    let before = c.args.before.now in
    let locals = c.args.frame.now.locals in
    omega (arith, c.requires.front, common_both_ways before locals, common_fits locals before)

pub returns-then-front-len : goal.returns-then-front-len
returns-then-front-len c =
    let before = c.args.before.now in
    let locals = c.args.frame.now.locals in
    let all : c.args.front ≡ length before = omega (arith, c.if-front-len.true, c.len.ensures) in
    rw (all_common before locals (sym c.requires.front ∙ all), sym all) c.put_longer.ensures

pub overflow_sub-len : goal.overflow_sub-len
overflow_sub-len c = omega (arith, c.requires.front, common_fits c.args.before.now c.args.frame.now.locals, c.len-then-front-len-2.ensures)

pub returns-then-front-len-2 : goal.returns-then-front-len-2
returns-then-front-len-2 c =
    let slots = slots_of c.args.names.now in
    let before = c.args.before.now in
    let locals = c.args.frame.now.locals in
    let fits = common_fits before locals in
    let none = not_all_common before locals (omega (arith, fits, c.requires.front, c.if-front-len.false, c.len.ensures)) in
    let gone = all_common locals before (omega (arith, common_both_ways before locals, c.requires.front, c.if-front-len-2.true, c.len-2.ensures)) in
    let short = c.put_shorter.ensures (drop (length locals) before) (omega (arith, length-drop (length locals) before, c.if-front-len-2.true, c.len-2.ensures, c.len-then-front-len-2.ensures)) in
    rw (none, gone) short

pub returns : goal.returns
returns c =
    let before = c.args.before.now in
    let locals = c.args.frame.now.locals in
    let fits = common_fits before locals in
    let back = common_fits locals before in
    let none = not_all_common before locals (omega (arith, fits, c.requires.front, c.if-front-len.false, c.len.ensures)) in
    let other = not_all_common locals before (omega (arith, back, common_both_ways before locals, c.requires.front, c.if-front-len-2.false, c.len-2.ensures)) in
    rw (none, other) c.put_full.ensures

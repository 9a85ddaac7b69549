use Rattle.std.proofs.Common.{◌≡◌, ◌-◌, length, arith}
use Rattle.std.specs.Prelude.{reverse}
use Rattle.class_machine.proofs.Running.{top_is, set_is, others, nonempty}
use Rattle.class_machine.proofs.frames.in_top.Goals as goal

pub returns : goal.returns
returns c =
    let frames = c.args.frames.now.items in
    let some = nonempty frames c.requires.goes.top c.requires.goes.below c.requires.goes.is in
    let at : c.len-top.result - 1 ≡ length frames - 1 = omega (arith, c.len-top.ensures) in
    record {
      before = c.index_mut.result.now;
      after = c.in_frame.new.f;
      below = reverse (others frames some);
      old_is = top_is frames some _ _ c.index_mut.result.now at c.index_mut.ensures.value;
      new_is = set_is frames some _ _ c.index_mut.result.now at c.index_mut.ensures.value c.in_frame.new.f;
      did = c.in_ok-went.ensures;
    }

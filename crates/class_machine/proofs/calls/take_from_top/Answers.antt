use Rattle.std.proofs.Common.{◌≡◌, ◌-◌, length, arith, refl}
use Rattle.std.specs.Prelude.{reverse}
use Rattle.class_machine.proofs.Running.{top_is, set_is, others, nonempty}
use Rattle.class_machine.proofs.calls.take_from_top.Goals as goal

pub returns : goal.returns
returns c =
    let frames = c.args.frames.now.items in
    let some = nonempty frames c.requires.top c.requires.below c.requires.is in
    let at : c.len-top.result - 1 ≡ length frames - 1 = omega (arith, c.len-top.ensures) in
    let f = c.index_mut.result.now in
    record {
      before = f;
      after = record f { stack = c.take_locals.new.stack };
      below = reverse (others frames some);
      old_is = top_is frames some _ _ f at c.index_mut.ensures.value;
      new_is = set_is frames some _ _ f at c.index_mut.ensures.value (record f { stack = c.take_locals.new.stack });
      stands = record { same = record { class_is = refl; method_is = refl; starts_is = refl }; at_is = refl; locals_are = refl };
      taken = c.in_ok-locals.ensures;
    }

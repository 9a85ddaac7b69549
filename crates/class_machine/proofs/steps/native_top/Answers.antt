use Rattle.std.proofs.Common.{◌≡◌, ◌-◌, length, arith, refl}
use Rattle.std.specs.Prelude.{reverse}
use Rattle.class_machine.specs.Heaps.{objects_of}
use Rattle.class_machine.specs.Runs.{TopNativeCut}
use Rattle.class_machine.proofs.Running.{top_is, set_is, others, nonempty}
use Rattle.class_machine.proofs.Stepping.{on_err}
use Rattle.class_machine.proofs.steps.native_top.Goals as goal

pub returns-clause-ok : goal.returns-clause-ok
returns-clause-ok g c =
    let frames = c.args.frames.now.items in
    let some = nonempty frames c.requires.can.top c.requires.can.below c.requires.can.is in
    let at : c.len-top.result - 1 ≡ length frames - 1 = omega (arith, c.len-top.ensures) in
    let f = c.index_mut.result.now in
    record {
      first = f;
      last = record f { stack = c.native.new.stack };
      below = reverse (others frames some);
      old_is = top_is frames some _ _ f at c.index_mut.ensures.value;
      new_is = set_is frames some _ _ f at c.index_mut.ensures.value (record f { stack = c.native.new.stack });
      stands = record { same = record { class_is = refl; method_is = refl; starts_is = refl }; at_is = refl; locals_are = refl };
      did = c.in_ok-done.ensures.ok;
    }

pub returns-in_err-done-clause-err : goal.returns-in_err-done-clause-err
returns-in_err-done-clause-err g c =
    let frames = c.args.frames.now.items in
    let some = nonempty frames c.requires.can.top c.requires.can.below c.requires.can.is in
    let at : c.len-top.result - 1 ≡ length frames - 1 = omega (arith, c.len-top.ensures) in
    let f = c.index_mut.result.now in
    let cut : TopNativeCut c.args.set.now c.args.id (objects_of c.args.heap.now) frames (g.O.Sink.taken c.args.out.now) (g.O.Sink.taken c.native.new.out) =
    record { top = f; below = reverse (others frames some); is = top_is frames some _ _ f at c.index_mut.ensures.value; cut = c.in_err-done.ensures.err } in
    on_err _ _ cut

use Rattle.std.proofs.Common.{◌<◌, refl, sym, subst, List, length}
use Rattle.std.specs.Prelude.{map}
use Rattle.class_file.specs.Machine.{Active, Invokes, Static}
use Rattle.class_machine.specs.declared.frame.Frame.{Frame}
use Rattle.class_machine.specs.declared.run.StepEnd.TheVariants as «end»
use Rattle.class_machine.specs.Core.{core_of}
use Rattle.class_machine.specs.Lot.{IsCall}
use Rattle.class_machine.specs.Stacks.{shown}
use Rattle.class_machine.specs.Runs.{needing}
use Rattle.class_machine.proofs.Calling.{no_frame}
use Rattle.class_machine.proofs.Stepping.{on_err, cut_nothing, wrote_nothing, call_keeps, filled, running_shown, running_top, call_link, names_of, own_of, some_link}
use Rattle.class_machine.proofs.steps.invoke.Goals as goal

pub running-requires : goal.running-requires
running-requires g c =
    subst (λ (fs : List Frame). 0 < length fs) (sym c.deref.ensures.value)
    (filled c.args.run.now.frames.items (no_frame c.args.set.now (core_of c.args.run.now) c.args.next (Invokes Static c.args.i) c.requires.can))

pub link_at-requires : goal.link_at-requires
link_at-requires g c =
    let k = c.requires.call in
    let call = subst (λ (a : Active). IsCall c.args.set.now a.class c.args.i) (sym (running_top c.args.run.now.frames.items c.deref.result.now c.running.result.now k.top k.below c.deref.ensures.value c.running.ensures k.is)) k.call in
    let l = call_link c.args.set.now c.args.links.now c.requires.linked c.running.result.now.class c.args.i call in record { target = l.0; is = l.1 }

pub call_native-requires-clause-native : goal.call_native-requires-clause-native
call_native-requires-clause-native g c =
    let k = c.requires.call in
    let call = subst (λ (a : Active). IsCall c.args.set.now a.class c.args.i) (sym (running_top c.args.run.now.frames.items c.deref.result.now c.running.result.now k.top k.below c.deref.ensures.value c.running.ensures k.is)) k.call in
    record {
      top = shown c.running.result.now;
      below = map shown c.running.ensures.below;
      is = running_shown c.args.run.now.frames.items c.deref.result.now c.running.result.now c.deref.ensures.value c.running.ensures;
      names = names_of c.args.set.now c.args.links.now c.requires.linked c.running.result.now.class c.args.i c.link_at.result.now c.link_at.ensures c.in-Native.id c.in-Native.is call;
    }

pub call_own-requires-clause-own : goal.call_own-requires-clause-own
call_own-requires-clause-own g c =
    let k = c.requires.call in
    let call = subst (λ (a : Active). IsCall c.args.set.now a.class c.args.i) (sym (running_top c.args.run.now.frames.items c.deref.result.now c.running.result.now k.top k.below c.deref.ensures.value c.running.ensures k.is)) k.call in
    let o = own_of c.args.set.now c.args.links.now c.requires.linked c.running.result.now.class c.args.i c.link_at.result.now c.link_at.ensures c.in-Method.target c.in-Method.is call in
    record {
      top = shown c.running.result.now;
      below = map shown c.running.ensures.below;
      is = running_shown c.args.run.now.frames.items c.deref.result.now c.running.result.now c.deref.ensures.value c.running.ensures;
      call = o.0;
      target_is = o.1;
    }

pub unreachable-requires : goal.unreachable-requires
unreachable-requires g c =
    let k = c.requires.call in
    let call = subst (λ (a : Active). IsCall c.args.set.now a.class c.args.i) (sym (running_top c.args.run.now.frames.items c.deref.result.now c.running.result.now k.top k.below c.deref.ensures.value c.running.ensures k.is)) k.call in
    some_link c.args.set.now c.args.links.now c.requires.linked c.running.result.now.class c.args.i c.link_at.result.now c.link_at.ensures call c.in_default.not-Native c.in_default.not-Method

pub returns-in_err-call_own-in-Method-clause-err : goal.returns-in_err-call_own-in-Method-clause-err
returns-in_err-call_own-in-Method-clause-err g c =
    let k = c.requires.call in
    on_err _ _ (cut_nothing _ _ _ refl (call_keeps c.args.set.now (core_of c.args.run.now) k.top k.below c.args.next c.args.i k.is))

pub returns-in_ok-call_own-in-Method-clause-ok : goal.returns-in_ok-call_own-in-Method-clause-ok
returns-in_ok-call_own-in-Method-clause-ok g c =
    wrote_nothing c.args.set.now _ _ (needing c.args.set.now (core_of c.args.run.now) c.args.next (Invokes Static c.args.i)) «end».On (core_of c.call_own.new.run) refl c.in_ok-call_own-in-Method.ensures

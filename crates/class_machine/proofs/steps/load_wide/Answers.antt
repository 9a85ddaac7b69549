use Rattle.std.proofs.Common.{List, ◌<◌, length, sym, subst}
use Rattle.std.specs.Prelude.{map}
use Rattle.class_file.specs.Machine.{LoadsLong}
use Rattle.class_machine.specs.declared.frame.Frame.{Frame}
use Rattle.class_machine.specs.Core.{core_of}
use Rattle.class_machine.specs.Stacks.{shown}
use Rattle.class_machine.proofs.Calling.{no_frame}
use Rattle.class_machine.proofs.Stepping.{filled, running_shown, wide_link, not_wide}
use Rattle.class_machine.proofs.steps.load_wide.Goals as goal

pub running-requires : goal.running-requires
running-requires c =
    subst (λ (fs : List Frame). 0 < length fs) (sym c.deref.ensures.value)
    (filled c.args.run.now.frames.items (no_frame c.args.set.now (core_of c.args.run.now) c.args.next (LoadsLong c.args.i) c.requires.can))

pub link_at-requires : goal.link_at-requires
link_at-requires c =
    let l = wide_link c.args.set.now c.args.links.now (core_of c.args.run.now) (shown c.running.result.now) (map shown c.running.ensures.below) (running_shown c.args.run.now.frames.items c.deref.result.now c.running.result.now c.deref.ensures.value c.running.ensures) c.requires.linked c.args.next c.args.i c.requires.can in
    record { target = l.0; is = l.1 }

pub unreachable-requires : goal.unreachable-requires
unreachable-requires c =
    not_wide c.args.set.now c.args.links.now (core_of c.args.run.now) (shown c.running.result.now) (map shown c.running.ensures.below) (running_shown c.args.run.now.frames.items c.deref.result.now c.running.result.now c.deref.ensures.value c.running.ensures) c.requires.linked c.args.next c.args.i c.requires.can
    c.link_at.result.now c.link_at.ensures c.in_default.not-Wide

use Rattle.std.proofs.Common.{rules, List, ◌<◌, length, ap, sym, subst, ◌∙◌}
use Rattle.std.specs.Prelude.{map}
use Rattle.class_file.specs.Pools.{Literal}
use Rattle.class_file.specs.Machine.{LoadsConstant}
use Rattle.class_machine.specs.declared.frame.Frame.{Frame}
use Rattle.class_machine.specs.Core.{core_of}
use Rattle.class_machine.specs.Links.{constant_of}
use Rattle.class_machine.specs.Stacks.{shown}
use Rattle.class_machine.proofs.Calling.{no_frame}
use Rattle.class_machine.proofs.Stepping.{filled, running_shown, constant_link, constant_is, load_is, literal_loaded}
use Rattle.class_machine.proofs.steps.load.Goals as goal

pub running-requires : goal.running-requires
running-requires c =
    subst (λ (fs : List Frame). 0 < length fs) (sym c.deref.ensures.value)
    (filled c.args.run.now.frames.items (no_frame c.args.set.now (core_of c.args.run.now) c.args.next (LoadsConstant c.args.i) c.requires.can))

pub link_at-requires : goal.link_at-requires
link_at-requires c =
    let l = constant_link c.args.set.now c.args.links.now (core_of c.args.run.now) (shown c.running.result.now) (map shown c.running.ensures.below) (running_shown c.args.run.now.frames.items c.deref.result.now c.running.result.now c.deref.ensures.value c.running.ensures) c.requires.linked c.args.next c.args.i c.requires.can in
    record { target = l.0; is = l.1 }

pub unreachable-requires : goal.unreachable-requires
unreachable-requires c =
    let k = constant_is c.args.set.now c.args.links.now (core_of c.args.run.now) (shown c.running.result.now) (map shown c.running.ensures.below) (running_shown c.args.run.now.frames.items c.deref.result.now c.running.result.now c.deref.ensures.value c.running.ensures) c.requires.linked c.args.next c.args.i c.requires.can c.link_at.result.now c.link_at.ensures in
    search (rules, k)

pub returns-in_ok-make-in-Literal : goal.returns-in_ok-make-in-Literal
returns-in_ok-make-in-Literal c = λ input out.
    let frames_are = running_shown c.args.run.now.frames.items c.deref.result.now c.running.result.now c.deref.ensures.value c.running.ensures in
    load_is c.args.set.now c.args.links.now (core_of c.args.run.now) (shown c.running.result.now) (map shown c.running.ensures.below) frames_are c.requires.linked c.args.next c.args.i c.requires.can c.link_at.result.now (Literal c.in-Literal.text) c.link_at.ensures (ap constant_of c.in-Literal.is) input out
    ∙ literal_loaded c.args.set.now (core_of c.args.run.now) (core_of c.make.new.run) (shown c.running.result.now) (map shown c.running.ensures.below) c.in-Literal.text c.in_ok-copy-in-Literal.copy c.args.next frames_are c.in_ok-copy-in-Literal.ensures c.in_ok-make-in-Literal.ensures input out

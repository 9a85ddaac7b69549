use Rattle.std.proofs.Common.{List, ℕ, ap, sym, ◌∙◌}
use Rattle.class_file.specs.Natives.{Object}
use Rattle.class_file.specs.Machine.{Going}
use Rattle.class_machine.specs.Core.{core_of, state_of, frames_of}
use Rattle.class_machine.specs.Throws.{unwound_by}
use Rattle.class_machine.proofs.Throwing.{thrown_caught, thrown_out_of}
use Rattle.class_machine.proofs.throws.throw.Goals as goal

pub returns-then-branch : goal.returns-then-branch
returns-then-branch c = λ input out.
    let s = state_of c.args.set.now (core_of c.args.run.now) input out in
    let m = c.in_ok-thrown.ensures in
    let u = rw c.if-branch.true at c.in_ok-unwind.ensures in
    thrown_caught c.args.set.now c.args.links.now c.requires.linked c.requires.built c.args.exception s (frames_of c.args.run.now.frames.items) (frames_of c.unwind.new.frames.items)
    (ap (λ (r : ℕ). unwound_by c.args.links.now c.args.exception r (frames_of c.args.run.now.frames.items)) (sym m.place_is) ∙ u)
    ∙ ap (λ (heap : List Object). Going (record s { heap = heap; frames = frames_of c.unwind.new.frames.items })) (sym m.heap_is)

pub returns-else-branch : goal.returns-else-branch
returns-else-branch c = λ input out.
    let s = state_of c.args.set.now (core_of c.args.run.now) input out in
    let m = c.in_ok-thrown.ensures in
    let u = rw c.if-branch.false at c.in_ok-unwind.ensures in
    thrown_out_of c.args.set.now c.args.links.now c.requires.linked c.requires.built c.args.exception s (frames_of c.args.run.now.frames.items)
    (ap (λ (r : ℕ). unwound_by c.args.links.now c.args.exception r (frames_of c.args.run.now.frames.items)) (sym m.place_is) ∙ u)

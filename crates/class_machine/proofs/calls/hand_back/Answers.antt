use Rattle.std.proofs.Common.{◌≢◌, List, [], ◌∷◌, length, ap, sym, ◌∙◌, arith}
use Rattle.std.specs.Prelude.{map, vec_len}
use Rattle.std.proofs.lemmas.Bool.{eqb-false}
use Rattle.class_file.specs.Machine.{Active, Going, Returns}
use Rattle.class_machine.specs.declared.frame.Frame.{Frame}
use Rattle.class_machine.specs.Core.{core_of, state_of, frames_of}
use Rattle.class_machine.specs.Stacks.{shown}
use Rattle.class_machine.specs.Runs.{values_of}
use Rattle.class_machine.proofs.Calling.{no_frame, topmost, can_resume, has_op, resumes}
use Rattle.class_machine.proofs.calls.hand_back.Goals as goal

pub unreachable-requires : goal.unreachable-requires
unreachable-requires c =
    let e = rw c.in_default.is at c.pop_frame.ensures in
    no_frame c.args.set.now (core_of c.args.run.now) 0 (Returns (values_of c.args.value)) c.requires.can (ap frames_of e)

pub resume-requires : goal.resume-requires
resume-requires c =
    let e = rw c.in-Some.is at c.pop_frame.ensures in
    let ne = eqb-false (vec_len c.pop_frame.new.frames) 0 (sym c.if-is_empty.ensures) in
    let some : c.pop_frame.new.frames.items ≢ [] = λ h. let n = ap length h in ne (omega (arith, n)) in
    let t = topmost c.pop_frame.new.frames.items some in
    can_resume c.args.links.now c.pop_frame.new.frames.items t.0 t.1 t.2
    (has_op c.args.set.now (core_of c.args.run.now) (shown c.in-Some.frame) (frames_of c.pop_frame.new.frames.items) (ap (map shown) e) (values_of c.args.value) c.requires.can c.if-frame.false (shown t.0) (map shown t.1) (ap (map shown) t.2) c.args.links.now c.requires.linked)

pub returns : goal.returns
returns c = λ input out.
    let e = rw c.in-Some.is at c.pop_frame.ensures in
    let r = c.in_ok-resume.ensures in
    resumes c.args.set.now (core_of c.args.run.now) (shown c.in-Some.frame) (frames_of c.pop_frame.new.frames.items) (ap (map shown) e) (values_of c.args.value) c.requires.can c.if-frame.false (shown r.before) (map shown r.below) (ap (map shown) r.old_is) c.args.links.now c.requires.linked r.op r.op_is input out
    ∙ ap (λ (f : Active). Going (record (state_of c.args.set.now (core_of c.args.run.now) input out) { frames = f ∷ map shown r.below })) (sym r.is)
    ∙ ap (λ (fs : List Frame). Going (record (state_of c.args.set.now (core_of c.args.run.now) input out) { frames = map shown fs })) (sym r.new_is)

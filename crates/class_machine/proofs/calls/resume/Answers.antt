use Rattle.std.proofs.Common.{List, [], ◌∷◌, subst}
use Rattle.class_machine.specs.declared.frame.Frame.{Frame}
use Rattle.class_machine.specs.Runs.{ResumesAt}
use Rattle.class_machine.proofs.Calling.{resumed_so}
use Rattle.class_machine.proofs.calls.resume.Goals as goal

pub returns-in_ok-push_top-in-Some : goal.returns-in_ok-push_top-in-Some
returns-in_ok-push_top-in-Some c =
    let at = subst (λ (fs : List Frame). ResumesAt c.args.links.now fs c.next_place-next.result) c.deref.ensures.value c.next_place-next.ensures in
    rw c.in-Some.is (resumed_so c.args.links.now (c.in-Some.v ∷ []) c.args.frames.now.items c.push_top.new.frames.items c.next_place-next.result at c.in_ok-push_top-in-Some.ensures)

pub returns-in-None : goal.returns-in-None
returns-in-None c =
    let at = subst (λ (fs : List Frame). ResumesAt c.args.links.now fs c.next_place-next.result) c.deref.ensures.value c.next_place-next.ensures in
    rw c.in-None.is (resumed_so c.args.links.now [] c.args.frames.now.items c.jump_top.new.frames.items c.next_place-next.result at c.jump_top.ensures)

use Rattle.std.proofs.Common.{ℕ, Option, Some, true, false, sym, ap, ◌∙◌}
use Rattle.class_file.specs.Typing.{Types}
use Rattle.class_file.specs.Verification.{types_given}
use Rattle.verifier.specs.Carrying.{flow_of}
use Rattle.verifier.specs.declared.carried.Carried.{Carried}
use Rattle.verifier.proofs.Carries.{enters_given, enters_so}
use Rattle.verifier.proofs.carried.Carried.enter.Goals as goal
use Rattle.verifier.proofs.carried.Carried.enter.Goals.{then-needs_frame, else-needs_frame}

pub returns-in-Some-clause-flow : goal.returns-in-Some-clause-flow
returns-in-Some-clause-flow c =
    c.in_ok-enter_given.ensures.types ∙ ap (λ (n : ℕ). let o : Option Types = Some (types_given n c.in-Some.frame.now) in o) c.max_locals.ensures
    ∙ enters_given c.args.method.now c.args.pc c.in-Some.frame.now (flow_of c.args.self) c.in-Some.ensures

pub returns-clause-flow : goal.returns-clause-flow
returns-clause-flow c =
    let m = c.args.method.now in
    let flow = flow_of c.args.self in
    elim c.if-needs_frame.branch [
      | then-needs_frame w ↦ ap (λ (x : Carried). flow_of x) w.carried-is ∙ enters_so m c.args.pc true flow c.in_default.ensures (sym c.needs_frame.ensures ∙ w.if-needs_frame.true)
      | else-needs_frame w ↦ ap (λ (x : Carried). flow_of x) w.carried-is ∙ enters_so m c.args.pc false flow c.in_default.ensures (sym c.needs_frame.ensures ∙ w.if-needs_frame.false)
    ]

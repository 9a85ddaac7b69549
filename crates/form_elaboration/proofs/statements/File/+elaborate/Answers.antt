use Rattle.std.proofs.Common.{sym, ap, ◌∙◌}
use Rattle.form_elaboration.specs.Statements.{stepped, all_stepped}
use Rattle.form_elaboration.proofs.Bodies.{body_closed}
use Rattle.form_elaboration.proofs.Turns.{turning_none, turning_one, turning_all, turn_here, drop_end}
use Rattle.form_elaboration.proofs.statements.File.+elaborate.Goals as goal

pub statements-loop-one-init : goal.statements-loop-one-init
statements-loop-one-init t c = turning_none c.args.self.now.number c.args.self.now.text.now c.args.statements.now c.new-parts.result c.args.scope.now c.new-parts.ensures

pub statements-loop-one-preserved : goal.statements-loop-one-preserved
statements-loop-one-preserved t c =
    turning_one c.loop-one.invariant (turn_here c.args.statements.now c.loop-one.one-index c.one-item.result c.loop-one-test.true c.one-item.is)
    (ap (λ o. stepped o c.statement.new.scope) (sym c.in-Some.is) ∙ c.in_ok-part.ensures) c.in_ok-push.ensures.ok

pub statements-returns : goal.statements-returns
statements-returns t c = turning_all c.loop-one.invariant (drop_end c.args.statements.now c.loop-one.one-index c.loop-one-test.false)

pub body-returns : goal.body-returns
body-returns t c =
    body_closed c.args.self.now.number c.args.self.now.text.now c.args.body.now c.args.scope.now c.statements.new.scope c.as_slice-2.result.now c.in-Some.parts c.in_ok-before.before c.in_ok-new.field-0
    (ap (λ o. all_stepped o c.statements.new.scope) (sym c.in-Some.is) ∙ c.in_ok-parts.ensures) c.as_slice-2.ensures (c.in_ok-before.ensures ∙ c.as_slice.ensures) (c.in_ok-new.ensures ∙ c.node-node.ensures)

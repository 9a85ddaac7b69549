use Rattle.std.proofs.Common.{◌∙◌, sym}
use Rattle.class_machine.proofs.Linked.{same_head, other_head}
use Rattle.class_machine.proofs.linking.is_text.Goals as goal

pub returns-then-unit_at-from : goal.returns-then-unit_at-from
returns-then-unit_at-from c = other_head c.args.text.now c.args.ascii.now c.loop-at.at c.unit_at.result c.loop-at-test.true c.unit_at.ensures (λ e. c.if-unit_at-from.true (e ∙ sym c.from.ensures)) ∙ sym c.loop-at.invariant

pub loop-at-preserved : goal.loop-at-preserved
loop-at-preserved c = c.loop-at.invariant ∙ same_head c.args.text.now c.args.ascii.now c.loop-at.at c.unit_at.result c.loop-at-test.true c.unit_at.ensures (c.if-unit_at-from.false ∙ c.from.ensures)

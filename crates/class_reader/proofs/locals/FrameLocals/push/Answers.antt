use Rattle.std.proofs.Common.{sym, ◌∙◌}
use Rattle.class_reader.proofs.Unset.{grew, stayed}
use Rattle.class_reader.proofs.locals.FrameLocals.push.Goals as goal

pub invariant_of-self-then-adds : goal.invariant_of-self-then-adds
invariant_of-self-then-adds c =
    grew c.self.inside.types c.push.new.self c.args.kept c.self.inside.set c.len.result c.len-self-inside.result c.self.invariant c.len.ensures c.in_ok-push.ensures.ok c.len-self-inside.ensures (sym c.is_next-adds.ensures ∙ c.if-adds.true)

pub invariant_of-self-else-adds : goal.invariant_of-self-else-adds
invariant_of-self-else-adds c =
    stayed c.self.inside.types c.push.new.self c.args.kept c.self.inside.set c.len.result c.self.invariant c.len.ensures c.in_ok-push.ensures.ok (sym c.is_next-adds.ensures ∙ c.if-adds.false)

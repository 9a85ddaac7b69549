use Rattle.std.proofs.Common.{◌-◌, length}
use Rattle.class_reader.proofs.Unset.{shrank, kept_set}
use Rattle.class_reader.proofs.locals.FrameLocals.take_last.Goals as goal

pub invariant_of-self-then-len-self : goal.invariant_of-self-then-len-self
invariant_of-self-then-len-self c =
    shrank (length c.self.inside.types - c.args.gone) c.self.inside.types c.take_last.new.self c.self.inside.set c.len-len.result c.in_ok-take_last.ensures.ok c.len-len.ensures c.self.invariant c.if-len-self.true

pub invariant_of-self-else-len-self : goal.invariant_of-self-else-len-self
invariant_of-self-else-len-self c =
    kept_set (length c.self.inside.types - c.args.gone) c.self.inside.types c.take_last.new.self c.self.inside.set c.len-len.result c.in_ok-take_last.ensures.ok c.len-len.ensures c.self.invariant c.if-len-self.false

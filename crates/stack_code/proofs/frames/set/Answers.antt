use Rattle.std.proofs.Common.{arith, ap, ◌∙◌}
use Rattle.stack_code.specs.Walking.{set_of}
use Rattle.stack_code.proofs.Walks.{set_within, set_behind}
use Rattle.stack_code.proofs.frames.set.Goals as goal

pub returns-then-at-len : goal.returns-then-at-len
returns-then-at-len c = set_within c.widen.new.flags.items c.args.at (set_of c.args.flags.now.items) c.in_ok-widen.ensures.same (omega (arith, c.if-at-len.true, c.len.ensures))

pub returns-in_ok-push : goal.returns-in_ok-push
returns-in_ok-push c = ap set_of c.in_ok-push.ensures.items ∙ set_behind c.widen.new.flags.items c.args.at (set_of c.args.flags.now.items) c.in_ok-widen.ensures.same c.in_ok-widen.ensures.long (omega (arith, c.if-at-len.false, c.len.ensures))

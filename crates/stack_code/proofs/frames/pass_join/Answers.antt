use Rattle.stack_code.specs.Walking.{set_of}
use Rattle.stack_code.proofs.Layered.{join_passed}
use Rattle.stack_code.proofs.frames.pass_join.Goals as goal

pub returns : goal.returns
returns c = join_passed c.args.locals.now (set_of c.args.entries.now) c.args.live c.args.walk.now c.pass.new.walk c.pop_one.new.walk c.pop_one-2.new.walk c.push.new.walk c.in_ok-pass.ensures c.pop_one.ensures c.pop_one-2.ensures c.in_ok-push.ensures

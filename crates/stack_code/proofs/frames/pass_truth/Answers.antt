use Rattle.std.proofs.Common.{ap, ◌∙◌}
use Rattle.stack_code.specs.Walking.{set_of}
use Rattle.stack_code.proofs.Layered.{truth_passed}
use Rattle.stack_code.proofs.frames.pass_truth.Goals as goal

pub returns : goal.returns
returns c =
    truth_passed c.args.locals.now (set_of c.args.entries.now) c.args.live c.args.walk.now c.pass.new.walk c.push.new.walk c.pass-2.new.walk c.pop.new.walk c.enter-passed.new.walk c.pass-3.new.walk c.meet.new.walk (set_of c.args.jumped.items) (set_of c.deref.result.now)
    c.in_ok-pass.ensures c.in_ok-push.ensures c.in_ok-pass-2.ensures c.pop.ensures c.enter-passed.ensures.moves (ap set_of (c.deref.ensures.value ∙ c.enter-passed.ensures.before)) c.in_ok-pass-3.ensures c.in_ok-meet.ensures

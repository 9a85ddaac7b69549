use Rattle.std.proofs.Common.{refl, arith}
use Rattle.class_machine.proofs.Running.{changed}
use Rattle.class_machine.proofs.frames.push_top.Goals as goal

pub returns : goal.returns
returns c = changed c.args.frames.now.items c.requires _ _ c.index_mut-frame.result.now (omega (arith, c.len-top.ensures)) c.index_mut-frame.ensures.value _ _ (rw c.in_ok-push.ensures refl)

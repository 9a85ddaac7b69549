use Rattle.std.proofs.Common.{refl, arith}
use Rattle.class_machine.proofs.Running.{changed}
use Rattle.class_machine.proofs.frames.jump_top.Goals as goal

pub returns : goal.returns
returns c = changed c.args.frames.now.items c.requires _ _ c.index_mut.result.now (omega (arith, c.len-top.ensures)) c.index_mut.ensures.value _ _ refl

use Rattle.std.proofs.Common.{refl}
use Rattle.std.specs.Prelude.{reverse}
use Rattle.class_machine.proofs.Running.{top_is, others}
use Rattle.class_machine.proofs.frames.running.Goals as goal

pub returns : goal.returns
returns c = record { below = reverse (others c.args.frames.now c.requires); is = top_is c.args.frames.now c.requires _ _ c.index-frames-frames.result refl c.index-frames-frames.is }

use Rattle.verifier_types.specs.Frames.{shown}
use Rattle.verifier.proofs.Sweeps.{same_caught}
use Rattle.verifier.proofs.handlers.all_caught.Goals as goal

pub loop-handler-init : goal.loop-handler-init
loop-handler-init c = same_caught c.args.set.now c.args.class.now c.args.method.now c.args.pc (shown c.args.known.now) c.args.method.now.handlers c.args.rows.now c.requires.covering

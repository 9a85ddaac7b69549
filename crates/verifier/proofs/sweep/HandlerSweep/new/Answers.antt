use Rattle.std.proofs.Common.{refl}
use Rattle.verifier.proofs.Sweeps.{new_sweep}
use Rattle.verifier.proofs.sweep.HandlerSweep.new.Goals as goal

pub returns : goal.returns
returns c = new_sweep c.args.table.now _ c.new.ensures.items refl c.in_ok-sorted.ensures.same c.in_ok-sorted.ensures.sorted

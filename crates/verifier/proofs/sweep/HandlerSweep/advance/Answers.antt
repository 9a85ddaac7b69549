use Rattle.std.proofs.Common.{refl}
use Rattle.verifier.proofs.Sweeps.{advanced}
use Rattle.verifier.proofs.sweep.HandlerSweep.advance.Goals as goal

pub returns : goal.returns
returns c table at le swept =
    advanced table at c.args.pc c.args.self.now _ c.drop_ended.new.covering.items le c.drop_ended.ensures refl (rw c.deref.ensures.value at c.in_ok-self.ensures.same) (rw c.deref.ensures.value at c.in_ok-self.ensures.later) swept

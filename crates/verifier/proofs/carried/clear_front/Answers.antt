use Rattle.std.proofs.Common.{ℕ, ap, ◌∙◌, arith}
use Rattle.std.proofs.Math.ListN.{replicate}
use Rattle.class_file.specs.declared.class.VType.TheVariants.{Top}
use Rattle.verifier.proofs.Carries.{front_cleared}
use Rattle.verifier.proofs.carried.clear_front.Goals as goal

pub returns : goal.returns
returns c =
    front_cleared c.args.front c.loop-at.locals c.loop-at.at (omega (arith, c.loop-at-test.false)) c.loop-at.invariant.unset c.loop-at.invariant.low
    ∙ ap (λ (n : ℕ). replicate n Top) c.loop-at.invariant.same

use Rattle.std.proofs.Common.{◌≡◌, ℕ, Bor, drop, map}
use Rattle.std.proofs.Math.ListN.{replicate}
use Rattle.class_file.specs.declared.class.VType.{VType}
use Rattle.class_file.specs.declared.class.VType.TheVariants.{Top}
use Rattle.class_file.specs.Verification.{spread}
use Rattle.verifier.specs.Carrying.{Laying}
use Rattle.verifier.proofs.carried.put_all.Given as goal

abbrev pub invariant-loop-t : goal.invariant-loop-t
invariant-loop-t l = (max : ℕ) → l.fn.locals ≡ replicate max Top → Laying max l.at l.locals (spread (map (λ (t : Bor VType). t.now) (drop l.t-index l.types))) (spread (map (λ (t : Bor VType). t.now) l.types))

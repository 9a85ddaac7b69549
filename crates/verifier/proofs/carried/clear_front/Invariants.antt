use Rattle.std.proofs.Common.{◌≡◌, ◌<◌, ℕ, [], get_or, length}
use Rattle.class_file.specs.declared.class.VType.TheVariants.{Top}
use Rattle.verifier.specs.Carrying.{IsUnset}
use Rattle.verifier.proofs.carried.clear_front.Given as goal

abbrev pub invariant-loop-at : goal.invariant-loop-at
invariant-loop-at l = record {
  unset : IsUnset l.front [] l.locals;
  low : (at : ℕ) → at < l.at → get_or l.locals at Top ≡ Top;
  same : length l.locals ≡ length l.fn.locals;
}

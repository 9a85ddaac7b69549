use Rattle.std.proofs.Common.{◌≡◌, drop, length}
use Rattle.verifier.specs.Carrying.{IsUnset}
use Rattle.verifier.proofs.carried.clear_stored.Given as goal

abbrev pub invariant-loop-at : goal.invariant-loop-at
invariant-loop-at l = record { unset : IsUnset l.front (drop l.at-index l.stored) l.locals; same : length l.locals ≡ length l.fn.locals }

-- The bytes are those of the units so far, and then the rest.
use Rattle.std.proofs.Common.{◌≡◌, ◌++◌, length, ℕ, List}
use Rattle.kc_text.specs.Modified.{modified_of, AreUnits}
use Rattle.kc_text.proofs.texts.Text.from_modified.Given as goal

pub record Read (bytes units rest : List ℕ) : Type 0 where
  pub spelled : modified_of units ++ rest ≡ bytes
  pub fits : AreUnits units

abbrev pub invariant-loop-unit : goal.invariant-loop-unit
invariant-loop-unit l = Read l.bytes l.units.items l.rest

abbrev pub decreases-loop-unit : goal.decreases-loop-unit
decreases-loop-unit l = length l.rest

-- What was made, with the UTF-8 of the units that are left, is the UTF-8 of all the units.
use Rattle.std.proofs.Common.{◌≡◌, ◌++◌, ◌-◌, length, drop}
use Rattle.kc_text.specs.Unicode.{utf8_of}
use Rattle.kc_text.proofs.utf8.utf8_from_units.Given as goal

abbrev pub invariant-loop-at : goal.invariant-loop-at
invariant-loop-at l = l.bytes.bytes.items ++ utf8_of (drop l.at l.units) ≡ utf8_of l.units

abbrev pub decreases-loop-at : goal.decreases-loop-at
decreases-loop-at l = length l.units - l.at

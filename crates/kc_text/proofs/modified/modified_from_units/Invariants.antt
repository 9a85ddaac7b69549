-- The bytes so far are those of the units so far.
use Rattle.std.proofs.Common.{◌≡◌, take}
use Rattle.kc_text.specs.Modified.{modified_of}
use Rattle.kc_text.proofs.modified.modified_from_units.Given as goal

abbrev pub invariant-loop-unit : goal.invariant-loop-unit
invariant-loop-unit l = l.bytes.items ≡ modified_of (take l.unit-index l.units)

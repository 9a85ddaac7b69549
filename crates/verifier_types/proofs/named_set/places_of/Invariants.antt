use Rattle.std.proofs.Common.{take}
use Rattle.verifier_types.specs.Places.{PlacesAre}
use Rattle.verifier_types.proofs.named_set.places_of.Given as goal

abbrev pub invariant-loop-place : goal.invariant-loop-place
invariant-loop-place l = PlacesAre l.places (take l.place l.classes)

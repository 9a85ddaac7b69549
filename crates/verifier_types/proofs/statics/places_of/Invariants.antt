use Rattle.std.proofs.Common.{take}
use Rattle.verifier_types.specs.Places.{StaticsAre}
use Rattle.verifier_types.proofs.statics.places_of.Given as goal

abbrev pub invariant-loop-place : goal.invariant-loop-place
invariant-loop-place l = StaticsAre l.places (take l.place l.methods)

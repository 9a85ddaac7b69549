use Rattle.std.proofs.Common.{◌≡◌, drop}
use Rattle.verifier.specs.Whole.{are_higher}
use Rattle.verifier.proofs.loading.are_higher.Given as goal

abbrev pub invariant-loop-place : goal.invariant-loop-place
invariant-loop-place l = are_higher l.set l.ranks l.place (drop l.place l.classes) ≡ are_higher l.set l.ranks 0 l.classes

use Rattle.std.proofs.Common.{◌≡◌, length}
use Rattle.class_reader.specs.Descriptors.{elements_behind}
use Rattle.class_reader.proofs.descriptors.elements_behind.Given as goal

abbrev pub invariant-loop-rest : goal.invariant-loop-rest
invariant-loop-rest l = elements_behind l.rest ≡ elements_behind l.units

abbrev pub decreases-loop-rest : goal.decreases-loop-rest
decreases-loop-rest l = length l.rest

use Rattle.std.proofs.Common.{◌≡◌}
use Rattle.class_reader.specs.Descriptors.{is_open}
use Rattle.class_reader.proofs.descriptors.is_open.Given as goal

abbrev pub invariant-loop-rest : goal.invariant-loop-rest
invariant-loop-rest l = is_open l.types l.left l.rest ≡ is_open l.types l.most l.units

abbrev pub decreases-loop-rest : goal.decreases-loop-rest
decreases-loop-rest l = l.left

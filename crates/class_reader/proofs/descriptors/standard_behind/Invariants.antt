use Rattle.std.proofs.Common.{◌≡◌, length}
use Rattle.class_file.specs.DescriptorFaults.{behind_type}
use Rattle.class_reader.proofs.descriptors.standard_behind.Given as goal

abbrev pub invariant-loop-rest : goal.invariant-loop-rest
invariant-loop-rest l = behind_type l.rest ≡ behind_type l.units

abbrev pub decreases-loop-rest : goal.decreases-loop-rest
decreases-loop-rest l = length l.rest

use Rattle.std.proofs.Common.{length}
use Rattle.verifier_types.proofs.descriptors.+array_length.Given as goal

abbrev pub decreases-array_length : goal.decreases-array_length
decreases-array_length l = length l.units.now

use Rattle.std.proofs.Common.{length}
use Rattle.kc_types.proofs.substitution.+argument_for.Given as goal

abbrev pub decreases-argument_for : goal.decreases-argument_for
decreases-argument_for l = length l.params.now

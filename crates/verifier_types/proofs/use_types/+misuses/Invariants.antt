use Rattle.std.proofs.Common.{length}
use Rattle.verifier_types.proofs.use_types.+misuses.Given as goal

abbrev pub decreases-misuses : goal.decreases-misuses
decreases-misuses l = length l.wanted.now

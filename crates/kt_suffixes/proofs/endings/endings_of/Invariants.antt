use Rattle.std.proofs.Common.{◌≤◌, length}
use Rattle.kt_suffixes.specs.Suffixes.{AreEndings}
use Rattle.kt_suffixes.proofs.endings.endings_of.Given as goal

abbrev pub invariant-loop-at : goal.invariant-loop-at
invariant-loop-at l = AreEndings l.tokens l.all × (l.at ≤ length l.tokens)

abbrev pub decreases-loop-at : goal.decreases-loop-at
decreases-loop-at l = l.at

use Rattle.std.proofs.Common.{◌<◌}
use Rattle.kt_readings.proofs.print.+write.Given as goal

abbrev pub decreases-write : goal.decreases-write
decreases-write l = l.depth

abbrev pub invariant-loop-inner : goal.invariant-loop-inner
invariant-loop-inner l = 0 < l.depth

use Rattle.std.proofs.Common.{◌-◌, length}
use Rattle.kt_bodies.proofs.Sequences.{Skips}
use Rattle.kt_bodies.proofs.blocks.behind_semicolons.Given as goal

abbrev pub invariant-loop-next : goal.invariant-loop-next
invariant-loop-next l = Skips l.tokens l.fn.at l.at

abbrev pub decreases-loop-next : goal.decreases-loop-next
decreases-loop-next l = length l.tokens - l.at.at

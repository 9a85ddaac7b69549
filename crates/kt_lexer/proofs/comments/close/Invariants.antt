use Rattle.std.proofs.Common.{◌-◌, length}
use Rattle.kt_lexer.proofs.Nesting.{Within}
use Rattle.kt_lexer.proofs.comments.close.Given as goal

abbrev pub invariant-loop-at : goal.invariant-loop-at
invariant-loop-at l = Within l.text l.at l.depth

abbrev pub decreases-loop-at : goal.decreases-loop-at
decreases-loop-at l = length l.text - l.at

use Rattle.std.proofs.Common.{◌-◌, length}
use Rattle.kt_lexer.proofs.Runs.{Read}
use Rattle.kt_lexer.proofs.characters.word_length.Given as goal

abbrev pub invariant-loop-at : goal.invariant-loop-at
invariant-loop-at l = Read l.text l.at

abbrev pub decreases-loop-at : goal.decreases-loop-at
decreases-loop-at l = length l.text - l.at

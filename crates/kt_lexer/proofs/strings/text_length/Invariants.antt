use Rattle.std.proofs.Common.{◌-◌, length}
use Rattle.kt_lexer.proofs.Elements.{Spelled}
use Rattle.kt_lexer.proofs.strings.text_length.Given as goal

abbrev pub invariant-loop-element : goal.invariant-loop-element
invariant-loop-element l = Spelled l.text l.at

abbrev pub decreases-loop-element : goal.decreases-loop-element
decreases-loop-element l = length l.text - l.at

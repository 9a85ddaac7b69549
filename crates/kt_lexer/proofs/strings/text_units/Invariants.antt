use Rattle.std.proofs.Common.{◌-◌, length}
use Rattle.kt_lexer.proofs.Elements.{Unescaped}
use Rattle.kt_lexer.proofs.strings.text_units.Given as goal

abbrev pub invariant-loop-element : goal.invariant-loop-element
invariant-loop-element l = Unescaped l.text l.at l.units

abbrev pub decreases-loop-element : goal.decreases-loop-element
decreases-loop-element l = length l.text - l.at

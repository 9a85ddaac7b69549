use Rattle.std.proofs.Common.{◌≡◌, ◌≤◌, take}
use Rattle.kt_lexer.specs.Numbers.{digits_value}
use Rattle.kt_lexer.proofs.numbers.digits_value.Given as goal

abbrev pub invariant-loop-unit : goal.invariant-loop-unit
invariant-loop-unit l = (l.value ≡ digits_value l.base (take l.unit-index l.digits)) × (l.value ≤ l.most)

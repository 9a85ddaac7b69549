use Rattle.std.proofs.Common.{◌≡◌, ◌≤◌, take}
use Rattle.form_parser.specs.Cut.{decimal}
use Rattle.form_parser.proofs.tokens.decimal.Given as goal

abbrev pub invariant-loop-digit : goal.invariant-loop-digit
invariant-loop-digit l = (l.value ≡ decimal (take l.digit-index l.digits)) × (l.value ≤ 2147483648)

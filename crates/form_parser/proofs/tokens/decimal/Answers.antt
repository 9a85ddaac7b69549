use Rattle.std.proofs.Common.{◌+◌, arith}
use Rattle.form_parser.proofs.Decimals.{one_more_digit, front_is_less}
use Rattle.form_parser.proofs.tokens.decimal.Goals as goal

pub loop-digit-preserved : goal.loop-digit-preserved
loop-digit-preserved c =
    let more = one_more_digit c.args.digits.now c.loop-digit.digit-index c.loop-digit-test.true in
    (omega (arith, more, c.saturating_sub.ensures), c.if-value-gt2147483648.false)

pub returns-then-value-gt2147483648 : goal.returns-then-value-gt2147483648
returns-then-value-gt2147483648 c =
    let more = one_more_digit c.args.digits.now c.loop-digit.digit-index c.loop-digit-test.true in
    let less = front_is_less (c.loop-digit.digit-index + 1) c.args.digits.now in
    omega (arith, more, less, c.saturating_sub.ensures)

use Rattle.std.proofs.Common.{◌≡◌, ◌+◌, ◌∙◌, ap, sym, arith, get_or, take}
use Rattle.kt_lexer.specs.Numbers.{digits_value, one_more}
use Rattle.kt_lexer.proofs.Digits.{front_is_less, one_more_unit, as_digit}
use Rattle.kt_lexer.proofs.numbers.digits_value.Goals as goal

pub returns-then-more-most : goal.returns-then-more-most
returns-then-more-most c =
    let unit = get_or c.args.digits.now c.loop-unit.unit-index 0 in
    let more = one_more_unit c.args.base c.args.digits.now c.loop-unit.unit-index c.loop-unit-test.true in
    let step : digits_value c.args.base (take (c.loop-unit.unit-index + 1) c.args.digits.now) ≡ one_more c.args.base c.loop-unit.value unit = more ∙ ap (λ v. one_more c.args.base v unit) (sym c.loop-unit.invariant.0) in
    let digit = as_digit c.args.base c.loop-unit.value unit c.if-unit-ne95.true in
    let less = front_is_less c.args.base (c.loop-unit.unit-index + 1) c.args.digits.now c.requires.some in
    omega (arith, step, digit, less, c.digit_value.ensures.value, c.if-more-most.true)

use Rattle.std.proofs.Common.{◌∙◌, ◌+◌, ◌-◌, ◌<◌, ap, sym, arith, length, rules}
use Rattle.kt_lexer.specs.Strings.{element_of}
use Rattle.kt_lexer.proofs.Elements.{spelled_more, element_ahead_spelled}
use Rattle.kt_lexer.proofs.strings.text_length.Goals as goal

pub overflow_add-at : goal.overflow_add-at
overflow_add-at c =
    let e = sym (ap element_of c.text_from.ensures) ∙ sym c.in-Some.ensures in
    let a = element_ahead_spelled c.loop-element.invariant e in
    let within = a.within in
    search rules

pub loop-element-smaller : goal.loop-element-smaller
loop-element-smaller c =
    let e = sym (ap element_of c.text_from.ensures) ∙ sym c.in-Some.ensures in
    let a = element_ahead_spelled c.loop-element.invariant e in
    let some = a.some in
    let within = a.within in
    let h : length c.args.text.now - (c.loop-element.at + c.in-Some.element.length) < length c.args.text.now - c.loop-element.at = omega (arith, some, within) in
    h

pub loop-element-preserved : goal.loop-element-preserved
loop-element-preserved c =
    let e = sym (ap element_of c.text_from.ensures) ∙ sym c.in-Some.ensures in
    spelled_more c.loop-element.invariant e

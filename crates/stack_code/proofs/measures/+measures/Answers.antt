use Rattle.std.proofs.Common.{◌≡◌, ◌+◌, map, length, drop, nat_eq, arith, ap, sym, ◌∙◌, true}
use Rattle.std.proofs.lemmas.Bool.{eqb-true, eqb-false}
use Rattle.std.proofs.lemmas.Result.{IfOk-weaker}
use Rattle.stack_code.specs.Code.{Several, kept_bytes, code_of, texts, values, in_turn}
use Rattle.stack_code.specs.Emission.{after_part}
use Rattle.stack_code.proofs.Parts.{on_size, on_goes, turn_is}
use Rattle.stack_code.proofs.Runs.{kept_none}
use Rattle.stack_code.proofs.Measuring.{plain_measured, not_false}
use Rattle.stack_code.proofs.Nodes.{concat_is, write_is}
use Rattle.stack_code.proofs.measures.+measures.Goals as goal

pub measure_in_turn-loop-i-preserved : goal.measure_in_turn-loop-i-preserved
measure_in_turn-loop-i-preserved t c =
    let es = c.args.parts.now in
    let i = c.loop-i.i in
    let e = c.index-parts-i.result in
    let last = nat_eq (i + 1) (length es) in
    let more : Several = in_turn (map code_of (drop (i + 1) es)) in
    let is = turn_is es i e last c.loop-i-test.true c.index-parts-i.is (eqb-true (i + 1) (length es)) (eqb-false (i + 1) (length es)) in
    let on : (code_of e).goes_on ≡ true = sym c.in_ok-one.ensures.goes_on ∙ not_false c.in_ok-one.one.goes_on c.if-not-one.false in
    let n = ap (λ (s : Several). s.size) is ∙ on_size (code_of e) (after_part last e.ty) more on in
    let g = ap (λ (s : Several). s.goes_on) is ∙ on_goes (code_of e) (after_part last e.ty) more on in
    (omega (arith, n, c.loop-i.invariant.0, c.in_ok-one.ensures.value, c.between_size.ensures, c.in_ok-total.ensures, c.in_ok-total-2.ensures), sym g ∙ c.loop-i.invariant.1)

pub measure_of-returns-in_ok-parts-in-Concat : goal.measure_of-returns-in_ok-parts-in-Concat
measure_of-returns-in_ok-parts-in-Concat t c =
    let parts = c.in-Concat.parts in
    let x = texts (map code_of parts) in
    let e = c.in_ok-parts-in-Concat.ensures.length_is ∙ ap (λ es. (texts (map code_of es)).size) c.as_slice.ensures in
    let f = c.in_ok-parts-in-Concat.ensures.goes_on ∙ ap (λ es. (texts (map code_of es)).goes_on) c.as_slice.ensures in
    IfOk-weaker c.plain-in-Concat.result _ _ (λ m p. plain_measured m _ _ _ _ _ _ _ _ (let k = kept_none x.goes_on in let r : c.in_ok-parts-in-Concat.parts.length ≡ x.size + kept_bytes x.goes_on 0 = omega (arith, e, k) in r) f (concat_is c.args.node.now parts c.in-Concat.is) p) c.plain-in-Concat.ensures

pub measure_of-returns-in_ok-plus-in-CallNative-ConsoleWrite-default : goal.measure_of-returns-in_ok-plus-in-CallNative-ConsoleWrite-default
measure_of-returns-in_ok-plus-in-CallNative-ConsoleWrite-default t c =
    let args = c.in-CallNative-ConsoleWrite-default.values in
    let x = values (map code_of args) in
    let e = c.in_ok-values-in-CallNative-ConsoleWrite-default.ensures.length_is ∙ ap (λ es. (values (map code_of es)).size) c.as_slice-in-CallNative-ConsoleWrite-default.ensures in
    let f = c.in_ok-values-in-CallNative-ConsoleWrite-default.ensures.goes_on ∙ ap (λ es. (values (map code_of es)).goes_on) c.as_slice-in-CallNative-ConsoleWrite-default.ensures in
    let k = ap (λ g. kept_bytes g 3) f in
    IfOk-weaker c.plain-in-CallNative-ConsoleWrite-default.result _ _
    (λ m p. plain_measured m _ _ _ _ _ _ _ _ (let r : c.in_ok-plus-in-CallNative-ConsoleWrite-default.field-0 ≡ x.size + kept_bytes x.goes_on 3 = omega (arith, e, k, c.kept.ensures, c.in_ok-plus-in-CallNative-ConsoleWrite-default.ensures) in r) f (write_is c.args.node.now c.in-CallNative-ConsoleWrite-default.native args c.in-CallNative-ConsoleWrite-default.is) p)
    c.plain-in-CallNative-ConsoleWrite-default.ensures

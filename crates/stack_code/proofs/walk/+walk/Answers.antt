use Rattle.std.proofs.Common.{◌≤◌, rules, ◌≡◌, ◌+◌, [], map, length, drop, nat_eq, ap, sym, ◌∙◌, subst, arith, refl, ⊎_elim, Option, Some, reverse, true, false}
use Rattle.std.specs.Prelude.{not, ◌&&◌, ◌||◌}
use Rattle.std.proofs.lemmas.Bool.{eqb-true, eqb-false, ne_eqb}
use Rattle.std.proofs.lemmas.Result.{IfOk-weaker}
use Rattle.std.proofs.lemmas.List.{length-map, length-reverse, nil_from_length}
use Rattle.class_file.specs.Typing.{same}
use Rattle.std.proofs.lemmas.Int.{to_z-of_z}
use mir.Val.{SFits}
use mir.Syntax.{w32}
use Rattle.kc_core.specs.declared.tree.Core.{Core, size-Core}
use Rattle.kc_core.specs.declared.tree.Kind.{Kind, out-Kind}
use Rattle.kc_core.specs.declared.tree.Kind.TheOpen.{Kind-F}
use Rattle.kc_core.specs.declared.tree.Kind.TheViews.{outs-IntLit, outs-StrLit, outs-BoolLit, outs-LocalRead, outs-LocalWrite, outs-Declare, outs-NumBinary, outs-NumUnary, outs-NumCompare, outs-Equal, outs-Not, outs-And, outs-Or, outs-Concat, outs-CallNative, outs-Block, outs-If, outs-While}
use Rattle.stack_code.specs.Code.{in_turn, values, texts, discards, to_text, test_of, equal_test, PushInt, PushText, bit, int_bytes}
use Rattle.stack_code.specs.Frames.{traced_of, with_assigned, meeting, in_line, in_turn_traced, values_traced, texts_traced}
use Rattle.stack_code.specs.Emission.{texts_from, after_part}
use Rattle.stack_code.specs.Walking.{set_of, known_of, operand_type, DoesLine, DoesKind, declare_layer, choice_layer, emitted_all, PartlyWalks, texts_traced_from, texts_stack}
use Rattle.stack_code.proofs.Traces.{type_of_traced, emitted_is}
use Rattle.stack_code.proofs.Filled.{filled}
use Rattle.stack_code.proofs.Passing.{bit_bytes, wider, with_one, with_two, with_line, stored, negated_value, binary_value, compared_value, plain_value, walks_none}
use Rattle.stack_code.proofs.Layered.{short_tests, condition_true, condition_false, if_does, either_does, compared_does, negated_does, short_does, plain_node, is_plain, node_does, node_tests, declared_any, choice_any, undeclared, minus_any, native_any, always_does, while_does}
use Rattle.stack_code.proofs.Listed.{partly_start, turn_on, block_does, last_turn, value_does, value_on, values_do, native_does, text_does, text_on, texts_do, no_texts}
use Rattle.stack_code.proofs.walk.+walk.Invariants.{size_of}
use Rattle.stack_code.proofs.walk.+walk.Goals as goal

pub walk_one-returns : goal.walk_one-returns
walk_one-returns t c =
    with_one c.args.locals.now (set_of c.args.entries.now) c.args.live c.in_ok-goes.goes c.and.result c.args.walk.now c.walk_node.new.walk c.push.new.walk c.pass.new.walk c.pop.new.walk (traced_of c.args.value.now) c.args.value.now.ty c.args.bytes
    c.in_ok-goes.ensures (type_of_traced c.args.value.now) c.in_ok-push.ensures c.and.ensures c.in_ok-pass.ensures c.pop.ensures

pub walk_stored-returns : goal.walk_stored-returns
walk_stored-returns t c =
    stored c.args.locals.now (set_of c.args.entries.now) c.args.live c.in_ok-goes.goes c.and.result c.args.walk.now c.walk_node.new.walk c.push.new.walk c.pass_local.new.walk c.pop.new.walk c.assign.new.walk (traced_of c.args.value.now) c.args.value.now.ty c.args.local
    c.in_ok-goes.ensures (type_of_traced c.args.value.now) c.in_ok-push.ensures c.and.ensures c.in_ok-pass_local.ensures.stores c.pop.ensures c.in_ok-assign.ensures

pub walk_negate-returns : goal.walk_negate-returns
walk_negate-returns t c = negated_value c.args.locals.now (set_of c.args.entries.now) c.args.live c.in_ok-goes.goes c.args.walk.now c.walk_one.new.walk (traced_of c.args.value.now) c.in_ok-goes.ensures

pub walk_two-returns : goal.walk_two-returns
walk_two-returns t c =
    with_two c.args.locals.now (set_of c.args.entries.now) c.args.live c.in_ok-first.first c.in_ok-second.second c.and.result c.and-2.result c.args.walk.now c.walk_node.new.walk c.push.new.walk c.walk_one.new.walk c.pop.new.walk (traced_of c.args.left.now) (traced_of c.args.right.now) c.args.left.now.ty c.args.bytes
    c.in_ok-first.ensures (type_of_traced c.args.left.now) c.in_ok-push.ensures c.and.ensures c.in_ok-second.ensures c.pop.ensures c.and-2.ensures

pub walk_binary-returns : goal.walk_binary-returns
walk_binary-returns t c = binary_value c.args.locals.now (set_of c.args.entries.now) c.args.live c.in_ok-goes.goes c.args.walk.now c.walk_two.new.walk (traced_of c.args.left.now) (traced_of c.args.right.now) c.in_ok-goes.ensures

pub walk_discarded-returns : goal.walk_discarded-returns
walk_discarded-returns t c =
    with_line c.args.locals.now (set_of c.args.entries.now) c.args.live c.in_ok-goes.goes c.and.result c.args.walk.now c.walk_node.new.walk c.push.new.walk c.pass_discard.new.walk c.pop.new.walk (traced_of c.args.value.now) c.args.value.now.ty (discards c.args.value.now.ty)
    c.in_ok-goes.ensures (type_of_traced c.args.value.now) c.in_ok-push.ensures c.and.ensures c.in_ok-pass_discard.ensures c.pop.ensures

pub walk_text-returns : goal.walk_text-returns
walk_text-returns t c =
    with_line c.args.locals.now (set_of c.args.entries.now) c.args.live c.in_ok-goes.goes c.and.result c.args.walk.now c.walk_node.new.walk c.push.new.walk c.pass_to_text.new.walk c.pop.new.walk (traced_of c.args.part.now) c.args.part.now.ty (to_text c.args.part.now.ty)
    c.in_ok-goes.ensures (type_of_traced c.args.part.now) c.in_ok-push.ensures c.and.ensures c.in_ok-pass_to_text.ensures c.pop.ensures

pub walk_compared-returns : goal.walk_compared-returns
walk_compared-returns t c =
    compared_value c.args.locals.now (set_of c.args.entries.now) c.args.live c.in_ok-goes.goes c.args.walk.now c.walk_two.new.walk (traced_of c.args.left.now) (traced_of c.args.right.now) _ c.in_ok-goes.ensures refl refl (c.in_ok-copied.ensures ∙ c.deref.ensures.value)

pub walk_plain_test-returns : goal.walk_plain_test-returns
walk_plain_test-returns t c =
    plain_value c.args.locals.now (set_of c.args.entries.now) c.args.live c.in_ok-goes.goes c.args.walk.now c.walk_one.new.walk (traced_of c.args.node.now) _ c.in_ok-goes.ensures refl refl (c.in_ok-copied.ensures ∙ c.deref.ensures.value)

pub walk_either-returns : goal.walk_either-returns
walk_either-returns t c =
    either_does c.args.locals.now (set_of c.args.entries.now) c.args.live c.and.result c.and-2.result c.in_ok-first.first c.in_ok-second.second c.and-3.result c.args.walk.now c.walk_test.new.walk c.walk_one.new.walk c.enter-assigned.new.walk c.walk_node.new.walk c.meet.new.walk (set_of c.deref.result.now) (traced_of c.args.test.now) (traced_of c.args.held.now) (traced_of c.args.failed.now) c.in_ok-branch.branch
    c.in_ok-branch.ensures c.and.ensures c.in_ok-first.ensures c.enter-assigned.ensures.moves (ap set_of (c.deref.ensures.value ∙ c.enter-assigned.ensures.before)) c.and-2.ensures c.in_ok-second.ensures c.in_ok-meet.ensures (c.and-3.ensures ∙ ap (λ b. c.in_ok-branch.branch.goes && b) c.or.ensures)

pub walk_condition-returns-then-is_true : goal.walk_condition-returns-then-is_true
walk_condition-returns-then-is_true t c =
    let always = ap (λ x. x.always) (emitted_is c.args.test.now) ∙ sym c.is_true.ensures ∙ c.if-is_true.true in
    condition_true c.args.locals.now (set_of c.args.entries.now) c.args.live c.args.walk.now (traced_of c.args.test.now) _ always (ap (λ x. x.goes_on) (emitted_is c.args.test.now) ∙ (filled c.args.test.now).always (sym c.is_true.ensures ∙ c.if-is_true.true)) refl refl (c.in_ok-copied.ensures ∙ c.deref.ensures.value) (walks_none c.args.locals.now (set_of c.args.entries.now) c.args.live c.args.walk.now c.args.walk.now (known_of c.args.walk.now) (record { at = refl; frames = refl; known = refl }))

pub walk_condition-returns : goal.walk_condition-returns
walk_condition-returns t c =
    condition_false c.args.locals.now (set_of c.args.entries.now) c.args.live c.args.walk.now c.walk_test.new.walk (traced_of c.args.test.now) c.in_ok-branch.branch (ap (λ x. x.always) (emitted_is c.args.test.now) ∙ sym c.is_true.ensures ∙ c.if-is_true.false) c.in_ok-branch.ensures

pub walk_if-returns : goal.walk_if-returns
walk_if-returns t c =
    if_does c.args.locals.now (set_of c.args.entries.now) c.args.live c.and.result c.in_ok-goes.goes c.choose.result c.is_true.result c.args.walk.now c.walk_condition.new.walk c.walk_node.new.walk c.meet.new.walk (traced_of c.args.test.now) (traced_of c.args.held.now) c.in_ok-branch.branch
    c.in_ok-branch.ensures c.and.ensures c.in_ok-goes.ensures
    (let m = c.in_ok-meet.ensures in record { at = m.at; frames = m.frames; known = m.known ∙ ap (λ w. with_assigned (meeting c.in_ok-branch.branch.exits (set_of w) (known_of c.walk_node.new.walk).assigned) (known_of c.walk_node.new.walk)) c.deref.ensures.value })
    (c.is_true.ensures ∙ sym (ap (λ x. x.always) (emitted_is c.args.test.now))) c.choose.ensures

pub walk_if_else-returns-in_ok-goes : goal.walk_if_else-returns-in_ok-goes
walk_if_else-returns-in_ok-goes t c =
    always_does c.args.locals.now (set_of c.args.entries.now) c.args.live c.in_ok-goes.goes c.args.walk.now c.walk_node.new.walk (traced_of c.args.test.now) (traced_of c.args.held.now) (traced_of c.args.failed.now) (ap (λ x. x.always) (emitted_is c.args.test.now) ∙ sym c.is_true.ensures ∙ c.if-is_true.true) c.in_ok-goes.ensures

pub walk_in_turn-loop-i-init : goal.walk_in_turn-loop-i-init
walk_in_turn-loop-i-init t c =
    (partly_start c.args.locals.now (set_of c.args.entries.now) c.args.live c.args.walk.now (in_turn (emitted_all (map traced_of c.args.parts.now))) (in_turn_traced (map traced_of c.args.parts.now)), refl)

pub walk_in_turn-loop-i-preserved : goal.walk_in_turn-loop-i-preserved
walk_in_turn-loop-i-preserved t c =
    turn_on c.args.locals.now (set_of c.args.entries.now) c.args.live c.loop-i.on c.in_ok-goes.goes c.and.result c.and-on.result c.args.walk.now c.loop-i.walk c.walk_turn.new.walk c.args.parts.now c.loop-i.i c.index-parts-i.result (nat_eq (c.loop-i.i + 1) (length c.args.parts.now)) (in_turn (emitted_all (map traced_of c.args.parts.now))) (in_turn_traced (map traced_of c.args.parts.now))
    c.loop-i-test.true c.index-parts-i.is (eqb-true (c.loop-i.i + 1) (length c.args.parts.now)) (eqb-false (c.loop-i.i + 1) (length c.args.parts.now)) c.loop-i.invariant c.and.ensures c.in_ok-goes.ensures c.and-on.ensures

pub walk_in_turn-returns : goal.walk_in_turn-returns
walk_in_turn-returns t c =
    block_does c.args.locals.now (set_of c.args.entries.now) c.args.live c.loop-i.on c.args.walk.now c.loop-i.walk c.args.parts.now c.loop-i.i c.loop-i-test.false c.loop-i.invariant

pub walk_joined-returns : goal.walk_joined-returns
walk_joined-returns t c =
    text_does c.args.locals.now (set_of c.args.entries.now) c.args.live c.and.result c.in_ok-goes.goes c.args.walk.now c.walk_text.new.walk c.push.new.walk c.join_behind.new.walk (traced_of c.args.part.now) c.args.part.now.ty c.args.first (type_of_traced c.args.part.now) c.in_ok-goes.ensures c.in_ok-push.ensures c.and.ensures c.in_ok-join_behind.ensures

pub walk_value-returns : goal.walk_value-returns
walk_value-returns t c =
    value_does c.args.locals.now (set_of c.args.entries.now) c.args.live c.in_ok-goes.goes c.args.walk.now c.walk_node.new.walk c.push.new.walk (traced_of c.args.value.now) c.args.value.now.ty (type_of_traced c.args.value.now) c.in_ok-goes.ensures c.in_ok-push.ensures

pub walk_native-returns : goal.walk_native-returns
walk_native-returns t c =
    native_does c.args.locals.now (set_of c.args.entries.now) c.args.live c.and.result c.in_ok-goes.goes c.args.walk.now c.walk_values.new.walk c.push.new.walk c.pass.new.walk c.pop.new.walk (map traced_of c.args.arguments.now) c.in_ok-goes.ensures c.in_ok-push.ensures c.and.ensures c.in_ok-pass.ensures c.pop.ensures

pub walk_texts-returns-then-is_empty : goal.walk_texts-returns-then-is_empty
walk_texts-returns-then-is_empty t c =
    no_texts c.args.locals.now (set_of c.args.entries.now) c.args.live c.args.walk.now c.pass.new.walk c.args.parts.now (nil_from_length c.args.parts.now (eqb-true (length c.args.parts.now) 0 (sym c.if-is_empty.ensures))) c.in_ok-pass.ensures

pub walk_texts-loop-i-init : goal.walk_texts-loop-i-init
walk_texts-loop-i-init t c =
    (partly_start c.args.locals.now (set_of c.args.entries.now) c.args.live c.args.walk.now (texts (emitted_all (map traced_of c.args.parts.now))) (texts_traced (map traced_of c.args.parts.now)), refl)

pub walk_texts-loop-i-preserved : goal.walk_texts-loop-i-preserved
walk_texts-loop-i-preserved t c =
    let later = ne_eqb (c.loop-i.i + 1) 0 (λ h. omega arith) in
    subst (λ b. PartlyWalks c.args.locals.now (set_of c.args.entries.now) c.args.live c.and-on.result c.args.walk.now c.walk_joined.new.walk (texts_from b (emitted_all (map traced_of (drop (c.loop-i.i + 1) c.args.parts.now)))) (texts (emitted_all (map traced_of c.args.parts.now))) (texts_traced_from b (map traced_of (drop (c.loop-i.i + 1) c.args.parts.now))) (texts_traced (map traced_of c.args.parts.now)) × ((known_of c.walk_joined.new.walk).stack ≡ texts_stack b (known_of c.args.walk.now).stack)) (sym later)
    (text_on c.args.locals.now (set_of c.args.entries.now) c.args.live c.loop-i.on c.in_ok-goes.goes c.and.result c.and-on.result c.args.walk.now c.loop-i.walk c.walk_joined.new.walk c.args.parts.now c.loop-i.i c.index-parts-i.result (nat_eq c.loop-i.i 0) (texts (emitted_all (map traced_of c.args.parts.now))) (texts_traced (map traced_of c.args.parts.now))
    c.loop-i-test.true c.index-parts-i.is c.loop-i.invariant c.and.ensures c.in_ok-goes.ensures c.and-on.ensures)

pub walk_texts-returns : goal.walk_texts-returns
walk_texts-returns t c =
    let later = ne_eqb c.loop-i.i 0 (λ h. eqb-false (length c.args.parts.now) 0 (sym c.if-is_empty.ensures) (let le = c.loop-i-test.false in omega (arith, h, le))) in
    texts_do c.args.locals.now (set_of c.args.entries.now) c.args.live c.loop-i.on c.args.walk.now c.loop-i.walk c.pop.new.walk c.args.parts.now c.loop-i.i (nat_eq c.loop-i.i 0) c.loop-i-test.false later c.loop-i.invariant c.pop.ensures

pub walk_values-loop-value-init : goal.walk_values-loop-value-init
walk_values-loop-value-init t c =
    (partly_start c.args.locals.now (set_of c.args.entries.now) c.args.live c.args.walk.now (values (emitted_all (map traced_of c.args.arguments.now))) (values_traced (map traced_of c.args.arguments.now)), ([], refl))

pub walk_values-loop-value-preserved : goal.walk_values-loop-value-preserved
walk_values-loop-value-preserved t c =
    value_on c.args.locals.now (set_of c.args.entries.now) c.args.live c.loop-value.on c.in_ok-goes.goes c.and.result c.and-on.result c.args.walk.now c.loop-value.walk c.walk_value.new.walk c.args.arguments.now c.loop-value.value-index c.value-item.result (values (emitted_all (map traced_of c.args.arguments.now))) (values_traced (map traced_of c.args.arguments.now))
    c.loop-value-test.true c.value-item.is c.loop-value.invariant c.and.ensures c.in_ok-goes.ensures c.and-on.ensures

pub walk_values-returns : goal.walk_values-returns
walk_values-returns t c =
    let height : c.len-height.result ≡ length c.args.walk.now.stack.items = search in
    values_do c.args.locals.now (set_of c.args.entries.now) c.args.live c.loop-value.on c.args.walk.now c.loop-value.walk c.restore.new.walk c.args.arguments.now c.loop-value.value-index c.len-height.result c.loop-value-test.false c.loop-value.invariant (height ∙ sym (length-map (reverse c.args.walk.now.stack.items) operand_type ∙ length-reverse c.args.walk.now.stack.items)) c.restore.ensures

pub walk_while-returns : goal.walk_while-returns
walk_while-returns t c =
    while_does c.args.locals.now (set_of c.args.entries.now) c.args.live c.and-on.result c.and.result c.in_ok-returns.returns c.and-2.result (not c.is_true.result) c.args.walk.now c.walk_condition.new.walk c.walk_discarded.new.walk c.pass.new.walk c.enter.new.walk (traced_of c.args.test.now) (traced_of c.args.body.now) c.args.body.now.ty c.in_ok-branch.branch
    c.in_ok-branch.ensures c.and-on.ensures (type_of_traced c.args.body.now) c.in_ok-returns.ensures c.and.ensures c.in_ok-pass.ensures c.enter.ensures.moves (ap not (c.is_true.ensures ∙ sym (ap (λ x. x.always) (emitted_is c.args.test.now)))) c.and-2.ensures

pub walk_turn-returns-in_ok-goes : goal.walk_turn-returns-in_ok-goes
walk_turn-returns-in_ok-goes t c =
    subst (λ b. DoesLine c.args.locals.now (set_of c.args.entries.now) c.args.live c.args.walk.now c.walk_node.new.walk (traced_of c.args.part.now) (after_part b c.args.part.now.ty) (in_line (after_part b c.args.part.now.ty)) c.in_ok-goes.goes) (sym c.if-is_last.true) (last_turn c.args.locals.now (set_of c.args.entries.now) c.args.live c.in_ok-goes.goes c.args.walk.now c.walk_node.new.walk (traced_of c.args.part.now) c.in_ok-goes.ensures)

pub walk_short-returns : goal.walk_short-returns
walk_short-returns t c =
    short_tests c.args.locals.now (set_of c.args.entries.now) c.args.decisive c.args.when (traced_of c.args.left.now) (traced_of c.args.right.now) c.args.live c.and.result c.and-2.result c.and-5.result c.args.walk.now c.walk_test.new.walk c.walk_test-2.new.walk c.meet.new.walk c.in_ok-first.first c.in_ok-second.second _
    c.in_ok-first.ensures c.and.ensures c.in_ok-second.ensures (c.and-2.ensures ∙ ap (λ b. not b && c.in_ok-first.first.exits) c.same-beyond.ensures)
    (let m = c.in_ok-meet.ensures in record { at = m.at; frames = m.frames; known = m.known ∙ ap (λ w. with_assigned (meeting c.and-2.result (set_of w) (known_of c.walk_test-2.new.walk).assigned) (known_of c.walk_test-2.new.walk)) c.deref.ensures.value })
    refl (c.or.ensures ∙ ap (λ b. b || c.and-4.result) (c.and-3.ensures ∙ ap (λ b. b && c.in_ok-first.first.exits) c.same-beyond.ensures) ∙ ap (λ b. (same c.args.when c.args.decisive && c.in_ok-first.first.exits) || b) c.and-4.ensures)
    (c.and-5.ensures ∙ ap (λ b. b && c.in_ok-first.first.exits) c.same-beyond.ensures) (c.in_ok-meeting.ensures ∙ ap (λ w. meeting c.and-5.result (set_of w) (set_of c.in_ok-second.second.jumped.items)) c.deref-2.ensures.value)

pub walk_node-returns-in_ok-pass-in-IntLit : goal.walk_node-returns-in_ok-pass-in-IntLit
walk_node-returns-in_ok-pass-in-IntLit t c =
    node_does c.args.locals.now (set_of c.args.entries.now) c.args.node.now (Kind-F.IntLit c.in-IntLit.n) c.args.live true c.args.walk.now c.pass.new.walk (ap out-Kind c.in-IntLit.is ∙ outs-IntLit c.in-IntLit.n)
    (λ ty. let f : SFits w32 c.in-IntLit.n = search rules in let e : int_bytes c.in-IntLit.n ≡ c.int_size.result = sym (c.int_size.ensures ∙ ap int_bytes (to_z-of_z w32 c.in-IntLit.n f)) in let r = c.in_ok-pass-in-IntLit.ensures (PushInt c.in-IntLit.n) e in record { goes_is = refl; walks = record { even = r.even; at = r.at; frames = r.frames; known = r.known } })

pub walk_node-returns-in_ok-pass-in-StrLit : goal.walk_node-returns-in_ok-pass-in-StrLit
walk_node-returns-in_ok-pass-in-StrLit t c =
    node_does c.args.locals.now (set_of c.args.entries.now) c.args.node.now (Kind-F.StrLit c.in-StrLit.field-0) c.args.live true c.args.walk.now c.pass-in-StrLit.new.walk (ap out-Kind c.in-StrLit.is ∙ outs-StrLit c.in-StrLit.field-0)
    (λ ty. let r = c.in_ok-pass-in-StrLit.ensures (PushText c.in-StrLit.field-0) refl in record { goes_is = refl; walks = record { even = r.even; at = r.at; frames = r.frames; known = r.known } })

pub walk_node-returns-in_ok-pass-in-BoolLit : goal.walk_node-returns-in_ok-pass-in-BoolLit
walk_node-returns-in_ok-pass-in-BoolLit t c =
    node_does c.args.locals.now (set_of c.args.entries.now) c.args.node.now (Kind-F.BoolLit c.in-BoolLit.field-0) c.args.live true c.args.walk.now c.pass-in-BoolLit.new.walk (ap out-Kind c.in-BoolLit.is ∙ outs-BoolLit c.in-BoolLit.field-0)
    (λ ty. let r = c.in_ok-pass-in-BoolLit.ensures (PushInt (bit c.in-BoolLit.field-0)) (bit_bytes c.in-BoolLit.field-0) in record { goes_is = refl; walks = record { even = r.even; at = r.at; frames = r.frames; known = r.known } })

pub walk_node-returns-in-LocalWrite : goal.walk_node-returns-in-LocalWrite
walk_node-returns-in-LocalWrite t c =
    IfOk-weaker c.walk_stored.result _ _ (λ g d. node_does c.args.locals.now (set_of c.args.entries.now) c.args.node.now (Kind-F.LocalWrite c.in-LocalWrite.local c.get.result.now) c.args.live g c.args.walk.now c.walk_stored.new.walk (ap out-Kind c.in-LocalWrite.is ∙ outs-LocalWrite c.in-LocalWrite.local c.in-LocalWrite.value ∙ ap (λ v. Kind-F.LocalWrite c.in-LocalWrite.local v) (sym c.get.ensures)) d) c.walk_stored.ensures

pub walk_node-returns-in-Declare : goal.walk_node-returns-in-Declare
walk_node-returns-in-Declare t c =
    IfOk-weaker c.walk_declared.result _ _ (λ g d. node_does c.args.locals.now (set_of c.args.entries.now) c.args.node.now (Kind-F.Declare c.in-Declare.local c.in-Declare.value) c.args.live g c.args.walk.now c.walk_declared.new.walk (ap out-Kind c.in-Declare.is ∙ outs-Declare c.in-Declare.local c.in-Declare.value) (declared_any c.args.locals.now (set_of c.args.entries.now) c.args.live g c.args.walk.now c.walk_declared.new.walk c.in-Declare.local c.in-Declare.value d)) c.walk_declared.ensures

pub walk_node-returns-in-NumBinary : goal.walk_node-returns-in-NumBinary
walk_node-returns-in-NumBinary t c =
    IfOk-weaker c.walk_binary.result _ _ (λ g d. node_does c.args.locals.now (set_of c.args.entries.now) c.args.node.now (Kind-F.NumBinary c.in-NumBinary.op c.get-in-NumBinary.result.now c.get-in-NumBinary-2.result.now) c.args.live g c.args.walk.now c.walk_binary.new.walk (ap out-Kind c.in-NumBinary.is ∙ outs-NumBinary c.in-NumBinary.op c.in-NumBinary.left c.in-NumBinary.right ∙ ap (λ v. Kind-F.NumBinary c.in-NumBinary.op v c.in-NumBinary.right) (sym c.get-in-NumBinary.ensures) ∙ ap (λ v. Kind-F.NumBinary c.in-NumBinary.op c.get-in-NumBinary.result.now v) (sym c.get-in-NumBinary-2.ensures)) (d c.in-NumBinary.op)) c.walk_binary.ensures

pub walk_node-returns-in-NumUnary-Minus-default : goal.walk_node-returns-in-NumUnary-Minus-default
walk_node-returns-in-NumUnary-Minus-default t c =
    IfOk-weaker c.walk_negate.result _ _ (λ g d. node_does c.args.locals.now (set_of c.args.entries.now) c.args.node.now (Kind-F.NumUnary c.in-NumUnary-Minus-default.op c.get-in-NumUnary-Minus-default.result.now) c.args.live g c.args.walk.now c.walk_negate.new.walk (ap out-Kind c.in-NumUnary-Minus-default.is ∙ outs-NumUnary c.in-NumUnary-Minus-default.op c.in-NumUnary-Minus-default.value ∙ ap (λ v. Kind-F.NumUnary c.in-NumUnary-Minus-default.op v) (sym c.get-in-NumUnary-Minus-default.ensures)) (minus_any c.args.locals.now (set_of c.args.entries.now) c.args.live g c.args.walk.now c.walk_negate.new.walk (traced_of c.get-in-NumUnary-Minus-default.result.now) c.in-NumUnary-Minus-default.op d)) c.walk_negate.ensures

pub walk_node-returns-in_ok-goes-in-NumCompare : goal.walk_node-returns-in_ok-goes-in-NumCompare
walk_node-returns-in_ok-goes-in-NumCompare t c =
    node_does c.args.locals.now (set_of c.args.entries.now) c.args.node.now (Kind-F.NumCompare c.in-NumCompare.order c.get-in-NumCompare.result.now c.get-in-NumCompare-2.result.now) c.args.live c.in_ok-goes-in-NumCompare.goes c.args.walk.now c.walk_truth.new.walk (ap out-Kind c.in-NumCompare.is ∙ outs-NumCompare c.in-NumCompare.order c.in-NumCompare.left c.in-NumCompare.right ∙ ap (λ v. Kind-F.NumCompare c.in-NumCompare.order v c.in-NumCompare.right) (sym c.get-in-NumCompare.ensures) ∙ ap (λ v. Kind-F.NumCompare c.in-NumCompare.order c.get-in-NumCompare.result.now v) (sym c.get-in-NumCompare-2.ensures))
    (λ ty. compared_does c.args.locals.now (set_of c.args.entries.now) (traced_of c.get-in-NumCompare.result.now) (traced_of c.get-in-NumCompare-2.result.now) (λ w. test_of w c.in-NumCompare.order) ty c.args.live c.in_ok-goes-in-NumCompare.goes c.args.walk.now c.walk_compared.new.walk c.walk_truth.new.walk c.in_ok-branch-in-NumCompare.branch c.in_ok-branch-in-NumCompare.ensures c.in_ok-goes-in-NumCompare.ensures.goes c.in_ok-goes-in-NumCompare.ensures.passes)

pub walk_node-returns-in_ok-goes-in-Equal : goal.walk_node-returns-in_ok-goes-in-Equal
walk_node-returns-in_ok-goes-in-Equal t c =
    node_does c.args.locals.now (set_of c.args.entries.now) c.args.node.now (Kind-F.Equal c.get-in-Equal.result.now c.get-in-Equal-2.result.now) c.args.live c.in_ok-goes-in-Equal.goes c.args.walk.now c.walk_truth-in-Equal.new.walk (ap out-Kind c.in-Equal.is ∙ outs-Equal c.in-Equal.left c.in-Equal.right ∙ ap (λ v. Kind-F.Equal v c.in-Equal.right) (sym c.get-in-Equal.ensures) ∙ ap (λ v. Kind-F.Equal c.get-in-Equal.result.now v) (sym c.get-in-Equal-2.ensures))
    (λ ty. compared_does c.args.locals.now (set_of c.args.entries.now) (traced_of c.get-in-Equal.result.now) (traced_of c.get-in-Equal-2.result.now) equal_test ty c.args.live c.in_ok-goes-in-Equal.goes c.args.walk.now c.walk_compared-in-Equal.new.walk c.walk_truth-in-Equal.new.walk c.in_ok-branch-in-Equal.branch c.in_ok-branch-in-Equal.ensures c.in_ok-goes-in-Equal.ensures.goes c.in_ok-goes-in-Equal.ensures.passes)

pub walk_node-returns-in_ok-goes-in-Not : goal.walk_node-returns-in_ok-goes-in-Not
walk_node-returns-in_ok-goes-in-Not t c =
    node_does c.args.locals.now (set_of c.args.entries.now) c.args.node.now (Kind-F.Not c.get-in-Not.result.now) c.args.live c.in_ok-goes-in-Not.goes c.args.walk.now c.walk_truth-in-Not.new.walk (ap out-Kind c.in-Not.is ∙ outs-Not c.in-Not.value ∙ ap (λ v. Kind-F.Not v) (sym c.get-in-Not.ensures))
    (λ ty. negated_does c.args.locals.now (set_of c.args.entries.now) (traced_of c.get-in-Not.result.now) ty c.args.live c.in_ok-goes-in-Not.goes c.args.walk.now c.walk_test.new.walk c.walk_truth-in-Not.new.walk c.in_ok-branch-in-Not.branch c.in_ok-branch-in-Not.ensures c.in_ok-goes-in-Not.ensures.goes c.in_ok-goes-in-Not.ensures.passes)

pub walk_node-returns-in_ok-goes-in-And : goal.walk_node-returns-in_ok-goes-in-And
walk_node-returns-in_ok-goes-in-And t c =
    node_does c.args.locals.now (set_of c.args.entries.now) c.args.node.now (Kind-F.And c.get-in-And.result.now c.get-in-And-2.result.now) c.args.live c.in_ok-goes-in-And.goes c.args.walk.now c.walk_truth-in-And.new.walk (ap out-Kind c.in-And.is ∙ outs-And c.in-And.left c.in-And.right ∙ ap (λ v. Kind-F.And v c.in-And.right) (sym c.get-in-And.ensures) ∙ ap (λ v. Kind-F.And c.get-in-And.result.now v) (sym c.get-in-And-2.ensures))
    (λ ty. short_does c.args.locals.now (set_of c.args.entries.now) false (traced_of c.get-in-And.result.now) (traced_of c.get-in-And-2.result.now) ty c.args.live c.in_ok-goes-in-And.goes c.args.walk.now c.walk_short.new.walk c.walk_truth-in-And.new.walk c.in_ok-branch-in-And.branch (c.in_ok-branch-in-And.ensures ty) c.in_ok-goes-in-And.ensures.goes c.in_ok-goes-in-And.ensures.passes)

pub walk_node-returns-in_ok-goes-in-Or : goal.walk_node-returns-in_ok-goes-in-Or
walk_node-returns-in_ok-goes-in-Or t c =
    node_does c.args.locals.now (set_of c.args.entries.now) c.args.node.now (Kind-F.Or c.get-in-Or.result.now c.get-in-Or-2.result.now) c.args.live c.in_ok-goes-in-Or.goes c.args.walk.now c.walk_truth-in-Or.new.walk (ap out-Kind c.in-Or.is ∙ outs-Or c.in-Or.left c.in-Or.right ∙ ap (λ v. Kind-F.Or v c.in-Or.right) (sym c.get-in-Or.ensures) ∙ ap (λ v. Kind-F.Or c.get-in-Or.result.now v) (sym c.get-in-Or-2.ensures))
    (λ ty. short_does c.args.locals.now (set_of c.args.entries.now) true (traced_of c.get-in-Or.result.now) (traced_of c.get-in-Or-2.result.now) ty c.args.live c.in_ok-goes-in-Or.goes c.args.walk.now c.walk_short-in-Or.new.walk c.walk_truth-in-Or.new.walk c.in_ok-branch-in-Or.branch (c.in_ok-branch-in-Or.ensures ty) c.in_ok-goes-in-Or.ensures.goes c.in_ok-goes-in-Or.ensures.passes)

pub walk_node-returns-in-Concat : goal.walk_node-returns-in-Concat
walk_node-returns-in-Concat t c =
    IfOk-weaker c.walk_texts.result _ _ (λ g d. node_does c.args.locals.now (set_of c.args.entries.now) c.args.node.now (Kind-F.Concat c.as_slice.result.now) c.args.live g c.args.walk.now c.walk_texts.new.walk (ap out-Kind c.in-Concat.is ∙ outs-Concat c.in-Concat.parts ∙ ap (λ v. Kind-F.Concat v) (sym c.as_slice.ensures)) d) c.walk_texts.ensures

pub walk_node-returns-in-CallNative-ConsoleWrite-default : goal.walk_node-returns-in-CallNative-ConsoleWrite-default
walk_node-returns-in-CallNative-ConsoleWrite-default t c =
    IfOk-weaker c.walk_native.result _ _ (λ g d. node_does c.args.locals.now (set_of c.args.entries.now) c.args.node.now (Kind-F.CallNative c.in-CallNative-ConsoleWrite-default.native c.as_slice-in-CallNative-ConsoleWrite-default.result.now) c.args.live g c.args.walk.now c.walk_native.new.walk (ap out-Kind c.in-CallNative-ConsoleWrite-default.is ∙ outs-CallNative c.in-CallNative-ConsoleWrite-default.native c.in-CallNative-ConsoleWrite-default.values ∙ ap (λ v. Kind-F.CallNative c.in-CallNative-ConsoleWrite-default.native v) (sym c.as_slice-in-CallNative-ConsoleWrite-default.ensures)) (native_any c.args.locals.now (set_of c.args.entries.now) c.args.live g c.args.walk.now c.walk_native.new.walk (map traced_of c.as_slice-in-CallNative-ConsoleWrite-default.result.now) c.in-CallNative-ConsoleWrite-default.native d)) c.walk_native.ensures

pub walk_node-returns-in-Block : goal.walk_node-returns-in-Block
walk_node-returns-in-Block t c =
    IfOk-weaker c.walk_in_turn.result _ _ (λ g d. node_does c.args.locals.now (set_of c.args.entries.now) c.args.node.now (Kind-F.Block c.as_slice-in-Block.result.now) c.args.live g c.args.walk.now c.walk_in_turn.new.walk (ap out-Kind c.in-Block.is ∙ outs-Block c.in-Block.parts ∙ ap (λ v. Kind-F.Block v) (sym c.as_slice-in-Block.ensures)) d) c.walk_in_turn.ensures

pub walk_node-returns-in-If : goal.walk_node-returns-in-If
walk_node-returns-in-If t c =
    IfOk-weaker c.walk_choice.result _ _ (λ g d. node_does c.args.locals.now (set_of c.args.entries.now) c.args.node.now (Kind-F.If c.get-in-If.result.now c.get-in-If-2.result.now c.in-If.failed) c.args.live g c.args.walk.now c.walk_choice.new.walk (ap out-Kind c.in-If.is ∙ outs-If c.in-If.test c.in-If.held c.in-If.failed ∙ ap (λ v. Kind-F.If v c.in-If.held c.in-If.failed) (sym c.get-in-If.ensures) ∙ ap (λ v. Kind-F.If c.get-in-If.result.now v c.in-If.failed) (sym c.get-in-If-2.ensures)) (choice_any c.args.locals.now (set_of c.args.entries.now) c.args.live g c.args.walk.now c.walk_choice.new.walk c.get-in-If.result.now c.get-in-If-2.result.now c.in-If.failed d)) c.walk_choice.ensures

pub walk_node-returns-in_ok-goes-in-While : goal.walk_node-returns-in_ok-goes-in-While
walk_node-returns-in_ok-goes-in-While t c =
    node_does c.args.locals.now (set_of c.args.entries.now) c.args.node.now (Kind-F.While c.in-While.label c.get-in-While.result.now c.get-in-While-2.result.now) c.args.live c.in_ok-goes-in-While.goes c.args.walk.now c.walk_while.new.walk (ap out-Kind c.in-While.is ∙ outs-While c.in-While.label c.in-While.test c.in-While.body ∙ ap (λ v. Kind-F.While c.in-While.label v c.in-While.body) (sym c.get-in-While.ensures) ∙ ap (λ v. Kind-F.While c.in-While.label c.get-in-While.result.now v) (sym c.get-in-While-2.ensures)) c.in_ok-goes-in-While.ensures

pub walk_test-returns-in-NumCompare : goal.walk_test-returns-in-NumCompare
walk_test-returns-in-NumCompare t c =
    IfOk-weaker c.walk_compared.result _ _ (λ b d. node_tests c.args.locals.now (set_of c.args.entries.now) c.args.node.now (Kind-F.NumCompare c.in-NumCompare.order c.get.result.now c.get-in-NumCompare.result.now) c.args.live c.args.when c.args.walk.now c.walk_compared.new.walk b (ap out-Kind c.in-NumCompare.is ∙ outs-NumCompare c.in-NumCompare.order c.in-NumCompare.left c.in-NumCompare.right ∙ ap (λ v. Kind-F.NumCompare c.in-NumCompare.order v c.in-NumCompare.right) (sym c.get.ensures) ∙ ap (λ v. Kind-F.NumCompare c.in-NumCompare.order c.get.result.now v) (sym c.get-in-NumCompare.ensures)) (λ ty. d (λ w. test_of w c.in-NumCompare.order) ty c.args.when)) c.walk_compared.ensures

pub walk_test-returns-in-Equal : goal.walk_test-returns-in-Equal
walk_test-returns-in-Equal t c =
    IfOk-weaker c.walk_compared-in-Equal.result _ _ (λ b d. node_tests c.args.locals.now (set_of c.args.entries.now) c.args.node.now (Kind-F.Equal c.get-in-Equal.result.now c.get-in-Equal-2.result.now) c.args.live c.args.when c.args.walk.now c.walk_compared-in-Equal.new.walk b (ap out-Kind c.in-Equal.is ∙ outs-Equal c.in-Equal.left c.in-Equal.right ∙ ap (λ v. Kind-F.Equal v c.in-Equal.right) (sym c.get-in-Equal.ensures) ∙ ap (λ v. Kind-F.Equal c.get-in-Equal.result.now v) (sym c.get-in-Equal-2.ensures)) (λ ty. d equal_test ty c.args.when)) c.walk_compared-in-Equal.ensures

pub walk_test-returns-in-And : goal.walk_test-returns-in-And
walk_test-returns-in-And t c =
    IfOk-weaker c.walk_short.result _ _ (λ b d. node_tests c.args.locals.now (set_of c.args.entries.now) c.args.node.now (Kind-F.And c.get-in-And.result.now c.get-in-And-2.result.now) c.args.live c.args.when c.args.walk.now c.walk_short.new.walk b (ap out-Kind c.in-And.is ∙ outs-And c.in-And.left c.in-And.right ∙ ap (λ v. Kind-F.And v c.in-And.right) (sym c.get-in-And.ensures) ∙ ap (λ v. Kind-F.And c.get-in-And.result.now v) (sym c.get-in-And-2.ensures)) d) c.walk_short.ensures

pub walk_test-returns-in-Or : goal.walk_test-returns-in-Or
walk_test-returns-in-Or t c =
    IfOk-weaker c.walk_short-in-Or.result _ _ (λ b d. node_tests c.args.locals.now (set_of c.args.entries.now) c.args.node.now (Kind-F.Or c.get-in-Or.result.now c.get-in-Or-2.result.now) c.args.live c.args.when c.args.walk.now c.walk_short-in-Or.new.walk b (ap out-Kind c.in-Or.is ∙ outs-Or c.in-Or.left c.in-Or.right ∙ ap (λ v. Kind-F.Or v c.in-Or.right) (sym c.get-in-Or.ensures) ∙ ap (λ v. Kind-F.Or c.get-in-Or.result.now v) (sym c.get-in-Or-2.ensures)) d) c.walk_short-in-Or.ensures

pub walk_test-returns-in-IntLit : goal.walk_test-returns-in-IntLit
walk_test-returns-in-IntLit t c =
    let f = λ (y : Kind-F Kind Core) (o : out-Kind c.args.node.now.kind ≡ y) (p : is_plain y ≡ true). IfOk-weaker c.walk_plain_test.result _ _ (λ b d. d (plain_node c.args.node.now y o p) c.args.when) c.walk_plain_test.ensures in
    ⊎_elim (λ x. f (Kind-F.IntLit x.0) (ap out-Kind x.1 ∙ outs-IntLit x.0) refl)
    (⊎_elim (λ x. f (Kind-F.StrLit x.0) (ap out-Kind x.1 ∙ outs-StrLit x.0) refl)
    (⊎_elim (λ x. f (Kind-F.BoolLit x.0) (ap out-Kind x.1 ∙ outs-BoolLit x.0) refl)
    (⊎_elim (λ x. f (Kind-F.LocalRead x.0) (ap out-Kind x.1 ∙ outs-LocalRead x.0) refl)
    (⊎_elim (λ x. f (Kind-F.LocalWrite x.0 x.1) (ap out-Kind x.2 ∙ outs-LocalWrite x.0 x.1) refl)
    (⊎_elim (λ x. f (Kind-F.Declare x.0 x.1) (ap out-Kind x.2 ∙ outs-Declare x.0 x.1) refl)
    (⊎_elim (λ x. f (Kind-F.NumBinary x.0 x.1 x.2) (ap out-Kind x.3 ∙ outs-NumBinary x.0 x.1 x.2) refl)
    (⊎_elim (λ x. f (Kind-F.NumUnary x.0 x.1) (ap out-Kind x.2 ∙ outs-NumUnary x.0 x.1) refl)
    (⊎_elim (λ x. f (Kind-F.Concat x.0) (ap out-Kind x.1 ∙ outs-Concat x.0) refl)
    (⊎_elim (λ x. f (Kind-F.CallNative x.0 x.1) (ap out-Kind x.2 ∙ outs-CallNative x.0 x.1) refl)
    (⊎_elim (λ x. f (Kind-F.Block x.0) (ap out-Kind x.1 ∙ outs-Block x.0) refl)
    (⊎_elim (λ x. f (Kind-F.If x.0 x.1 x.2) (ap out-Kind x.3 ∙ outs-If x.0 x.1 x.2) refl)
    (λ x. f (Kind-F.While x.0 x.1 x.2) (ap out-Kind x.3 ∙ outs-While x.0 x.1 x.2) refl)))))))))))) c.in-IntLit.is

pub walk_declared-returns-in-None : goal.walk_declared-returns-in-None
walk_declared-returns-in-None t c =
    subst (λ (o : Option Core). DoesKind c.args.locals.now (set_of c.args.entries.now) c.args.live c.args.walk.now c.args.walk.now (declare_layer c.args.local o) true) (sym c.in-None.is) (undeclared c.args.locals.now (set_of c.args.entries.now) c.args.live c.args.walk.now c.args.local (walks_none c.args.locals.now (set_of c.args.entries.now) c.args.live c.args.walk.now c.args.walk.now (known_of c.args.walk.now) (record { at = refl; frames = refl; known = refl })))

pub walk_declared-returns-in_ok-goes-in-Some : goal.walk_declared-returns-in_ok-goes-in-Some
walk_declared-returns-in_ok-goes-in-Some t c =
    subst (λ (o : Option Core). DoesKind c.args.locals.now (set_of c.args.entries.now) c.args.live c.args.walk.now c.walk_stored.new.walk (declare_layer c.args.local o) c.in_ok-goes-in-Some.goes) (ap Some c.get.ensures ∙ sym c.in-Some.is) c.in_ok-goes-in-Some.ensures

pub walk_choice-returns-in_ok-goes-in-None : goal.walk_choice-returns-in_ok-goes-in-None
walk_choice-returns-in_ok-goes-in-None t c =
    subst (λ (o : Option Core). DoesKind c.args.locals.now (set_of c.args.entries.now) c.args.live c.args.walk.now c.walk_if.new.walk (choice_layer (traced_of c.args.test.now) (traced_of c.args.held.now) o) c.in_ok-goes-in-None.goes) (sym c.in-None.is) c.in_ok-goes-in-None.ensures

pub walk_choice-returns-in_ok-goes-in-Some : goal.walk_choice-returns-in_ok-goes-in-Some
walk_choice-returns-in_ok-goes-in-Some t c =
    subst (λ (o : Option Core). DoesKind c.args.locals.now (set_of c.args.entries.now) c.args.live c.args.walk.now c.walk_if_else.new.walk (choice_layer (traced_of c.args.test.now) (traced_of c.args.held.now) o) c.in_ok-goes-in-Some.goes) (ap Some c.get.ensures ∙ sym c.in-Some.is) c.in_ok-goes-in-Some.ensures

pub walk_choice-walk_if_else-requires : goal.walk_choice-walk_if_else-requires
walk_choice-walk_if_else-requires t c =
    (wider (size-Core c.args.test.now) (size-Core c.args.held.now) (size-Core c.get.result.now) _ t (subst (λ (o : Option Core). size-Core c.get.result.now ≤ size_of o) (sym c.in-Some.is) (let e = ap size-Core c.get.ensures in omega (arith, e))) c.decreases, tt)

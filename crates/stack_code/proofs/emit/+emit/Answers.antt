use Rattle.std.proofs.Common.{Bool, Option, Some, IfOk, append-nil, pos, true, ◌≡◌, ℕ, ◌++◌, ◌∷◌, [], map, length, ap, sym, ◌∙◌, subst, arith, ◌+◌, drop, nat_eq, List, false, refl, OnOk}
use Rattle.std.specs.Prelude.{◌&&◌}
use Rattle.std.proofs.lemmas.Bool.{eqb-true, eqb-false, ne_eqb}
use Rattle.std.proofs.lemmas.Result.{on_ok_weaker}
use Rattle.class_file.specs.declared.row.Test.{Test}
use Rattle.stack_code.specs.Code.{Operation, Several, truth, over, over_size, Jump, back, bytes, discards, condition, condition_size, body_size, returns, kept_bytes, code_of, kept, two_ops, Compute, Negate, Call, JumpIf, JumpCompare, operator_of, truth_test, decided, stores, values, in_turn, texts}
use Rattle.stack_code.specs.Emission.{Emits, declared_ops, declared_goes, Partly, after_part, after_text, texts_from}
use Rattle.stack_code.specs.declared.constants.Helper.TheVariants as helper
use Rattle.stack_code.proofs.Emitting.{emits_none, emits_then, emits_truth, emits_kept, emits_alone, emits_two, partly_none, partly_on, partly_all}
use Rattle.stack_code.proofs.Parts.{on_code, on_goes, off_code, values_is, turn_is, text_is}
use Rattle.stack_code.proofs.Measuring.{measured_when}
use Rattle.kc_core.specs.declared.tree.Core.{Core}
use Rattle.kc_core.specs.declared.tree.Kind.{out-Kind}
use Rattle.kc_core.specs.declared.tree.Kind.TheViews.{outs-BoolLit, outs-LocalRead, outs-Declare}
use Rattle.stack_code.proofs.Nodes.{truth_of, read_code, declared_code, declared_on, type_of_code, compare_code, equal_code, not_code, and_code, or_code, concat_code, write_is}
use Rattle.stack_code.proofs.emit.+emit.Goals.{emit_either-then-first+in_ok-measure_of-2+in_ok-jump, emit_either-else-first, emit_while-then-branch+in_ok-discard+in_ok-jump_back, emit_while-else-branch}
use Rattle.stack_code.proofs.emit.+emit.Goals as goal

pub emit-returns-in_ok-push_bool-in-BoolLit-clause-emits : goal.emit-returns-in_ok-push_bool-in-BoolLit-clause-emits
emit-returns-in_ok-push_bool-in-BoolLit-clause-emits t c =
    subst (Emits c.args.code.now c.push_bool.new.code c.args.pool.now c.args.pool.now) (sym (truth_of c.args.node.now c.in-BoolLit.value (ap out-Kind c.in-BoolLit.is ∙ outs-BoolLit c.in-BoolLit.value))) (c.in_ok-push_bool-in-BoolLit.ensures c.args.pool.now)

pub emit-returns-in_ok-load-in-LocalRead-clause-emits : goal.emit-returns-in_ok-load-in-LocalRead-clause-emits
emit-returns-in_ok-load-in-LocalRead-clause-emits t c =
    subst (Emits c.args.code.now c.load.new.code c.args.pool.now c.args.pool.now) (sym (read_code c.args.node.now c.in-LocalRead.local (ap out-Kind c.in-LocalRead.is ∙ outs-LocalRead c.in-LocalRead.local))) (c.in_ok-load-in-LocalRead.ensures c.args.pool.now)

pub emit-returns-in-Declare-clause-goes : goal.emit-returns-in-Declare-clause-goes
emit-returns-in-Declare-clause-goes t c =
    subst (λ (g : Bool). IfOk c.emit_declared.result (λ goes. goes ≡ g)) (sym (declared_on c.args.node.now c.in-Declare.local c.in-Declare.value (ap out-Kind c.in-Declare.is ∙ outs-Declare c.in-Declare.local c.in-Declare.value))) c.emit_declared.ensures.goes

pub emit-returns-in-Declare-clause-emits : goal.emit-returns-in-Declare-clause-emits
emit-returns-in-Declare-clause-emits t c =
    subst (λ (ops : List Operation). OnOk c.emit_declared.result (Emits c.args.code.now c.emit_declared.new.code c.args.pool.now c.emit_declared.new.pool ops))
    (sym (declared_code c.args.node.now c.in-Declare.local c.in-Declare.value (ap out-Kind c.in-Declare.is ∙ outs-Declare c.in-Declare.local c.in-Declare.value))) c.emit_declared.ensures.emits

pub emit_declared-returns-in-None-clause-goes : goal.emit_declared-returns-in-None-clause-goes
emit_declared-returns-in-None-clause-goes t c = sym (ap declared_goes c.in-None.is)

pub emit_declared-returns-in-None-clause-emits : goal.emit_declared-returns-in-None-clause-emits
emit_declared-returns-in-None-clause-emits t c =
    subst (λ (o : Option Core). Emits c.args.code.now c.args.code.now c.args.pool.now c.args.pool.now (declared_ops c.args.local o)) (sym c.in-None.is) (emits_none c.args.code.now c.args.pool.now)

pub emit_declared-returns-in_ok-goes-in-Some-clause-goes : goal.emit_declared-returns-in_ok-goes-in-Some-clause-goes
emit_declared-returns-in_ok-goes-in-Some-clause-goes t c = c.in_ok-goes-in-Some.ensures.goes ∙ ap declared_goes (ap Some c.get.ensures ∙ sym c.in-Some.is)

pub emit_declared-returns-in_ok-goes-in-Some-clause-emits : goal.emit_declared-returns-in_ok-goes-in-Some-clause-emits
emit_declared-returns-in_ok-goes-in-Some-clause-emits t c =
    subst (λ (o : Option Core). Emits c.args.code.now c.emit_stored.new.code c.args.pool.now c.emit_stored.new.pool (declared_ops c.args.local o)) (ap Some c.get.ensures ∙ sym c.in-Some.is) c.in_ok-goes-in-Some.ensures.emits

pub emit-returns-in_ok-goes-in-NumCompare-clause-emits : goal.emit-returns-in_ok-goes-in-NumCompare-clause-emits
emit-returns-in_ok-goes-in-NumCompare-clause-emits t c =
    let a = c.in-NumCompare.left in
    let b = c.in-NumCompare.right in
    let x = c.get-in-NumCompare.result.now in
    let y = c.get-in-NumCompare-2.result.now in
    let tail = λ (w : Test). JumpCompare w 7 ∷ [] in
    let whole = λ (e f : Core) (w : Test). two_ops (code_of e) (code_of f) (tail w) ++ kept ((code_of e).goes_on && (code_of f).goes_on) truth in
    let is = compare_code c.args.node.now c.in-NumCompare.order c.in-NumCompare.left c.in-NumCompare.right c.in-NumCompare.is ∙ ap (λ w. whole a b w) (sym c.test_of.ensures) ∙ ap (λ e. whole e b c.test_of.result) (sym c.get-in-NumCompare.ensures) ∙ ap (λ f. whole x f c.test_of.result) (sym c.get-in-NumCompare-2.ensures) in
    on_ok_weaker c.truth_behind.result (λ f. emits_truth c.args.code.now c.emit_compared.new.code c.truth_behind.new.code c.args.pool.now c.emit_compared.new.pool c.in_ok-goes-in-NumCompare.goes ((code_of x).goes_on && (code_of y).goes_on) (two_ops (code_of x) (code_of y) (tail c.test_of.result)) (code_of c.args.node.now).code c.in_ok-goes-in-NumCompare.ensures.goes is c.in_ok-goes-in-NumCompare.ensures.emits f) c.truth_behind.ensures.emits

pub emit-returns-in_ok-goes-in-Equal-clause-emits : goal.emit-returns-in_ok-goes-in-Equal-clause-emits
emit-returns-in_ok-goes-in-Equal-clause-emits t c =
    let a = c.in-Equal.left in
    let b = c.in-Equal.right in
    let x = c.get-in-Equal.result.now in
    let y = c.get-in-Equal-2.result.now in
    let tail = λ (w : Test). JumpCompare w 7 ∷ [] in
    let whole = λ (e f : Core) (w : Test). two_ops (code_of e) (code_of f) (tail w) ++ kept ((code_of e).goes_on && (code_of f).goes_on) truth in
    let is = equal_code c.args.node.now c.in-Equal.left c.in-Equal.right c.in-Equal.is ∙ ap (λ w. whole a b w) (sym c.equal_test.ensures) ∙ ap (λ e. whole e b c.equal_test.result) (sym c.get-in-Equal.ensures) ∙ ap (λ f. whole x f c.equal_test.result) (sym c.get-in-Equal-2.ensures) in
    on_ok_weaker c.truth_behind-in-Equal.result (λ f. emits_truth c.args.code.now c.emit_compared-in-Equal.new.code c.truth_behind-in-Equal.new.code c.args.pool.now c.emit_compared-in-Equal.new.pool c.in_ok-goes-in-Equal.goes ((code_of x).goes_on && (code_of y).goes_on) (two_ops (code_of x) (code_of y) (tail c.equal_test.result)) (code_of c.args.node.now).code c.in_ok-goes-in-Equal.ensures.goes is c.in_ok-goes-in-Equal.ensures.emits f) c.truth_behind-in-Equal.ensures.emits

pub emit-returns-in_ok-goes-in-Not-clause-emits : goal.emit-returns-in_ok-goes-in-Not-clause-emits
emit-returns-in_ok-goes-in-Not-clause-emits t c =
    let a = c.in-Not.value in
    let x = c.get-in-Not.result.now in
    let whole = λ (e : Core). (code_of e).test true 4 ++ kept (code_of e).goes_on truth in
    let is = not_code c.args.node.now a c.in-Not.is ∙ ap whole (sym c.get-in-Not.ensures) in
    on_ok_weaker c.truth_behind-in-Not.result (λ f. emits_truth c.args.code.now c.emit_test.new.code c.truth_behind-in-Not.new.code c.args.pool.now c.emit_test.new.pool c.in_ok-goes-in-Not.goes (code_of x).goes_on ((code_of x).test true 4) (code_of c.args.node.now).code c.in_ok-goes-in-Not.ensures.goes is c.in_ok-goes-in-Not.ensures.emits f) c.truth_behind-in-Not.ensures.emits

pub emit-returns-in_ok-goes-in-And-clause-emits : goal.emit-returns-in_ok-goes-in-And-clause-emits
emit-returns-in_ok-goes-in-And-clause-emits t c =
    let a = c.in-And.left in
    let b = c.in-And.right in
    let x = c.get-in-And.result.now in
    let y = c.get-in-And-2.result.now in
    let ops = λ (e f : Core). (code_of e).test false ((code_of f).test_size false + 4) ++ kept (code_of e).goes_on ((code_of f).test false 4) in
    let whole = λ (e f : Core). ops e f ++ kept (code_of e).goes_on truth in
    let is = and_code c.args.node.now a b c.in-And.is ∙ ap (λ e. whole e b) (sym c.get-in-And.ensures) ∙ ap (λ f. whole x f) (sym c.get-in-And-2.ensures) in
    on_ok_weaker c.truth_behind-in-And.result (λ f. emits_truth c.args.code.now c.emit_short.new.code c.truth_behind-in-And.new.code c.args.pool.now c.emit_short.new.pool c.in_ok-goes-in-And.goes (code_of x).goes_on (ops x y) (code_of c.args.node.now).code c.in_ok-goes-in-And.ensures.goes is c.in_ok-goes-in-And.ensures.emits f) c.truth_behind-in-And.ensures.emits

pub emit-returns-in_ok-goes-in-Or-clause-emits : goal.emit-returns-in_ok-goes-in-Or-clause-emits
emit-returns-in_ok-goes-in-Or-clause-emits t c =
    let a = c.in-Or.left in
    let b = c.in-Or.right in
    let x = c.get-in-Or.result.now in
    let y = c.get-in-Or-2.result.now in
    let ops = λ (e f : Core). (code_of e).test true ((code_of f).test_size false + 0) ++ kept (code_of e).goes_on ((code_of f).test false 4) in
    let whole = λ (e f : Core). ops e f ++ kept (code_of e).goes_on truth in
    let is = or_code c.args.node.now a b c.in-Or.is ∙ ap (λ e. whole e b) (sym c.get-in-Or.ensures) ∙ ap (λ f. whole x f) (sym c.get-in-Or-2.ensures) in
    on_ok_weaker c.truth_behind-in-Or.result (λ f. emits_truth c.args.code.now c.emit_short-in-Or.new.code c.truth_behind-in-Or.new.code c.args.pool.now c.emit_short-in-Or.new.pool c.in_ok-goes-in-Or.goes (code_of x).goes_on (ops x y) (code_of c.args.node.now).code c.in_ok-goes-in-Or.ensures.goes is c.in_ok-goes-in-Or.ensures.emits f) c.truth_behind-in-Or.ensures.emits

pub emit-returns-in-Concat-clause-emits : goal.emit-returns-in-Concat-clause-emits
emit-returns-in-Concat-clause-emits t c =
    subst (λ (ops : List Operation). OnOk c.emit_texts.result (Emits c.args.code.now c.emit_texts.new.code c.args.pool.now c.emit_texts.new.pool ops))
    (ap (λ (es : List Core). (texts (map code_of es)).code) c.as_slice.ensures ∙ sym (concat_code c.args.node.now c.in-Concat.parts c.in-Concat.is)) c.emit_texts.ensures.emits

pub emit-returns-in-CallNative-ConsoleWrite-default-clause-emits : goal.emit-returns-in-CallNative-ConsoleWrite-default-clause-emits
emit-returns-in-CallNative-ConsoleWrite-default-clause-emits t c =
    let args = c.in-CallNative-ConsoleWrite-default.values in
    subst (λ (ops : List Operation). OnOk c.emit_native.result (Emits c.args.code.now c.emit_native.new.code c.args.pool.now c.emit_native.new.pool ops))
    (ap (λ (es : List Core). (values (map code_of es)).code ++ kept (values (map code_of es)).goes_on (Call helper.ConsoleWrite ∷ [])) c.as_slice-in-CallNative-ConsoleWrite-default.ensures ∙ sym (ap (λ x. x.code) (write_is c.args.node.now c.in-CallNative-ConsoleWrite-default.native args c.in-CallNative-ConsoleWrite-default.is))) c.emit_native.ensures.emits

pub emit_binary-returns-in_ok-compute-clause-emits : goal.emit_binary-returns-in_ok-compute-clause-emits
emit_binary-returns-in_ok-compute-clause-emits t c =
    let x = code_of c.args.left.now in
    let y = code_of c.args.right.now in
    emits_two c.args.code.now c.emit_two.new.code c.compute.new.code c.args.pool.now c.emit_two.new.pool c.emit_two.new.pool x y (Compute (operator_of c.args.op) ∷ []) (sym c.in_ok-goes.ensures.goes ∙ c.if-goes.true) c.in_ok-goes.ensures.emits (c.in_ok-compute.ensures c.emit_two.new.pool)

pub emit_compared-returns-in_ok-jump_compare-clause-emits : goal.emit_compared-returns-in_ok-jump_compare-clause-emits
emit_compared-returns-in_ok-jump_compare-clause-emits t c =
    let x = code_of c.args.left.now in
    let y = code_of c.args.right.now in
    emits_two c.args.code.now c.emit_two.new.code c.jump_compare.new.code c.args.pool.now c.emit_two.new.pool c.emit_two.new.pool x y (JumpCompare c.args.test (c.args.beyond + 3) ∷ []) (sym c.in_ok-goes.ensures.goes ∙ c.if-goes.true) c.in_ok-goes.ensures.emits (c.in_ok-jump_compare.ensures c.emit_two.new.pool)

pub emit_either-returns-then-first-2-clause-emits : goal.emit_either-returns-then-first-2-clause-emits
emit_either-returns-then-first-2-clause-emits t c =
    let x = code_of c.args.test.now in
    let a = code_of c.args.held.now in
    let b = code_of c.args.failed.now in
    let m = c.in_ok-measure_of.ensures in
    let on = sym c.in_ok-emit_test.ensures.goes ∙ c.if-not-branch.false in
    let over_is : c.in_ok-over_held.over_held ≡ a.size + over_size a = c.in_ok-over_held.ensures ∙ ap (λ n. n + kept_bytes c.in_ok-measure_of.field-0.goes_on 3) m.value ∙ ap (λ g. a.size + kept_bytes g 3) m.goes_on in
    let jumped : Emits c.emit.new.code c.if-first.code c.emit.new.pool c.emit.new.pool (over a b.size) = elim c.if-first.branch [
      | emit_either-then-first+in_ok-measure_of-2+in_ok-jump w ↦
          subst (λ items. Emits c.emit.new.code items c.emit.new.pool c.emit.new.pool (over a b.size)) (sym w.code-is)
          (subst (λ g. Emits c.emit.new.code w.jump.new.code c.emit.new.pool c.emit.new.pool (kept g (Jump (pos (b.size + 3)) ∷ []))) (sym (sym c.in_ok-first.ensures.goes ∙ w.if-first.true))
          (subst (λ (n : ℕ). Emits c.emit.new.code w.jump.new.code c.emit.new.pool c.emit.new.pool (Jump (pos (n + 3)) ∷ [])) w.in_ok-measure_of-2.ensures.value (w.in_ok-jump.ensures c.emit.new.pool)))
      | emit_either-else-first w ↦
          subst (λ items. Emits c.emit.new.code items c.emit.new.pool c.emit.new.pool (over a b.size)) (sym w.code-is)
          (subst (λ g. Emits c.emit.new.code c.emit.new.code c.emit.new.pool c.emit.new.pool (kept g (Jump (pos (b.size + 3)) ∷ []))) (sym (sym c.in_ok-first.ensures.goes ∙ w.if-first.false)) (emits_none c.emit.new.code c.emit.new.pool))
    ] in
    emits_kept c.args.code.now c.emit_test.new.code c.emit-2.new.code c.args.pool.now c.emit_test.new.pool c.emit-2.new.pool x.goes_on (x.test false (a.size + over_size a)) (a.code ++ (over a b.size ++ b.code)) on
    (subst (λ (n : ℕ). Emits c.args.code.now c.emit_test.new.code c.args.pool.now c.emit_test.new.pool (x.test false n)) over_is c.in_ok-emit_test.ensures.emits)
    (emits_then c.emit_test.new.code c.emit.new.code c.emit-2.new.code c.emit_test.new.pool c.emit.new.pool c.emit-2.new.pool a.code (over a b.size ++ b.code) c.in_ok-first.ensures.emits
    (emits_then c.emit.new.code c.if-first.code c.emit-2.new.code c.emit.new.pool c.emit.new.pool c.emit-2.new.pool (over a b.size) b.code jumped c.in_ok-second.ensures.emits))

pub emit_either-returns-else-first-2-clause-emits : goal.emit_either-returns-else-first-2-clause-emits
emit_either-returns-else-first-2-clause-emits t c =
    let x = code_of c.args.test.now in
    let a = code_of c.args.held.now in
    let b = code_of c.args.failed.now in
    let m = c.in_ok-measure_of.ensures in
    let on = sym c.in_ok-emit_test.ensures.goes ∙ c.if-not-branch.false in
    let over_is : c.in_ok-over_held.over_held ≡ a.size + over_size a = c.in_ok-over_held.ensures ∙ ap (λ n. n + kept_bytes c.in_ok-measure_of.field-0.goes_on 3) m.value ∙ ap (λ g. a.size + kept_bytes g 3) m.goes_on in
    let jumped : Emits c.emit.new.code c.if-first.code c.emit.new.pool c.emit.new.pool (over a b.size) = elim c.if-first.branch [
      | emit_either-then-first+in_ok-measure_of-2+in_ok-jump w ↦
          subst (λ items. Emits c.emit.new.code items c.emit.new.pool c.emit.new.pool (over a b.size)) (sym w.code-is)
          (subst (λ g. Emits c.emit.new.code w.jump.new.code c.emit.new.pool c.emit.new.pool (kept g (Jump (pos (b.size + 3)) ∷ []))) (sym (sym c.in_ok-first.ensures.goes ∙ w.if-first.true))
          (subst (λ (n : ℕ). Emits c.emit.new.code w.jump.new.code c.emit.new.pool c.emit.new.pool (Jump (pos (n + 3)) ∷ [])) w.in_ok-measure_of-2.ensures.value (w.in_ok-jump.ensures c.emit.new.pool)))
      | emit_either-else-first w ↦
          subst (λ items. Emits c.emit.new.code items c.emit.new.pool c.emit.new.pool (over a b.size)) (sym w.code-is)
          (subst (λ g. Emits c.emit.new.code c.emit.new.code c.emit.new.pool c.emit.new.pool (kept g (Jump (pos (b.size + 3)) ∷ []))) (sym (sym c.in_ok-first.ensures.goes ∙ w.if-first.false)) (emits_none c.emit.new.code c.emit.new.pool))
    ] in
    emits_kept c.args.code.now c.emit_test.new.code c.emit-2.new.code c.args.pool.now c.emit_test.new.pool c.emit-2.new.pool x.goes_on (x.test false (a.size + over_size a)) (a.code ++ (over a b.size ++ b.code)) on
    (subst (λ (n : ℕ). Emits c.args.code.now c.emit_test.new.code c.args.pool.now c.emit_test.new.pool (x.test false n)) over_is c.in_ok-emit_test.ensures.emits)
    (emits_then c.emit_test.new.code c.emit.new.code c.emit-2.new.code c.emit_test.new.pool c.emit.new.pool c.emit-2.new.pool a.code (over a b.size ++ b.code) c.in_ok-first.ensures.emits
    (emits_then c.emit.new.code c.if-first.code c.emit-2.new.code c.emit.new.pool c.emit.new.pool c.emit-2.new.pool (over a b.size) b.code jumped c.in_ok-second.ensures.emits))

pub emit_if-returns-then-is_true-clause-emits : goal.emit_if-returns-then-is_true-clause-emits
emit_if-returns-then-is_true-clause-emits t c =
    let x = code_of c.args.test.now in
    let y = code_of c.args.held.now in
    emits_kept c.args.code.now c.emit_condition.new.code c.emit.new.code c.args.pool.now c.emit_condition.new.pool c.emit.new.pool x.goes_on (condition x y.size) y.code (sym c.in_ok-emit_condition.ensures.goes ∙ c.if-not-branch.false)
    (subst (λ (n : ℕ). Emits c.args.code.now c.emit_condition.new.code c.args.pool.now c.emit_condition.new.pool (condition x n)) c.in_ok-over.ensures.value c.in_ok-emit_condition.ensures.emits) c.in_ok-goes.ensures.emits

pub emit_if-returns-else-is_true-clause-emits : goal.emit_if-returns-else-is_true-clause-emits
emit_if-returns-else-is_true-clause-emits t c =
    let x = code_of c.args.test.now in
    let y = code_of c.args.held.now in
    emits_kept c.args.code.now c.emit_condition.new.code c.emit.new.code c.args.pool.now c.emit_condition.new.pool c.emit.new.pool x.goes_on (condition x y.size) y.code (sym c.in_ok-emit_condition.ensures.goes ∙ c.if-not-branch.false)
    (subst (λ (n : ℕ). Emits c.args.code.now c.emit_condition.new.code c.args.pool.now c.emit_condition.new.pool (condition x n)) c.in_ok-over.ensures.value c.in_ok-emit_condition.ensures.emits) c.in_ok-goes.ensures.emits

pub emit_in_turn-loop-i-init : goal.emit_in_turn-loop-i-init
emit_in_turn-loop-i-init t c =
    (partly_none c.args.code.now c.args.pool.now (in_turn (map code_of c.args.parts.now)).code, refl)

pub emit_in_turn-returns-then-not-branch-clause-emits : goal.emit_in_turn-returns-then-not-branch-clause-emits
emit_in_turn-returns-then-not-branch-clause-emits t c =
    let es = c.args.parts.now in
    let i = c.loop-i.i in
    let e = c.index-parts-i.result in
    let last = nat_eq (i + 1) (length es) in
    let off : (code_of e).goes_on ≡ false = sym c.in_ok-emit.ensures.goes ∙ c.if-not-branch.true in
    partly_all c.args.code.now c.emit.new.code c.args.pool.now c.emit.new.pool [] (in_turn (map code_of es)).code refl
    (partly_on c.args.code.now c.loop-i.code c.emit.new.code c.args.pool.now c.loop-i.pool c.emit.new.pool (code_of e).code [] _ _
    (ap (λ (s : Several). s.code) (turn_is es i e last c.loop-i-test.true c.index-parts-i.is (eqb-true (i + 1) (length es)) (eqb-false (i + 1) (length es))) ∙ off_code (code_of e) (after_part last e.ty) (in_turn (map code_of (drop (i + 1) es))) off) c.loop-i.invariant.0 c.in_ok-emit.ensures.emits)

pub emit_in_turn-loop-i-preserved : goal.emit_in_turn-loop-i-preserved
emit_in_turn-loop-i-preserved t c =
    let es = c.args.parts.now in
    let i = c.loop-i.i in
    let e = c.index-parts-i.result in
    let last = nat_eq (i + 1) (length es) in
    let between = after_part last e.ty in
    let more : Several = in_turn (map code_of (drop (i + 1) es)) in
    let on : (code_of e).goes_on ≡ true = sym c.in_ok-emit.ensures.goes ∙ c.if-not-branch.false in
    let is = turn_is es i e last c.loop-i-test.true c.index-parts-i.is (eqb-true (i + 1) (length es)) (eqb-false (i + 1) (length es)) in (
      partly_on c.args.code.now c.loop-i.code c.between.new.code c.args.pool.now c.loop-i.pool c.emit.new.pool ((code_of e).code ++ between) more.code _ _
          (ap (λ (s : Several). s.code) is ∙ on_code (code_of e) between more on) c.loop-i.invariant.0
          (emits_then c.loop-i.code c.emit.new.code c.between.new.code c.loop-i.pool c.emit.new.pool c.emit.new.pool (code_of e).code between c.in_ok-emit.ensures.emits (c.in_ok-between.ensures c.emit.new.pool)),
      sym (ap (λ (s : Several). s.goes_on) is ∙ on_goes (code_of e) between more on) ∙ c.loop-i.invariant.1,
    )

pub emit_native-returns-in_ok-call-clause-emits : goal.emit_native-returns-in_ok-call-clause-emits
emit_native-returns-in_ok-call-clause-emits t c =
    let x = values (map code_of c.args.arguments.now) in
    emits_kept c.args.code.now c.emit_values.new.code c.call.new.code c.args.pool.now c.emit_values.new.pool c.call.new.pool x.goes_on x.code (Call helper.ConsoleWrite ∷ []) (sym c.in_ok-goes.ensures.goes ∙ c.if-goes.true) c.in_ok-goes.ensures.emits c.in_ok-call.ensures

pub emit_negate-returns-in_ok-negate-clause-emits : goal.emit_negate-returns-in_ok-negate-clause-emits
emit_negate-returns-in_ok-negate-clause-emits t c =
    let x = code_of c.args.value.now in
    emits_kept c.args.code.now c.emit.new.code c.negate.new.code c.args.pool.now c.emit.new.pool c.emit.new.pool x.goes_on x.code (Negate ∷ []) (sym c.in_ok-goes.ensures.goes ∙ c.if-goes.true) c.in_ok-goes.ensures.emits (c.in_ok-negate.ensures c.emit.new.pool)

pub emit_plain_test-returns-in_ok-jump_if-clause-emits : goal.emit_plain_test-returns-in_ok-jump_if-clause-emits
emit_plain_test-returns-in_ok-jump_if-clause-emits t c =
    let x = code_of c.args.node.now in
    emits_kept c.args.code.now c.emit.new.code c.jump_if.new.code c.args.pool.now c.emit.new.pool c.emit.new.pool x.goes_on x.code (JumpIf (truth_test c.args.when) (c.args.beyond + 3) ∷ []) (sym c.in_ok-goes.ensures.goes ∙ c.if-goes.true) c.in_ok-goes.ensures.emits (c.in_ok-jump_if.ensures c.emit.new.pool)

pub emit_short-returns-in_ok-emit_test-clause-emits : goal.emit_short-returns-in_ok-emit_test-clause-emits
emit_short-returns-in_ok-emit_test-clause-emits t c =
    let x = code_of c.args.left.now in
    let y = code_of c.args.right.now in
    let over : c.in_ok-over.over ≡ y.test_size c.args.when + decided c.args.decisive c.args.when c.args.beyond = c.in_ok-over.ensures ∙ ap (λ n. n + c.beyond_whole.result) (c.when.ensures ∙ measured_when c.args.when c.in_ok-measure_of.field-0 y c.in_ok-measure_of.ensures) ∙ ap (λ n. y.test_size c.args.when + n) c.beyond_whole.ensures in
    emits_kept c.args.code.now c.emit_test.new.code c.emit_test-then-goes.new.code c.args.pool.now c.emit_test.new.pool c.emit_test-then-goes.new.pool x.goes_on (x.test c.args.decisive (y.test_size c.args.when + decided c.args.decisive c.args.when c.args.beyond)) (y.test c.args.when c.args.beyond) (sym c.in_ok-goes.ensures.goes ∙ c.if-goes.true)
    (subst (λ (n : ℕ). Emits c.args.code.now c.emit_test.new.code c.args.pool.now c.emit_test.new.pool (x.test c.args.decisive n)) over c.in_ok-goes.ensures.emits) c.in_ok-emit_test.ensures.emits

pub emit_stored-returns-in_ok-store-clause-emits : goal.emit_stored-returns-in_ok-store-clause-emits
emit_stored-returns-in_ok-store-clause-emits t c =
    let x = code_of c.args.value.now in
    emits_kept c.args.code.now c.emit.new.code c.store.new.code c.args.pool.now c.emit.new.pool c.emit.new.pool x.goes_on x.code (stores c.args.value.now.ty c.args.local) (sym c.in_ok-goes.ensures.goes ∙ c.if-goes.true) c.in_ok-goes.ensures.emits (c.in_ok-store.ensures c.emit.new.pool)

pub emit_texts-loop-i-init : goal.emit_texts-loop-i-init
emit_texts-loop-i-init t c =
    (partly_none c.args.code.now c.args.pool.now (texts (map code_of c.args.parts.now)).code, refl)

pub emit_texts-returns-then-not-branch-clause-emits : goal.emit_texts-returns-then-not-branch-clause-emits
emit_texts-returns-then-not-branch-clause-emits t c =
    let es = c.args.parts.now in
    let i = c.loop-i.i in
    let e = c.index-parts-i.result in
    let first = nat_eq i 0 in
    let off : (code_of e).goes_on ≡ false = sym c.in_ok-emit.ensures.goes ∙ c.if-not-branch.true in
    partly_all c.args.code.now c.emit.new.code c.args.pool.now c.emit.new.pool [] (texts (map code_of es)).code refl
    (partly_on c.args.code.now c.loop-i.code c.emit.new.code c.args.pool.now c.loop-i.pool c.emit.new.pool (code_of e).code [] _ _
    (ap (λ (s : Several). s.code) (text_is es i e first c.loop-i-test.true c.index-parts-i.is) ∙ off_code (code_of e) (after_text first e.ty) (texts_from false (map code_of (drop (i + 1) es))) off) c.loop-i.invariant.0 c.in_ok-emit.ensures.emits)

pub emit_texts-loop-i-preserved : goal.emit_texts-loop-i-preserved
emit_texts-loop-i-preserved t c =
    let es = c.args.parts.now in
    let i = c.loop-i.i in
    let e = c.index-parts-i.result in
    let first = nat_eq i 0 in
    let between = after_text first e.ty in
    let more : Several = texts_from false (map code_of (drop (i + 1) es)) in
    let on : (code_of e).goes_on ≡ true = sym c.in_ok-emit.ensures.goes ∙ c.if-not-branch.false in
    let is = text_is es i e first c.loop-i-test.true c.index-parts-i.is in
    subst (λ b. Partly c.args.code.now c.join.new.code c.args.pool.now c.join.new.pool (texts_from b (map code_of (drop (i + 1) es))).code (texts (map code_of es)).code × ((texts_from b (map code_of (drop (i + 1) es))).goes_on ≡ (texts (map code_of es)).goes_on)) (sym (ne_eqb (i + 1) 0 (λ h. omega arith))) (
      partly_on c.args.code.now c.loop-i.code c.join.new.code c.args.pool.now c.loop-i.pool c.join.new.pool ((code_of e).code ++ between) more.code _ _
          (ap (λ (s : Several). s.code) is ∙ on_code (code_of e) between more on) c.loop-i.invariant.0
          (emits_then c.loop-i.code c.emit.new.code c.join.new.code c.loop-i.pool c.emit.new.pool c.join.new.pool (code_of e).code between c.in_ok-emit.ensures.emits c.in_ok-join.ensures),
      sym (ap (λ (s : Several). s.goes_on) is ∙ on_goes (code_of e) between more on) ∙ c.loop-i.invariant.1,
    )

pub emit_two-returns-clause-emits : goal.emit_two-returns-clause-emits
emit_two-returns-clause-emits t c =
    let x = code_of c.args.left.now in
    emits_kept c.args.code.now c.emit.new.code c.emit-2.new.code c.args.pool.now c.emit.new.pool c.emit-2.new.pool x.goes_on x.code (code_of c.args.right.now).code (sym c.in_ok-emit.ensures.goes ∙ c.if-not-branch.false) c.in_ok-emit.ensures.emits c.in_ok-goes.ensures.emits

pub emit_values-loop-value-init : goal.emit_values-loop-value-init
emit_values-loop-value-init t c =
    (partly_none c.args.code.now c.args.pool.now (values (map code_of c.args.arguments.now)).code, refl)

pub emit_values-returns-then-not-branch-clause-emits : goal.emit_values-returns-then-not-branch-clause-emits
emit_values-returns-then-not-branch-clause-emits t c =
    let es = c.args.arguments.now in
    let i = c.loop-value.value-index in
    let e = c.value-item.result in
    let off : (code_of e).goes_on ≡ false = sym c.in_ok-emit.ensures.goes ∙ c.if-not-branch.true in
    partly_all c.args.code.now c.emit.new.code c.args.pool.now c.emit.new.pool [] (values (map code_of es)).code refl
    (partly_on c.args.code.now c.loop-value.code c.emit.new.code c.args.pool.now c.loop-value.pool c.emit.new.pool (code_of e).code [] _ _
    (ap (λ (s : Several). s.code) (values_is es i e c.loop-value-test.true c.value-item.is) ∙ off_code (code_of e) [] (values (map code_of (drop (i + 1) es))) off) c.loop-value.invariant.0 c.in_ok-emit.ensures.emits)

pub emit_values-loop-value-preserved : goal.emit_values-loop-value-preserved
emit_values-loop-value-preserved t c =
    let es = c.args.arguments.now in
    let i = c.loop-value.value-index in
    let e = c.value-item.result in
    let more : Several = values (map code_of (drop (i + 1) es)) in
    let on : (code_of e).goes_on ≡ true = sym c.in_ok-emit.ensures.goes ∙ c.if-not-branch.false in
    let is = values_is es i e c.loop-value-test.true c.value-item.is in (
      partly_on c.args.code.now c.loop-value.code c.emit.new.code c.args.pool.now c.loop-value.pool c.emit.new.pool (code_of e).code more.code _ _
          (ap (λ (s : Several). s.code) is ∙ on_code (code_of e) [] more on ∙ ap (λ w. w ++ more.code) (append-nil (code_of e).code)) c.loop-value.invariant.0 c.in_ok-emit.ensures.emits,
      sym (ap (λ (s : Several). s.goes_on) is ∙ on_goes (code_of e) [] more on) ∙ c.loop-value.invariant.1,
    )

pub emit_while-returns-then-not-branch-clause-emits : goal.emit_while-returns-then-not-branch-clause-emits
emit_while-returns-then-not-branch-clause-emits t c =
    let x = code_of c.args.test.now in
    let y = code_of c.args.body.now in
    let ty = type_of_code c.args.body.now in
    let over : c.in_ok-over.over ≡ body_size y = c.in_ok-over.ensures ∙ ap (λ n. n + kept_bytes c.in_ok-turn.turn.goes_on (bytes (discards c.args.body.now.ty) + 3)) c.in_ok-turn.ensures.value ∙ ap (λ g. y.size + kept_bytes g (bytes (discards c.args.body.now.ty) + 3)) c.in_ok-turn.ensures.goes_on ∙ ap (λ ty. y.size + kept_bytes y.goes_on (bytes (discards ty) + 3)) (sym ty) in
    let n = condition_size x + y.size + bytes (discards y.ty) in
    let first = subst (λ (m : ℕ). Emits c.args.code.now c.emit_condition.new.code c.args.pool.now c.emit_condition.new.pool (condition x m)) over c.in_ok-emit_condition.ensures.emits in
    emits_alone c.args.code.now c.emit_condition.new.code c.args.pool.now c.emit_condition.new.pool x.goes_on (condition x (body_size y)) (y.code ++ returns y n) (sym c.in_ok-emit_condition.ensures.goes ∙ c.if-not-branch.true) first

pub emit_while-returns-clause-emits : goal.emit_while-returns-clause-emits
emit_while-returns-clause-emits t c =
    let x = code_of c.args.test.now in
    let y = code_of c.args.body.now in
    let ty = type_of_code c.args.body.now in
    let over : c.in_ok-over.over ≡ body_size y = c.in_ok-over.ensures ∙ ap (λ n. n + kept_bytes c.in_ok-turn.turn.goes_on (bytes (discards c.args.body.now.ty) + 3)) c.in_ok-turn.ensures.value ∙ ap (λ g. y.size + kept_bytes g (bytes (discards c.args.body.now.ty) + 3)) c.in_ok-turn.ensures.goes_on ∙ ap (λ ty. y.size + kept_bytes y.goes_on (bytes (discards ty) + 3)) (sym ty) in
    let n = condition_size x + y.size + bytes (discards y.ty) in
    let first = subst (λ (m : ℕ). Emits c.args.code.now c.emit_condition.new.code c.args.pool.now c.emit_condition.new.pool (condition x m)) over c.in_ok-emit_condition.ensures.emits in
    let on = sym c.in_ok-emit_condition.ensures.goes ∙ c.if-not-branch.false in
    let whole : c.in_ok-whole.whole ≡ n = let k = ap (λ ty. bytes (discards ty)) ty in omega (arith, k, c.in_ok-whole.ensures, c.in_ok-plus.ensures, c.condition_length.ensures, c.discard_size.ensures, c.in_ok-turn.ensures.value) in
    emits_kept c.args.code.now c.emit_condition.new.code c.if-branch.code c.args.pool.now c.emit_condition.new.pool c.emit.new.pool x.goes_on (condition x (body_size y)) (y.code ++ returns y n) on first
    (elim c.if-branch.branch [
      | emit_while-then-branch+in_ok-discard+in_ok-jump_back w ↦
          subst (λ items. Emits c.emit_condition.new.code items c.emit_condition.new.pool c.emit.new.pool (y.code ++ returns y n)) (sym w.code-is)
          (emits_kept c.emit_condition.new.code c.emit.new.code w.jump_back.new.code c.emit_condition.new.pool c.emit.new.pool c.emit.new.pool y.goes_on y.code (discards y.ty ++ Jump (back n) ∷ []) (sym c.in_ok-emit.ensures.goes ∙ w.if-branch.true) c.in_ok-emit.ensures.emits
          (emits_then c.emit.new.code w.discard.new.code w.jump_back.new.code c.emit.new.pool c.emit.new.pool c.emit.new.pool (discards y.ty) (Jump (back n) ∷ [])
          (subst (λ t. Emits c.emit.new.code w.discard.new.code c.emit.new.pool c.emit.new.pool (discards t)) (sym ty) (w.in_ok-discard.ensures c.emit.new.pool))
          (subst (λ (m : ℕ). Emits w.discard.new.code w.jump_back.new.code c.emit.new.pool c.emit.new.pool (Jump (back m) ∷ [])) whole (w.in_ok-jump_back.ensures c.emit.new.pool))))
      | emit_while-else-branch w ↦
          subst (λ items. Emits c.emit_condition.new.code items c.emit_condition.new.pool c.emit.new.pool (y.code ++ returns y n)) (sym w.code-is)
          (emits_alone c.emit_condition.new.code c.emit.new.code c.emit_condition.new.pool c.emit.new.pool y.goes_on y.code (discards y.ty ++ Jump (back n) ∷ []) (sym c.in_ok-emit.ensures.goes ∙ w.if-branch.false) c.in_ok-emit.ensures.emits)
    ])

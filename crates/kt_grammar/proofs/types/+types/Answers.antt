use Rattle.std.proofs.Common.{Err, Ok, arith, sym, ap, ◌∙◌, [], ◌∷◌, ◌++◌}
use Rattle.std.proofs.lemmas.Result.{err_from_is_err_and}
use Rattle.kt_grammar.specs.Parsed.{no_memory}
use Rattle.kt_grammar.proofs.Steps.{standing, fails_row, fails_left, fails_right, fails_first, fails_second, fails_after}
use Rattle.kt_grammar.proofs.TypeRows.{has_marks, type_from, core_bracketed, core_named, has_no_arguments, bare_type, type_with_arguments, has_in_brackets, empty_function, has_behind_first, bracketed_from, has_close_to_type, many_parameters, has_no_result, one_type, one_parameter, has_to_type, has_type, result_from, has_comma_types, last_type, type_turn, types_end, last_comma, has_more, argument_turn, arguments_end, star, in_argument, fails_out, out_argument, fails_no_out, exact_argument, has_arguments_end, has_more_end, has_greater, all_arguments}
use Rattle.kt_grammar.proofs.types.+types.Goals as goal

pub type_at-returns-in_err-core : goal.type_at-returns-in_err-core
type_at-returns-in_err-core t c = let p = err_from_is_err_and c.from_residual.result c.from_residual.ensures.1 in rw (p.1, p.2) (fails_row (fails_first has_marks c.in_err-core.ensures))

pub type_at-returns : goal.type_at-returns
type_at-returns t c = type_from c.in_ok-core.ensures c.nullables.result c.nullables.ensures

pub core_type-returns-then-is_op_at : goal.core_type-returns-then-is_op_at
core_type-returns-then-is_op_at t c = core_bracketed c.args.tokens.now c.args.at (sym c.is_op_at.ensures ∙ c.if-is_op_at.true) c.bracketed_type.result c.bracketed_type.ensures

pub core_type-returns : goal.core_type-returns
core_type-returns t c = core_named c.args.tokens.now c.args.at (sym c.is_op_at.ensures ∙ c.if-is_op_at.false) c.named_type.result c.named_type.ensures

pub named_type-returns-in_err-words : goal.named_type-returns-in_err-words
named_type-returns-in_err-words t c = let p = err_from_is_err_and c.from_residual.result c.from_residual.ensures.1 in rw (p.1, p.2) (fails_first has_no_arguments c.in_err-words.ensures)

pub named_type-returns-then-not-is_op_at : goal.named_type-returns-then-not-is_op_at
named_type-returns-then-not-is_op_at t c = bare_type c.span_between-span.result c.in_ok-words.ensures (sym c.is_op_at.ensures ∙ c.if-not-is_op_at.true) c.span_between-span.ensures c.new.ensures

pub named_type-returns-in_err-arguments : goal.named_type-returns-in_err-arguments
named_type-returns-in_err-arguments t c = let p = err_from_is_err_and c.from_residual-in_err-arguments.result c.from_residual-in_err-arguments.ensures.1 in rw (p.1, p.2) (fails_second c.in_ok-words.ensures.read (fails_left (sym c.is_op_at.ensures ∙ c.if-not-is_op_at.false) c.in_err-arguments.ensures))

pub named_type-returns : goal.named_type-returns
named_type-returns t c = type_with_arguments c.span_between-span-2.result c.in_ok-words.ensures (sym c.is_op_at.ensures ∙ c.if-not-is_op_at.false) c.in_ok-arguments.ensures c.span_between-span-2.ensures

pub bracketed_type-returns-in_err-next : goal.bracketed_type-returns-in_err-next
bracketed_type-returns-in_err-next t c = let p = err_from_is_err_and c.from_residual.result c.from_residual.ensures.1 in rw (p.1, p.2) (fails_row (fails_first has_in_brackets c.in_err-next.ensures))

pub bracketed_type-returns-in_err-output : goal.bracketed_type-returns-in_err-output
bracketed_type-returns-in_err-output t c = let p = err_from_is_err_and c.from_residual-in_err-output.result c.from_residual-in_err-output.ensures.1 in rw (p.1, p.2) (fails_row (fails_after c.in_ok-next.ensures (fails_left (sym c.is_op_at.ensures ∙ c.if-is_op_at.true) c.in_err-output.ensures)))

pub bracketed_type-returns-in_err-function : goal.bracketed_type-returns-in_err-function
bracketed_type-returns-in_err-function t c = let p = err_from_is_err_and c.from_residual-in_err-function.result c.from_residual-in_err-function.ensures.1 in rw (p.1, p.2) (no_memory)

pub bracketed_type-returns-then-is_op_at : goal.bracketed_type-returns-then-is_op_at
bracketed_type-returns-then-is_op_at t c = empty_function c.in_ok-next.ensures (sym c.is_op_at.ensures ∙ c.if-is_op_at.true) c.in_ok-output.ensures c.span_between-span.ensures c.new-none.ensures c.in_ok-function.ensures

pub bracketed_type-returns-in_err-head : goal.bracketed_type-returns-in_err-head
bracketed_type-returns-in_err-head t c = let p = err_from_is_err_and c.from_residual-in_err-head.result c.from_residual-in_err-head.ensures.1 in rw (p.1, p.2) (fails_row (fails_after c.in_ok-next.ensures (fails_right (sym c.is_op_at.ensures ∙ c.if-is_op_at.false) (fails_first has_behind_first c.in_err-head.ensures))))

pub bracketed_type-returns : goal.bracketed_type-returns
bracketed_type-returns t c = bracketed_from c.in_ok-next.ensures (sym c.is_op_at.ensures ∙ c.if-is_op_at.false) c.in_ok-head.ensures c.behind_first.result c.behind_first.ensures

pub behind_first-returns-in_err-parameters : goal.behind_first-returns-in_err-parameters
behind_first-returns-in_err-parameters t c = let p = err_from_is_err_and c.from_residual.result c.from_residual.ensures.1 in rw (p.1, p.2) (fails_left (standing c.in-Some.ensures) (fails_after c.in-Some.ensures (fails_first has_close_to_type c.in_err-parameters.ensures)))

pub behind_first-returns-in_err-output : goal.behind_first-returns-in_err-output
behind_first-returns-in_err-output t c = let p = err_from_is_err_and c.from_residual-in_err-output.result c.from_residual-in_err-output.ensures.1 in rw (p.1, p.2) (fails_left (standing c.in-Some.ensures) (fails_after c.in-Some.ensures (fails_second c.in_ok-parameters.ensures.read c.in_err-output.ensures)))

pub behind_first-returns-in_err-function : goal.behind_first-returns-in_err-function
behind_first-returns-in_err-function t c = let p = err_from_is_err_and c.from_residual-in_err-function.result c.from_residual-in_err-function.ensures.1 in rw (p.1, p.2) (no_memory)

pub behind_first-returns-in-Some : goal.behind_first-returns-in-Some
behind_first-returns-in-Some t c = many_parameters c.args.start c.in-Some.ensures c.in_ok-parameters.ensures c.in_ok-output.ensures c.span_between-span.ensures c.in_ok-function.ensures

pub behind_first-returns-in_err-close : goal.behind_first-returns-in_err-close
behind_first-returns-in_err-close t c = let p = err_from_is_err_and c.from_residual-in_err-close.result c.from_residual-in_err-close.ensures.1 in rw (p.1, p.2) (fails_right c.in_default.ensures (fails_first has_no_result c.in_err-close.ensures))

pub behind_first-returns-in_default-eat_op : goal.behind_first-returns-in_default-eat_op
behind_first-returns-in_default-eat_op t c = one_type c.args.start c.in_default.ensures c.in_ok-close.ensures c.in_default-eat_op.ensures

pub behind_first-returns-in_err-output-2 : goal.behind_first-returns-in_err-output-2
behind_first-returns-in_err-output-2 t c = let p = err_from_is_err_and c.from_residual-in_err-output-2.result c.from_residual-in_err-output-2.ensures.1 in rw (p.1, p.2) (fails_right c.in_default.ensures (fails_after c.in_ok-close.ensures (fails_left (standing c.in-Some-eat_op.ensures) (fails_after c.in-Some-eat_op.ensures c.in_err-output-2.ensures))))

pub behind_first-returns-in_err-push : goal.behind_first-returns-in_err-push
behind_first-returns-in_err-push t c = let p = err_from_is_err_and c.from_residual-in_err-push.result c.from_residual-in_err-push.ensures.1 in rw (p.1, p.2) (no_memory)

pub behind_first-returns-in_err-function-2 : goal.behind_first-returns-in_err-function-2
behind_first-returns-in_err-function-2 t c = let p = err_from_is_err_and c.from_residual-in_err-function-2.result c.from_residual-in_err-function-2.ensures.1 in rw (p.1, p.2) (no_memory)

pub behind_first-returns : goal.behind_first-returns
behind_first-returns t c = one_parameter c.args.start c.in_default.ensures c.in_ok-close.ensures c.in-Some-eat_op.ensures c.in_ok-output-2.ensures c.span_between-span-2.ensures (c.in_ok-push.ensures.ok ∙ ap (λ m. m ++ c.args.head ∷ []) c.new-parameters.ensures) c.in_ok-function-2.ensures

pub result_type-returns-in_err-close : goal.result_type-returns-in_err-close
result_type-returns-in_err-close t c = let p = err_from_is_err_and c.from_residual.result c.from_residual.ensures.1 in rw (p.1, p.2) (fails_first has_to_type c.in_err-close.ensures)

pub result_type-returns-in_err-next : goal.result_type-returns-in_err-next
result_type-returns-in_err-next t c = let p = err_from_is_err_and c.from_residual-in_err-next.result c.from_residual-in_err-next.ensures.1 in rw (p.1, p.2) (fails_after c.in_ok-close.ensures (fails_first has_type c.in_err-next.ensures))

pub result_type-returns : goal.result_type-returns
result_type-returns t c = result_from c.in_ok-close.ensures c.in_ok-next.ensures c.type_at.result c.type_at.ensures

pub more_types-returns-in_err-push : goal.more_types-returns-in_err-push
more_types-returns-in_err-push t c = let p = err_from_is_err_and c.from_residual.result c.from_residual.ensures.1 in rw (p.1, p.2) (no_memory)

pub more_types-returns-in_err-found : goal.more_types-returns-in_err-found
more_types-returns-in_err-found t c = let p = err_from_is_err_and c.from_residual-in_err-found.result c.from_residual-in_err-found.ensures.1 in rw p.1 (c.loop-alloc.invariant.whole (Err p.0) (fails_row (fails_left (sym c.begins_type.ensures ∙ c.loop-alloc-test.true) (fails_first has_comma_types (rw p.2 c.in_err-found.ensures)))))

pub more_types-returns-in_err-push-2 : goal.more_types-returns-in_err-push-2
more_types-returns-in_err-push-2 t c = let p = err_from_is_err_and c.from_residual-in_err-push-2.result c.from_residual-in_err-push-2.ensures.1 in rw (p.1, p.2) (no_memory)

pub more_types-returns-in_default : goal.more_types-returns-in_default
more_types-returns-in_default t c = c.loop-alloc.invariant.whole (Ok (c.push-in-loop-alloc.new.self, c.in_ok-found.end)) (last_type c.loop-alloc.all c.push-in-loop-alloc.new.self (sym c.begins_type.ensures ∙ c.loop-alloc-test.true) c.in_ok-found.ensures c.in_default.ensures c.in_ok-push-2.ensures.ok)

pub more_types-loop-alloc-preserved : goal.more_types-loop-alloc-preserved
more_types-loop-alloc-preserved t c =
    let v = c.loop-alloc.invariant in
    let o = c.in-Some.ensures in
    let x = c.in_ok-found.ensures in
    record {
      ahead = omega (arith, v.ahead, x.read.ahead, o.next);
      within = o.within;
      whole = λ r q. v.whole r (type_turn c.loop-alloc.all c.push-in-loop-alloc.new.self (sym c.begins_type.ensures ∙ c.loop-alloc-test.true) x o c.in_ok-push-2.ensures.ok r q);
    }

pub more_types-returns : goal.more_types-returns
more_types-returns t c = let v = c.loop-alloc.invariant in v.whole (Ok (c.loop-alloc.all, c.loop-alloc.at)) (types_end c.loop-alloc.all v.within (sym c.begins_type.ensures ∙ c.loop-alloc-test.false))

pub more_type_arguments-returns-in_err-push : goal.more_type_arguments-returns-in_err-push
more_type_arguments-returns-in_err-push t c = let p = err_from_is_err_and c.from_residual.result c.from_residual.ensures.1 in rw (p.1, p.2) (no_memory)

pub more_type_arguments-returns-then-not-begins_type_argument : goal.more_type_arguments-returns-then-not-begins_type_argument
more_type_arguments-returns-then-not-begins_type_argument t c = c.loop-next.invariant.whole (Ok (c.loop-next.all, c.in-Some.next)) (last_comma c.loop-next.all c.in-Some.ensures (sym c.begins_type_argument.ensures ∙ c.if-not-begins_type_argument.true))

pub more_type_arguments-returns-in_err-argument : goal.more_type_arguments-returns-in_err-argument
more_type_arguments-returns-in_err-argument t c = let p = err_from_is_err_and c.from_residual-in_err-argument.result c.from_residual-in_err-argument.ensures.1 in rw p.1 (c.loop-next.invariant.whole (Err p.0) (fails_row (fails_left (standing c.in-Some.ensures) (fails_after c.in-Some.ensures (fails_left (sym c.begins_type_argument.ensures ∙ c.if-not-begins_type_argument.false) (fails_first has_more (rw p.2 c.in_err-argument.ensures)))))))

pub more_type_arguments-returns-in_err-push-2 : goal.more_type_arguments-returns-in_err-push-2
more_type_arguments-returns-in_err-push-2 t c = let p = err_from_is_err_and c.from_residual-in_err-push-2.result c.from_residual-in_err-push-2.ensures.1 in rw (p.1, p.2) (no_memory)

pub more_type_arguments-loop-next-preserved : goal.more_type_arguments-loop-next-preserved
more_type_arguments-loop-next-preserved t c =
    let v = c.loop-next.invariant in
    let o = c.in-Some.ensures in
    let x = c.in_ok-argument.ensures in
    record {
      ahead = omega (arith, v.ahead, o.next, x.read.ahead);
      within = x.read.within;
      whole = λ r q. v.whole r (argument_turn c.loop-next.all c.push-in-Some.new.self o (sym c.begins_type_argument.ensures ∙ c.if-not-begins_type_argument.false) x c.in_ok-push-2.ensures.ok r q);
    }

pub more_type_arguments-returns : goal.more_type_arguments-returns
more_type_arguments-returns t c = let v = c.loop-next.invariant in v.whole (Ok (c.loop-next.all, c.loop-next.at)) (arguments_end c.loop-next.all v.within c.in_default.ensures)

pub type_argument-returns-in-Some : goal.type_argument-returns-in-Some
type_argument-returns-in-Some t c = star c.span_between-span.result c.in-Some.ensures c.span_between-span.ensures

pub type_argument-returns-in_err-ty : goal.type_argument-returns-in_err-ty
type_argument-returns-in_err-ty t c = let p = err_from_is_err_and c.from_residual.result c.from_residual.ensures.1 in rw (p.1, p.2) (fails_row (fails_right c.in_default.ensures (fails_left (standing c.in-Some-eat_word.ensures) (fails_after c.in-Some-eat_word.ensures c.in_err-ty.ensures))))

pub type_argument-returns-in-Some-eat_word : goal.type_argument-returns-in-Some-eat_word
type_argument-returns-in-Some-eat_word t c = in_argument c.span_between-span-in-Some-eat_word.result c.in_default.ensures c.in-Some-eat_word.ensures c.in_ok-ty.ensures c.span_between-span-in-Some-eat_word.ensures

pub type_argument-returns-in_err-ty-2 : goal.type_argument-returns-in_err-ty-2
type_argument-returns-in_err-ty-2 t c = let p = err_from_is_err_and c.from_residual-in_err-ty-2.result c.from_residual-in_err-ty-2.ensures.1 in rw (p.1, p.2) (fails_row (fails_right c.in_default.ensures (fails_right c.in_default-eat_word.ensures (fails_out c.in-Some-eat_out.ensures c.in_err-ty-2.ensures))))

pub type_argument-returns-in-Some-eat_out : goal.type_argument-returns-in-Some-eat_out
type_argument-returns-in-Some-eat_out t c = out_argument c.span_between-span-in-Some-eat_out.result c.in_default.ensures c.in_default-eat_word.ensures c.in-Some-eat_out.ensures c.in_ok-ty-2.ensures c.span_between-span-in-Some-eat_out.ensures

pub type_argument-returns-in_err-ty-3 : goal.type_argument-returns-in_err-ty-3
type_argument-returns-in_err-ty-3 t c = let p = err_from_is_err_and c.from_residual-in_err-ty-3.result c.from_residual-in_err-ty-3.ensures.1 in rw (p.1, p.2) (fails_row (fails_right c.in_default.ensures (fails_right c.in_default-eat_word.ensures (fails_no_out c.in_default-eat_out.ensures c.in_err-ty-3.ensures))))

pub type_argument-returns : goal.type_argument-returns
type_argument-returns t c = exact_argument c.span_between-span-2.result c.in_default.ensures c.in_default-eat_word.ensures c.in_default-eat_out.ensures c.in_ok-ty-3.ensures c.span_between-span-2.ensures

pub type_arguments-returns-in_err-next : goal.type_arguments-returns-in_err-next
type_arguments-returns-in_err-next t c = let p = err_from_is_err_and c.from_residual.result c.from_residual.ensures.1 in rw (p.1, p.2) (fails_row (fails_first has_arguments_end c.in_err-next.ensures))

pub type_arguments-returns-in_err-head : goal.type_arguments-returns-in_err-head
type_arguments-returns-in_err-head t c = let p = err_from_is_err_and c.from_residual-in_err-head.result c.from_residual-in_err-head.ensures.1 in rw (p.1, p.2) (fails_row (fails_after c.in_ok-next.ensures (fails_first has_more_end c.in_err-head.ensures)))

pub type_arguments-returns-in_err-all : goal.type_arguments-returns-in_err-all
type_arguments-returns-in_err-all t c = let p = err_from_is_err_and c.from_residual-in_err-all.result c.from_residual-in_err-all.ensures.1 in rw (p.1, p.2) (fails_row (fails_after c.in_ok-next.ensures (fails_second c.in_ok-head.ensures.read (fails_first has_greater c.in_err-all.ensures))))

pub type_arguments-returns-in_err-expect_op : goal.type_arguments-returns-in_err-expect_op
type_arguments-returns-in_err-expect_op t c = let p = err_from_is_err_and c.from_residual-in_err-expect_op.result c.from_residual-in_err-expect_op.ensures.1 in rw (p.1, p.2) (fails_row (fails_after c.in_ok-next.ensures (fails_second c.in_ok-head.ensures.read (fails_second c.in_ok-all.ensures.read c.in_err-expect_op.ensures))))

pub type_arguments-returns : goal.type_arguments-returns
type_arguments-returns t c = all_arguments c.in_ok-next.ensures c.in_ok-head.ensures c.in_ok-all.ensures c.in_ok-expect_op.ensures

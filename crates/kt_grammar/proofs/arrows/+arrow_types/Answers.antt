use Rattle.std.proofs.Common.{refl, sym, ap, ◌∙◌, ◌∷◌, ◌++◌, [], drop}
use Rattle.std.proofs.lemmas.Result.{err_from_is_err_and}
use Rattle.grammars.specs.Grammar.{first, row}
use Rattle.kt_grammar.specs.Parsed.{halt_memory}
use Rattle.kt_grammar.specs.Rows as rows
use Rattle.kt_grammar.specs.Rows.{question_marks}
use Rattle.kt_grammar.specs.TypesBuilt as built
use Rattle.kt_grammar.proofs.Advances.{halts_row, halts_first, halts_left, halts_right, halts_second, halts_after}
use Rattle.kt_grammar.proofs.ArrowRows.{name_part, core_part, has_type_before, has_to_type_before, has_result, has_no_result, has_first_part, has_bracketed_part, empty_before, bracketed_before, many_before, only_before, one_before, parameter_before, result_halts, result_before}
use Rattle.kt_grammar.proofs.OperandRows.{core_bracketed, core_named, marks_from, from_near}
use Rattle.kt_grammar.proofs.Steps.{standing}
use Rattle.kt_grammar.proofs.TypeRows.{has_marks}
use Rattle.kt_grammar.proofs.arrows.+arrow_types.Goals as goal

pub type_before_arrow-returns-in_err-core : goal.type_before_arrow-returns-in_err-core
type_before_arrow-returns-in_err-core t c = let p = err_from_is_err_and c.from_residual.result c.from_residual.ensures.1 in rw (p.1, p.2) (halts_row (halts_first has_marks c.in_err-core.ensures))

pub type_before_arrow-returns : goal.type_before_arrow-returns
type_before_arrow-returns t c = marks_from rows.type_before_arrow core_part refl refl c.in_ok-core.ensures c.behind.result (from_near question_marks (built.nullables (first (drop c.args.at.at c.args.tokens.now)) c.in_ok-core.core) c.args.tokens.now c.in_ok-core.end c.nullables.result c.behind.result c.behind.ensures c.nullables.ensures)

pub core_before_arrow-returns-then-is_op_at : goal.core_before_arrow-returns-then-is_op_at
core_before_arrow-returns-then-is_op_at t c = core_bracketed rows.bracketed_before_arrow name_part c.args.tokens.now c.args.at c.requires (sym c.is_op_at.ensures ∙ c.if-is_op_at.true) c.bracketed_before_arrow.result c.bracketed_before_arrow.ensures

pub core_before_arrow-returns : goal.core_before_arrow-returns
core_before_arrow-returns t c = core_named rows.bracketed_before_arrow name_part c.args.tokens.now c.args.at c.requires (sym c.is_op_at.ensures ∙ c.if-is_op_at.false) c.behind.result (from_near name_part built.named_of c.args.tokens.now c.args.at c.named_type.result c.behind.result c.behind.ensures c.named_type.ensures)

pub bracketed_before_arrow-returns-in_err-next : goal.bracketed_before_arrow-returns-in_err-next
bracketed_before_arrow-returns-in_err-next t c = let p = err_from_is_err_and c.from_residual.result c.from_residual.ensures.1 in rw (p.1, p.2) (halts_row (halts_first has_bracketed_part c.in_err-next.ensures))

pub bracketed_before_arrow-returns-in_err-output : goal.bracketed_before_arrow-returns-in_err-output
bracketed_before_arrow-returns-in_err-output t c = let p = err_from_is_err_and c.from_residual-in_err-output.result c.from_residual-in_err-output.ensures.1 in rw (p.1, p.2) (halts_row (halts_after c.in_ok-next.ensures.taken c.in_ok-next.ensures.so_far (halts_left c.in_ok-next.ensures.taken.within (sym c.is_op_at.ensures ∙ c.if-is_op_at.true) c.in_err-output.ensures)))

pub bracketed_before_arrow-returns-in_err-function : goal.bracketed_before_arrow-returns-in_err-function
bracketed_before_arrow-returns-in_err-function t c = let p = err_from_is_err_and c.from_residual-in_err-function.result c.from_residual-in_err-function.ensures.1 in rw (p.1, p.2) (halt_memory)

pub bracketed_before_arrow-returns-then-is_op_at : goal.bracketed_before_arrow-returns-then-is_op_at
bracketed_before_arrow-returns-then-is_op_at t c = empty_before c.in_ok-next.ensures (sym c.is_op_at.ensures ∙ c.if-is_op_at.true) c.in_ok-output.ensures c.span_between-span.ensures c.new-none.ensures c.in_ok-function.ensures

pub bracketed_before_arrow-returns-in_err-head : goal.bracketed_before_arrow-returns-in_err-head
bracketed_before_arrow-returns-in_err-head t c = let p = err_from_is_err_and c.from_residual-in_err-head.result c.from_residual-in_err-head.ensures.1 in rw (p.1, p.2) (halts_row (halts_after c.in_ok-next.ensures.taken c.in_ok-next.ensures.so_far (halts_right c.in_ok-next.ensures.taken.within (sym c.is_op_at.ensures ∙ c.if-is_op_at.false) (halts_first has_first_part (from_near (row rows.type_) built.type_of c.args.tokens.now c.in_ok-next.next c.type_at.result _ c.in_err-head.ensures c.type_at.ensures)))))

pub bracketed_before_arrow-returns : goal.bracketed_before_arrow-returns
bracketed_before_arrow-returns t c = bracketed_before c.in_ok-next.ensures (sym c.is_op_at.ensures ∙ c.if-is_op_at.false) (from_near (row rows.type_) built.type_of c.args.tokens.now c.in_ok-next.next c.type_at.result _ c.in_ok-head.ensures c.type_at.ensures) c.behind_first.result c.behind_first.ensures

pub behind_first-returns-in_default : goal.behind_first-returns-in_default
behind_first-returns-in_default t c = only_before c.args.start c.args.tokens.now c.args.at c.args.head c.requires c.in_default.ensures c.behind_only.result c.behind_only.ensures

pub behind_first-returns-in_err-parameters : goal.behind_first-returns-in_err-parameters
behind_first-returns-in_err-parameters t c = let p = err_from_is_err_and c.from_residual.result c.from_residual.ensures.1 in rw (p.1, p.2) (halts_left c.requires (standing c.in-Some.ensures.taken) (halts_after c.in-Some.ensures.taken c.in-Some.ensures.so_far (halts_first has_result (from_near (row rows.types) (λ x. c.args.head ∷ built.types_of x) c.args.tokens.now c.in-Some.next c.more_types.result _ c.in_err-parameters.ensures c.more_types.ensures))))

pub behind_first-returns-in_err-output : goal.behind_first-returns-in_err-output
behind_first-returns-in_err-output t c = let p = err_from_is_err_and c.from_residual-in_err-output.result c.from_residual-in_err-output.ensures.1 in rw (p.1, p.2) (let q = (from_near (row rows.types) (λ x. c.args.head ∷ built.types_of x) c.args.tokens.now c.in-Some.next c.more_types.result _ c.in_ok-parameters.ensures c.more_types.ensures) in halts_left c.requires (standing c.in-Some.ensures.taken) (halts_after c.in-Some.ensures.taken c.in-Some.ensures.so_far (halts_second q.read q.so_far c.in_err-output.ensures)))

pub behind_first-returns-in_err-function : goal.behind_first-returns-in_err-function
behind_first-returns-in_err-function t c = let p = err_from_is_err_and c.from_residual-in_err-function.result c.from_residual-in_err-function.ensures.1 in rw (p.1, p.2) (halt_memory)

pub behind_first-returns : goal.behind_first-returns
behind_first-returns t c = many_before c.args.start c.in-Some.ensures (from_near (row rows.types) (λ x. c.args.head ∷ built.types_of x) c.args.tokens.now c.in-Some.next c.more_types.result _ c.in_ok-parameters.ensures c.more_types.ensures) c.in_ok-output.ensures c.span_between-span.ensures c.in_ok-function.ensures

pub behind_only-returns-in_err-close : goal.behind_only-returns-in_err-close
behind_only-returns-in_err-close t c = let p = err_from_is_err_and c.from_residual.result c.from_residual.ensures.1 in rw (p.1, p.2) (halts_first has_no_result c.in_err-close.ensures)

pub behind_only-returns-in_err-look : goal.behind_only-returns-in_err-look
behind_only-returns-in_err-look t c = let p = err_from_is_err_and c.from_residual-in_err-look.result c.from_residual-in_err-look.ensures.1 in rw (p.1, p.2) (halt_memory)

pub behind_only-returns-then-not-look : goal.behind_only-returns-then-not-look
behind_only-returns-then-not-look t c = one_before c.args.start c.in_ok-look.look.end c.seen-mid.result c.in_ok-close.ensures (sym c.in_ok-look.ensures.0 ∙ c.if-not-look.true) c.in_ok-look.ensures.1 c.seen-mid.ensures

pub behind_only-returns-in_err-next : goal.behind_only-returns-in_err-next
behind_only-returns-in_err-next t c = let p = err_from_is_err_and c.from_residual-in_err-next.result c.from_residual-in_err-next.ensures.1 in rw (p.1, p.2) (result_halts c.in_ok-look.look.end c.seen-mid.result c.in_ok-close.ensures (sym c.in_ok-look.ensures.0 ∙ c.if-not-look.false) c.in_ok-look.ensures.1 c.seen-mid.ensures (halts_first has_type_before c.in_err-next.ensures))

pub behind_only-returns-in_err-output : goal.behind_only-returns-in_err-output
behind_only-returns-in_err-output t c = let p = err_from_is_err_and c.from_residual-in_err-output.result c.from_residual-in_err-output.ensures.1 in rw (p.1, p.2) (result_halts c.in_ok-look.look.end c.seen-mid.result c.in_ok-close.ensures (sym c.in_ok-look.ensures.0 ∙ c.if-not-look.false) c.in_ok-look.ensures.1 c.seen-mid.ensures (halts_after c.in_ok-next.ensures.taken c.in_ok-next.ensures.so_far c.in_err-output.ensures))

pub behind_only-returns-in_err-push : goal.behind_only-returns-in_err-push
behind_only-returns-in_err-push t c = let p = err_from_is_err_and c.from_residual-in_err-push.result c.from_residual-in_err-push.ensures.1 in rw (p.1, p.2) (halt_memory)

pub behind_only-returns-in_err-function : goal.behind_only-returns-in_err-function
behind_only-returns-in_err-function t c = let p = err_from_is_err_and c.from_residual-in_err-function.result c.from_residual-in_err-function.ensures.1 in rw (p.1, p.2) (halt_memory)

pub behind_only-returns : goal.behind_only-returns
behind_only-returns t c = parameter_before c.args.start c.in_ok-look.look.end c.seen-mid.result c.in_ok-close.ensures (sym c.in_ok-look.ensures.0 ∙ c.if-not-look.false) c.in_ok-look.ensures.1 c.seen-mid.ensures c.in_ok-next.ensures c.in_ok-output.ensures c.span_between-span.ensures (c.in_ok-push.ensures.ok ∙ ap (λ m. m ++ c.args.head ∷ []) c.new-parameters.ensures) c.in_ok-function.ensures

pub result_before_arrow-returns-in_err-close : goal.result_before_arrow-returns-in_err-close
result_before_arrow-returns-in_err-close t c = let p = err_from_is_err_and c.from_residual.result c.from_residual.ensures.1 in rw (p.1, p.2) (halts_first has_to_type_before c.in_err-close.ensures)

pub result_before_arrow-returns-in_err-next : goal.result_before_arrow-returns-in_err-next
result_before_arrow-returns-in_err-next t c = let p = err_from_is_err_and c.from_residual-in_err-next.result c.from_residual-in_err-next.ensures.1 in rw (p.1, p.2) (halts_after c.in_ok-close.ensures.taken c.in_ok-close.ensures.so_far (halts_first has_type_before c.in_err-next.ensures))

pub result_before_arrow-returns : goal.result_before_arrow-returns
result_before_arrow-returns t c = result_before c.in_ok-close.ensures c.in_ok-next.ensures c.type_before_arrow.result c.type_before_arrow.ensures

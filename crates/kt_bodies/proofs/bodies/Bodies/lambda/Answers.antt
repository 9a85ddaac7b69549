use Rattle.std.proofs.lemmas.Result.{err_from_is_err_and}
use Rattle.kt_grammar.proofs.Advances.{halts_row, halts_first, halts_after}
use Rattle.kt_bodies.proofs.LambdaRows.{has_in_lambda, lambda_from}
use Rattle.kt_bodies.proofs.bodies.Bodies.lambda.Goals as goal

pub returns-in_err-next : goal.returns-in_err-next
returns-in_err-next g c = let p = err_from_is_err_and c.from_residual.result c.from_residual.ensures.1 in rw (p.1, p.2) (halts_row (halts_first has_in_lambda c.in_err-next.ensures))

pub returns-in_err-inside : goal.returns-in_err-inside
returns-in_err-inside g c = let p = err_from_is_err_and c.from_residual-in_err-inside.result c.from_residual-in_err-inside.ensures.1 in rw (p.1, p.2) (halts_row (halts_after c.in_ok-next.ensures.taken c.in_ok-next.ensures.so_far c.in_err-inside.ensures))

pub returns : goal.returns
returns g c = lambda_from c.args.label c.span_between-span.result c.in_ok-next.ensures c.in_ok-inside.ensures c.span_between-span.ensures c.lambda.ensures

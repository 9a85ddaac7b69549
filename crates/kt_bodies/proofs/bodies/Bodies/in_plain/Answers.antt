use Rattle.std.proofs.lemmas.Result.{err_from_is_err_and}
use Rattle.kt_grammar.proofs.Advances.{halts_first}
use Rattle.kt_bodies.proofs.Looking.{looked_so, halts_looked_left, halts_looked_right}
use Rattle.kt_bodies.proofs.LambdaRows.{has_behind_arrow, plain_without, plain_with}
use Rattle.kt_bodies.proofs.bodies.Bodies.in_plain.Goals as goal

pub returns-in_err-body : goal.returns-in_err-body
returns-in_err-body g c = let p = err_from_is_err_and c.from_residual.result c.from_residual.ensures.1 in rw (p.1, p.2) (halts_looked_right (looked_so c.if-not-holds.true c.look_for_parameters-holds.ensures) c.in_err-body.ensures)

pub returns-then-not-holds : goal.returns-then-not-holds
returns-then-not-holds g c = plain_without (looked_so c.if-not-holds.true c.look_for_parameters-holds.ensures) c.in_ok-body.ensures c.new-none.ensures

pub returns-in_err-params : goal.returns-in_err-params
returns-in_err-params g c = let p = err_from_is_err_and c.from_residual-in_err-params.result c.from_residual-in_err-params.ensures.1 in rw (p.1, p.2) (halts_looked_left (looked_so c.if-not-holds.false c.look_for_parameters-holds.ensures) (halts_first has_behind_arrow c.in_err-params.ensures))

pub returns : goal.returns
returns g c = plain_with (looked_so c.if-not-holds.false c.look_for_parameters-holds.ensures) c.new-none.ensures c.in_ok-params.ensures c.behind_parameters.result c.behind_parameters.ensures

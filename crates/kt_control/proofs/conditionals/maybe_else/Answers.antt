use Rattle.std.proofs.lemmas.Result.{err_from_is_err_and}
use Rattle.kt_bodies.proofs.Looking.{looked_so, halts_looked_left}
use Rattle.kt_control.proofs.ConditionalRows.{no_else, one_else}
use Rattle.kt_control.proofs.conditionals.maybe_else.Goals as goal

pub returns-then-not-holds : goal.returns-then-not-holds
returns-then-not-holds g c = no_else (looked_so c.if-not-holds.true c.look_for_else-holds.ensures)

pub returns-in_err-found : goal.returns-in_err-found
returns-in_err-found g c = let p = err_from_is_err_and c.from_residual.result c.from_residual.ensures.1 in rw (p.1, p.2) (halts_looked_left (looked_so c.if-not-holds.false c.look_for_else-holds.ensures) c.in_err-found.ensures)

pub returns : goal.returns
returns g c = one_else (looked_so c.if-not-holds.false c.look_for_else-holds.ensures) c.in_ok-found.ensures

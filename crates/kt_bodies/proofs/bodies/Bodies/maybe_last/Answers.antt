use Rattle.std.proofs.lemmas.Result.{err_from_is_err_and}
use Rattle.kt_bodies.proofs.Looking.{looked_so, halts_looked_left}
use Rattle.kt_bodies.proofs.TryRows.{no_last, one_last}
use Rattle.kt_bodies.proofs.bodies.Bodies.maybe_last.Goals as goal

pub returns-then-not-holds : goal.returns-then-not-holds
returns-then-not-holds g c = no_last (looked_so c.if-not-holds.true c.look_for_finally-holds.ensures)

pub returns-in_err-last : goal.returns-in_err-last
returns-in_err-last g c = let p = err_from_is_err_and c.from_residual.result c.from_residual.ensures.1 in rw (p.1, p.2) (halts_looked_left (looked_so c.if-not-holds.false c.look_for_finally-holds.ensures) c.in_err-last.ensures)

pub returns : goal.returns
returns g c = one_last (looked_so c.if-not-holds.false c.look_for_finally-holds.ensures) c.in_ok-last.ensures

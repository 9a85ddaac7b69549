use Rattle.std.proofs.lemmas.Result.{err_from_is_err_and}
use Rattle.kt_grammar.proofs.Advances.{halts_row, halts_first, halts_after}
use Rattle.kt_bodies.proofs.TryRows.{has_caught_block, has_block, catch_from}
use Rattle.kt_bodies.proofs.bodies.Bodies.catch_.Goals as goal

pub returns-in_err-next : goal.returns-in_err-next
returns-in_err-next g c = let p = err_from_is_err_and c.from_residual.result c.from_residual.ensures.1 in rw (p.1, p.2) (halts_row (halts_first has_caught_block c.in_err-next.ensures))

pub returns-in_err-caught : goal.returns-in_err-caught
returns-in_err-caught g c = let p = err_from_is_err_and c.from_residual-in_err-caught.result c.from_residual-in_err-caught.ensures.1 in rw (p.1, p.2) (let o = c.in_ok-next.ensures in halts_row (halts_after o.taken o.so_far (halts_first has_block c.in_err-caught.ensures)))

pub returns : goal.returns
returns g c = catch_from c.args.before c.in_ok-next.ensures c.in_ok-caught.ensures c.handler.result c.handler.ensures

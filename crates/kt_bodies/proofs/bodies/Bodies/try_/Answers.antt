use Rattle.std.proofs.lemmas.Result.{err_from_is_err_and}
use Rattle.kt_grammar.proofs.Advances.{halts_row, halts_first, halts_second, halts_after}
use Rattle.kt_bodies.proofs.TryRows.{has_block_clauses, has_clauses, try_from}
use Rattle.kt_bodies.proofs.bodies.Bodies.try_.Goals as goal

pub returns-in_err-next : goal.returns-in_err-next
returns-in_err-next g c = let p = err_from_is_err_and c.from_residual.result c.from_residual.ensures.1 in rw (p.1, p.2) (halts_row (halts_first has_block_clauses c.in_err-next.ensures))

pub returns-in_err-body : goal.returns-in_err-body
returns-in_err-body g c = let p = err_from_is_err_and c.from_residual-in_err-body.result c.from_residual-in_err-body.ensures.1 in rw (p.1, p.2) (let o = c.in_ok-next.ensures in halts_row (halts_after o.taken o.so_far (halts_first has_clauses c.in_err-body.ensures)))

pub returns-in_err-clauses : goal.returns-in_err-clauses
returns-in_err-clauses g c = let p = err_from_is_err_and c.from_residual-in_err-clauses.result c.from_residual-in_err-clauses.ensures.1 in rw (p.1, p.2) (let o = c.in_ok-next.ensures in let p = c.in_ok-body.ensures in halts_row (halts_after o.taken o.so_far (halts_second p.read p.so_far c.in_err-clauses.ensures)))

pub returns : goal.returns
returns g c = try_from c.span_between-span.result c.in_ok-next.ensures c.in_ok-body.ensures c.in_ok-clauses.ensures c.span_between-span.ensures c.tried.ensures

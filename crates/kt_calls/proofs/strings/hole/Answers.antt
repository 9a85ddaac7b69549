use Rattle.std.proofs.lemmas.Result.{err_from_is_err_and}
use Rattle.kt_grammar.proofs.Advances.{halts_first, halts_second, halts_after}
use Rattle.kt_calls.proofs.StringRows.{has_in_hole, has_hole_close, hole_from}
use Rattle.kt_calls.proofs.strings.hole.Goals as goal

pub returns-in_err-next : goal.returns-in_err-next
returns-in_err-next g c = let p = err_from_is_err_and c.from_residual.result c.from_residual.ensures.1 in rw (p.1, p.2) (halts_first has_in_hole c.in_err-next.ensures)

pub returns-in_err-value : goal.returns-in_err-value
returns-in_err-value g c = let p = err_from_is_err_and c.from_residual-in_err-value.result c.from_residual-in_err-value.ensures.1 in rw (p.1, p.2) (let o = c.in_ok-next.ensures in halts_after o.taken o.so_far (halts_first has_hole_close c.in_err-value.ensures))

pub returns-in_err-end : goal.returns-in_err-end
returns-in_err-end g c = let p = err_from_is_err_and c.from_residual-in_err-end.result c.from_residual-in_err-end.ensures.1 in rw (p.1, p.2) (let o = c.in_ok-next.ensures in let q = c.in_ok-value.ensures in halts_after o.taken o.so_far (halts_second q.read q.so_far c.in_err-end.ensures))

pub returns : goal.returns
returns g c = hole_from c.in_ok-next.ensures c.in_ok-value.ensures c.in_ok-end.ensures

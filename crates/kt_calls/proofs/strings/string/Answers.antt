use Rattle.std.proofs.lemmas.Result.{err_from_is_err_and}
use Rattle.kt_grammar.proofs.Advances.{halts_row, halts_first, halts_second, halts_after}
use Rattle.kt_calls.proofs.StringRows.{has_in_string, has_string_close, string_from}
use Rattle.kt_calls.proofs.strings.string.Goals as goal

pub returns-in_err-next : goal.returns-in_err-next
returns-in_err-next g c = let p = err_from_is_err_and c.from_residual.result c.from_residual.ensures.1 in rw (p.1, p.2) (halts_row (halts_first has_in_string c.in_err-next.ensures))

pub returns-in_err-all : goal.returns-in_err-all
returns-in_err-all g c = let p = err_from_is_err_and c.from_residual-in_err-all.result c.from_residual-in_err-all.ensures.1 in rw (p.1, p.2) (halts_row (let o = c.in_ok-next.ensures in halts_after o.taken o.so_far (halts_first has_string_close c.in_err-all.ensures)))

pub returns-in_err-end : goal.returns-in_err-end
returns-in_err-end g c = let p = err_from_is_err_and c.from_residual-in_err-end.result c.from_residual-in_err-end.ensures.1 in rw (p.1, p.2) (halts_row (let o = c.in_ok-next.ensures in let q = c.in_ok-all.ensures in halts_after o.taken o.so_far (halts_second q.read q.so_far c.in_err-end.ensures)))

pub returns : goal.returns
returns g c = string_from c.new.result c.in_ok-next.ensures c.new.ensures c.in_ok-all.ensures c.in_ok-end.ensures c.span_between-span.ensures c.string_node.ensures

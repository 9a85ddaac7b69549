use Rattle.std.proofs.lemmas.Result.{err_from_is_err_and}
use Rattle.kt_grammar.proofs.Advances.{halts_row, halts_first, halts_second, halts_after}
use Rattle.kt_members.proofs.SetterRows.{has_behind_set, setter_from}
use Rattle.kt_members.proofs.TokenRows.{has_body}
use Rattle.kt_members.proofs.setters.setter.Goals as goal

pub returns-in_err-next : goal.returns-in_err-next
returns-in_err-next c = let p = err_from_is_err_and c.from_residual.result c.from_residual.ensures.1 in rw (p.1, p.2) (halts_row (halts_first has_behind_set c.in_err-next.ensures))

pub returns-in_err-name : goal.returns-in_err-name
returns-in_err-name c = let p = err_from_is_err_and c.from_residual-in_err-name.result c.from_residual-in_err-name.ensures.1 in rw (p.1, p.2) (let o = c.in_ok-next.ensures in halts_row (halts_after o.taken o.so_far (halts_first has_body c.in_err-name.ensures)))

pub returns-in_err-body : goal.returns-in_err-body
returns-in_err-body c = let p = err_from_is_err_and c.from_residual-in_err-body.result c.from_residual-in_err-body.ensures.1 in rw (p.1, p.2) (let o = c.in_ok-next.ensures in let n = c.in_ok-name.ensures in halts_row (halts_after o.taken o.so_far (halts_second n.read n.so_far c.in_err-body.ensures)))

pub returns : goal.returns
returns c = setter_from c.span_between-span.result c.in_ok-next.ensures c.in_ok-name.ensures c.in_ok-body.ensures c.span_between-span.ensures c.setter_with.ensures

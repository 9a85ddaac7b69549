use Rattle.std.proofs.lemmas.Result.{err_from_is_err_and}
use Rattle.kt_grammar.proofs.Advances.{halts_row, halts_first, halts_after}
use Rattle.kt_control.proofs.LocalRows.{has_behind_word, local_from}
use Rattle.kt_control.proofs.locals.local.Goals as goal

pub returns-in_err-next : goal.returns-in_err-next
returns-in_err-next g c = let p = err_from_is_err_and c.from_residual.result c.from_residual.ensures.1 in rw (p.1, p.2) (halts_row (halts_first has_behind_word c.in_err-next.ensures))

pub returns-in_err-found : goal.returns-in_err-found
returns-in_err-found g c = let p = err_from_is_err_and c.from_residual-in_err-found.result c.from_residual-in_err-found.ensures.1 in rw (p.1, p.2) (let o = c.in_ok-next.ensures in halts_row (halts_after o.taken o.so_far c.in_err-found.ensures))

pub returns : goal.returns
returns g c = local_from c.in_ok-next.ensures c.in_ok-found.ensures c.across-span.ensures c.local_node.ensures

use Rattle.std.proofs.lemmas.Result.{err_from_is_err_and}
use Rattle.kt_grammar.specs.Parsed.{halt_memory}
use Rattle.kt_grammar.proofs.Advances.{halts_first, halts_after}
use Rattle.kt_control.proofs.LocalRows.{value_from}
use Rattle.kt_grammar.proofs.OperatorRows.{has_expression}
use Rattle.kt_control.proofs.locals.value_at.Goals as goal

pub returns-in_err-next : goal.returns-in_err-next
returns-in_err-next g c = let p = err_from_is_err_and c.from_residual.result c.from_residual.ensures.1 in rw (p.1, p.2) (halts_first has_expression c.in_err-next.ensures)

pub returns-in_err-found : goal.returns-in_err-found
returns-in_err-found g c = let p = err_from_is_err_and c.from_residual-in_err-found.result c.from_residual-in_err-found.ensures.1 in rw (p.1, p.2) (let o = c.in_ok-next.ensures in halts_after o.taken o.so_far c.in_err-found.ensures)

pub returns-in_err-kept : goal.returns-in_err-kept
returns-in_err-kept g c = let p = err_from_is_err_and c.from_residual-in_err-kept.result c.from_residual-in_err-kept.ensures.1 in rw (p.1, p.2) (halt_memory)

pub returns : goal.returns
returns g c = value_from c.in_ok-next.ensures c.in_ok-found.ensures c.in_ok-kept.ensures

use Rattle.std.proofs.lemmas.Result.{err_from_is_err_and}
use Rattle.kt_grammar.proofs.Advances.{halts_first, halts_second}
use Rattle.kt_control.proofs.ConditionalRows.{has_no_else, arms_from}
use Rattle.kt_control.proofs.conditionals.behind_test.Goals as goal

pub returns-in_err-held : goal.returns-in_err-held
returns-in_err-held g c = let p = err_from_is_err_and c.from_residual.result c.from_residual.ensures.1 in rw (p.1, p.2) (halts_first has_no_else c.in_err-held.ensures)

pub returns-in_err-failed : goal.returns-in_err-failed
returns-in_err-failed g c = let p = err_from_is_err_and c.from_residual-in_err-failed.result c.from_residual-in_err-failed.ensures.1 in rw (p.1, p.2) (let q = c.in_ok-held.ensures in halts_second q.read q.so_far c.in_err-failed.ensures)

pub returns : goal.returns
returns g c = arms_from c.in_ok-held.ensures c.in_ok-failed.ensures

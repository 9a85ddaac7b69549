use Rattle.std.proofs.lemmas.Result.{err_from_is_err_and}
use Rattle.kt_grammar.proofs.Advances.{halts_first}
use Rattle.kt_control.proofs.LoopRows.{has_over, inside_from}
use Rattle.kt_control.proofs.loops.inside.Goals as goal

pub returns-in_err-found : goal.returns-in_err-found
returns-in_err-found g c = let p = err_from_is_err_and c.from_residual.result c.from_residual.ensures.1 in rw (p.1, p.2) (halts_first has_over c.in_err-found.ensures)

pub returns : goal.returns
returns g c = inside_from c.in_ok-found.ensures c.behind_variables.result c.behind_variables.ensures

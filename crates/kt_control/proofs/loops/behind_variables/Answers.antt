use Rattle.std.proofs.lemmas.Result.{err_from_is_err_and}
use Rattle.kt_control.proofs.LoopRows.{head_from}
use Rattle.kt_control.proofs.loops.behind_variables.Goals as goal

pub returns-in_err-range : goal.returns-in_err-range
returns-in_err-range g c = let p = err_from_is_err_and c.from_residual.result c.from_residual.ensures.1 in rw (p.1, p.2) c.in_err-range.ensures

pub returns : goal.returns
returns g c = head_from c.args.variables c.in_ok-range.ensures c.place_at-token.ensures

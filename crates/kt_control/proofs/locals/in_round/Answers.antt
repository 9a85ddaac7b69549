use Rattle.std.proofs.lemmas.Result.{err_from_is_err_and}
use Rattle.kt_grammar.proofs.Advances.{halts_first}
use Rattle.kt_control.proofs.LocalRows.{has_value, in_round_from}
use Rattle.kt_control.proofs.locals.in_round.Goals as goal

pub returns-in_err-all : goal.returns-in_err-all
returns-in_err-all g c = let p = err_from_is_err_and c.from_residual.result c.from_residual.ensures.1 in rw (p.1, p.2) (halts_first has_value c.in_err-all.ensures)

pub returns : goal.returns
returns g c = in_round_from c.in_ok-all.ensures c.with_value.result c.with_value.ensures

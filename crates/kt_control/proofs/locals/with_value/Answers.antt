use Rattle.std.proofs.lemmas.Result.{err_from_is_err_and}
use Rattle.kt_control.proofs.LocalRows.{valued_from}
use Rattle.kt_control.proofs.locals.with_value.Goals as goal

pub returns-in_err-value : goal.returns-in_err-value
returns-in_err-value g c = let p = err_from_is_err_and c.from_residual.result c.from_residual.ensures.1 in rw (p.1, p.2) c.in_err-value.ensures

pub returns : goal.returns
returns g c = valued_from c.args.names c.args.brackets c.in_ok-value.ensures c.span_of-last.ensures

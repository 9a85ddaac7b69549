use Rattle.std.proofs.lemmas.Result.{err_from_is_err_and}
use Rattle.kt_calls.proofs.SuffixRows.{called_from}
use Rattle.kt_calls.proofs.endings.called.Goals as goal

pub returns-in_err-args : goal.returns-in_err-args
returns-in_err-args g c = let p = err_from_is_err_and c.from_residual.result c.from_residual.ensures.1 in rw (p.1, p.2) c.in_err-args.ensures

pub returns : goal.returns
returns g c = called_from c.args.types c.in_ok-args.ensures c.span_at-token.ensures c.span_between-span.ensures c.call_ending.ensures

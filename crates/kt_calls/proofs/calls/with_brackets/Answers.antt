use Rattle.std.proofs.lemmas.Result.{err_from_is_err_and}
use Rattle.kt_grammar.proofs.Advances.{halts_first}
use Rattle.kt_calls.proofs.CallRows.{has_maybe_on_line, brackets_from}
use Rattle.kt_calls.proofs.calls.with_brackets.Goals as goal

pub returns-in_err-all : goal.returns-in_err-all
returns-in_err-all g c = let p = err_from_is_err_and c.from_residual.result c.from_residual.ensures.1 in rw (p.1, p.2) (halts_first has_maybe_on_line c.in_err-all.ensures)

pub returns : goal.returns
returns g c = brackets_from c.in_ok-all.ensures c.maybe_on_line.result c.maybe_on_line.ensures

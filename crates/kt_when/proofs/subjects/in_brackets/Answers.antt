use Rattle.std.proofs.lemmas.Result.{err_from_is_err_and}
use Rattle.kt_grammar.proofs.Advances.{halts_first, halts_second}
use Rattle.kt_grammar.proofs.OperatorRows.{has_expression}
use Rattle.kt_when.proofs.SubjectRows.{brackets_from}
use Rattle.kt_when.proofs.subjects.in_brackets.Goals as goal

pub returns-in_err-bound : goal.returns-in_err-bound
returns-in_err-bound g c = let p = err_from_is_err_and c.from_residual.result c.from_residual.ensures.1 in rw (p.1, p.2) (halts_first has_expression c.in_err-bound.ensures)

pub returns-in_err-value : goal.returns-in_err-value
returns-in_err-value g c = let p = err_from_is_err_and c.from_residual-in_err-value.result c.from_residual-in_err-value.ensures.1 in rw (p.1, p.2) (let p = c.in_ok-bound.ensures in halts_second p.read p.so_far c.in_err-value.ensures)

pub returns : goal.returns
returns g c = brackets_from c.in_ok-bound.ensures c.in_ok-value.ensures

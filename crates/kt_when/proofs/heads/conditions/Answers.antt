use Rattle.std.proofs.lemmas.Result.{err_from_is_err_and}
use Rattle.kt_grammar.proofs.Advances.{halts_first, halts_second}
use Rattle.kt_when.proofs.ConditionRows.{has_no_conditions, conditions_from}
use Rattle.kt_when.proofs.heads.conditions.Goals as goal

pub returns-in_err-one : goal.returns-in_err-one
returns-in_err-one g c = let p = err_from_is_err_and c.from_residual.result c.from_residual.ensures.1 in rw (p.1, p.2) (halts_first has_no_conditions c.in_err-one.ensures)

pub returns-in_err-all : goal.returns-in_err-all
returns-in_err-all g c = let p = err_from_is_err_and c.from_residual-in_err-all.result c.from_residual-in_err-all.ensures.1 in rw (p.1, p.2) (let p = c.in_ok-one.ensures in halts_second p.read p.so_far c.in_err-all.ensures)

pub returns : goal.returns
returns g c = conditions_from c.new-none.ensures c.in_ok-one.ensures c.in_ok-all.ensures

use Rattle.std.proofs.lemmas.Result.{err_from_is_err_and}
use Rattle.kt_functions.proofs.TypeParameterRows.{none_written, some_written, written_halts}
use Rattle.kt_functions.proofs.type_parameters.parameters_of_type.Goals as goal

pub returns-in_default : goal.returns-in_default
returns-in_default c = none_written c.new.ensures c.requires c.in_default.ensures

pub returns-in_err-all : goal.returns-in_err-all
returns-in_err-all c = let p = err_from_is_err_and c.from_residual.result c.from_residual.ensures.1 in rw (p.1, p.2) (written_halts c.requires c.in-Some.ensures c.in_err-all.ensures)

pub returns : goal.returns
returns c = some_written c.in-Some.ensures c.in_ok-all.ensures

use Rattle.std.proofs.lemmas.Result.{err_from_is_err_and}
use Rattle.kt_grammar.proofs.Advances.{halts_first, halts_second}
use Rattle.kt_functions.proofs.FunctionRows.{has_ending, signature_from}
use Rattle.kt_functions.proofs.functions.behind_name.Goals as goal

pub returns-in_err-values : goal.returns-in_err-values
returns-in_err-values c = let p = err_from_is_err_and c.from_residual.result c.from_residual.ensures.1 in rw (p.1, p.2) (halts_first (has_ending c.args.is_abstract) c.in_err-values.ensures)

pub returns-in_err-ending : goal.returns-in_err-ending
returns-in_err-ending c = let p = err_from_is_err_and c.from_residual-in_err-ending.result c.from_residual-in_err-ending.ensures.1 in rw (p.1, p.2) (let x = c.in_ok-values.ensures in halts_second x.read x.so_far c.in_err-ending.ensures)

pub returns : goal.returns
returns c = signature_from c.args.is_abstract c.in_ok-values.ensures c.in_ok-ending.ensures

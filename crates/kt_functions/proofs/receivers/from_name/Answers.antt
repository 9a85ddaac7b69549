use Rattle.std.proofs.lemmas.Result.{err_from_is_err_and}
use Rattle.kt_grammar.proofs.Advances.{halts_first}
use Rattle.kt_functions.proofs.ReceiverRows.{has_maybe_receiver, after_name}
use Rattle.kt_functions.proofs.receivers.from_name.Goals as goal

pub returns-in_err-name : goal.returns-in_err-name
returns-in_err-name c = let p = err_from_is_err_and c.from_residual.result c.from_residual.ensures.1 in rw (p.1, p.2) (halts_first has_maybe_receiver c.in_err-name.ensures)

pub returns : goal.returns
returns c = after_name c.in_ok-name.ensures c.maybe_receiver.result c.maybe_receiver.ensures

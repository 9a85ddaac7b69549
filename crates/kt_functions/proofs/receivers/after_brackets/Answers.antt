use Rattle.std.proofs.lemmas.Result.{err_from_is_err_and}
use Rattle.kt_grammar.proofs.Advances.{halts_first, halts_second, halts_after}
use Rattle.kt_grammar.proofs.TypeRows.{has_name}
use Rattle.kt_functions.proofs.ReceiverRows.{has_dotted, after_brackets_from}
use Rattle.kt_functions.proofs.receivers.after_brackets.Goals as goal

pub returns-in_err-ty : goal.returns-in_err-ty
returns-in_err-ty c = let p = err_from_is_err_and c.from_residual.result c.from_residual.ensures.1 in rw (p.1, p.2) (halts_first has_dotted c.in_err-ty.ensures)

pub returns-in_err-dot : goal.returns-in_err-dot
returns-in_err-dot c = let p = err_from_is_err_and c.from_residual-in_err-dot.result c.from_residual-in_err-dot.ensures.1 in rw (p.1, p.2) (let x = c.in_ok-ty.ensures in halts_second x.read x.so_far (halts_first has_name c.in_err-dot.ensures))

pub returns-in_err-name : goal.returns-in_err-name
returns-in_err-name c =
    let p = err_from_is_err_and c.from_residual-in_err-name.result c.from_residual-in_err-name.ensures.1 in
    rw (p.1, p.2) (let x = c.in_ok-ty.ensures in let o = c.in_ok-dot.ensures in halts_second x.read x.so_far (halts_after o.taken o.so_far c.in_err-name.ensures))

pub returns : goal.returns
returns c = after_brackets_from c.in_ok-ty.ensures c.in_ok-dot.ensures c.in_ok-name.ensures

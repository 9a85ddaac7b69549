use Rattle.std.proofs.lemmas.Result.{err_from_is_err_and}
use Rattle.kt_lexer.specs.declared.token.Operator.TheVariants as operator
use Rattle.kt_grammar.proofs.Advances.{halts_first, halts_second, halts_after}
use Rattle.kt_grammar.proofs.TypeRows.{has_op}
use Rattle.kt_calls.proofs.CallRows.{has_arguments_close, in_brackets_from}
use Rattle.kt_calls.proofs.calls.in_brackets.Goals as goal

pub returns-in_err-next : goal.returns-in_err-next
returns-in_err-next g c = let p = err_from_is_err_and c.from_residual.result c.from_residual.ensures.1 in rw (p.1, p.2) (halts_first has_arguments_close c.in_err-next.ensures)

pub returns-in_err-all : goal.returns-in_err-all
returns-in_err-all g c = let p = err_from_is_err_and c.from_residual-in_err-all.result c.from_residual-in_err-all.ensures.1 in rw (p.1, p.2) (let o = c.in_ok-next.ensures in halts_after o.taken o.so_far (halts_first (has_op operator.CloseRound) c.in_err-all.ensures))

pub returns-in_err-close : goal.returns-in_err-close
returns-in_err-close g c = let p = err_from_is_err_and c.from_residual-in_err-close.result c.from_residual-in_err-close.ensures.1 in rw (p.1, p.2) (let o = c.in_ok-next.ensures in let q = c.in_ok-all.ensures in halts_after o.taken o.so_far (halts_second q.read q.so_far c.in_err-close.ensures))

pub returns : goal.returns
returns g c = in_brackets_from c.in_ok-next.ensures c.in_ok-all.ensures c.in_ok-close.ensures

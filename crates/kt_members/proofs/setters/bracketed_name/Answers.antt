use Rattle.std.proofs.lemmas.Result.{err_from_is_err_and}
use Rattle.kt_lexer.specs.declared.token.Operator.TheVariants as operator
use Rattle.kt_grammar.proofs.Advances.{halts_first, halts_after}
use Rattle.kt_grammar.proofs.TypeRows.{has_op}
use Rattle.kt_members.proofs.SetterRows.{has_name_close, name_from}
use Rattle.kt_members.proofs.setters.bracketed_name.Goals as goal

pub returns-in_err-next : goal.returns-in_err-next
returns-in_err-next c = let p = err_from_is_err_and c.from_residual.result c.from_residual.ensures.1 in rw (p.1, p.2) (halts_first has_name_close c.in_err-next.ensures)

pub returns-in_err-name : goal.returns-in_err-name
returns-in_err-name c = let p = err_from_is_err_and c.from_residual-in_err-name.result c.from_residual-in_err-name.ensures.1 in rw (p.1, p.2) (let o = c.in_ok-next.ensures in halts_after o.taken o.so_far (halts_first (has_op operator.CloseRound) c.in_err-name.ensures))

pub returns-in_err-end : goal.returns-in_err-end
returns-in_err-end c = let p = err_from_is_err_and c.from_residual-in_err-end.result c.from_residual-in_err-end.ensures.1 in rw (p.1, p.2) (let o = c.in_ok-next.ensures in let n = c.in_ok-name.ensures in halts_after o.taken o.so_far (halts_after n.taken n.so_far c.in_err-end.ensures))

pub returns : goal.returns
returns c = name_from c.in_ok-next.ensures c.in_ok-name.ensures c.in_ok-end.ensures

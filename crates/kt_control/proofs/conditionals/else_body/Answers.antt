use Rattle.std.proofs.Common.{arith}
use Rattle.std.proofs.lemmas.Result.{err_from_is_err_and}
use Rattle.kt_grammar.proofs.Advances.{halts_first, halts_second, halts_after}
use Rattle.kt_bodies.proofs.StatementRows.{has_statement}
use Rattle.kt_control.proofs.ConditionalRows.{else_from}
use Rattle.kt_control.proofs.conditionals.else_body.Goals as goal

pub returns-in_err-next : goal.returns-in_err-next
returns-in_err-next g c = let p = err_from_is_err_and c.from_residual.result c.from_residual.ensures.1 in rw (p.1, p.2) (let s = c.behind_semicolon-mid.ensures in halts_second s.read (omega (arith, s.so_far)) (halts_first has_statement c.in_err-next.ensures))

pub returns-in_err-found : goal.returns-in_err-found
returns-in_err-found g c = let p = err_from_is_err_and c.from_residual-in_err-found.result c.from_residual-in_err-found.ensures.1 in rw (p.1, p.2) (let s = c.behind_semicolon-mid.ensures in let o = c.in_ok-next.ensures in halts_second s.read (omega (arith, s.so_far)) (halts_after o.taken o.so_far c.in_err-found.ensures))

pub returns : goal.returns
returns g c = else_from c.behind_semicolon-mid.ensures c.in_ok-next.ensures c.in_ok-found.ensures

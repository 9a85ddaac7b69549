use Rattle.std.proofs.lemmas.Result.{err_from_is_err_and}
use Rattle.kt_grammar.proofs.Advances.{halts_row, halts_first, halts_second, halts_after}
use Rattle.kt_grammar.proofs.TypeRows.{has_name}
use Rattle.kt_bodies.proofs.SuperRows.{has_super_end, has_dot_name, super_from}
use Rattle.kt_bodies.proofs.supers.super_.Goals as goal

pub returns-in_err-next : goal.returns-in_err-next
returns-in_err-next c = let p = err_from_is_err_and c.from_residual.result c.from_residual.ensures.1 in rw (p.1, p.2) (halts_row (halts_first has_super_end c.in_err-next.ensures))

pub returns-in_err-of : goal.returns-in_err-of
returns-in_err-of c = let p = err_from_is_err_and c.from_residual-in_err-of.result c.from_residual-in_err-of.ensures.1 in rw (p.1, p.2) (let o = c.in_ok-next.ensures in halts_row (halts_after o.taken o.so_far (halts_first has_dot_name c.in_err-of.ensures)))

pub returns-in_err-dot : goal.returns-in_err-dot
returns-in_err-dot c = let p = err_from_is_err_and c.from_residual-in_err-dot.result c.from_residual-in_err-dot.ensures.1 in rw (p.1, p.2) (let o = c.in_ok-next.ensures in let p = c.in_ok-of.ensures in halts_row (halts_after o.taken o.so_far (halts_second p.read p.so_far (halts_first has_name c.in_err-dot.ensures))))

pub returns-in_err-name : goal.returns-in_err-name
returns-in_err-name c = let p = err_from_is_err_and c.from_residual-in_err-name.result c.from_residual-in_err-name.ensures.1 in rw (p.1, p.2) (let o = c.in_ok-next.ensures in let p = c.in_ok-of.ensures in let d = c.in_ok-dot.ensures in halts_row (halts_after o.taken o.so_far (halts_second p.read p.so_far (halts_after d.taken d.so_far c.in_err-name.ensures))))

pub returns : goal.returns
returns c = super_from c.in_ok-next.ensures c.in_ok-of.ensures c.in_ok-dot.ensures c.in_ok-name.ensures c.span_between-span.ensures c.super_member.ensures

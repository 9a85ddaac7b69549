use Rattle.std.proofs.lemmas.Result.{err_from_is_err_and}
use Rattle.kt_grammar.proofs.Advances.{halts_first, halts_second}
use Rattle.kt_bodies.proofs.TryRows.{has_behind_catch, has_maybe_last, catching_from}
use Rattle.kt_bodies.proofs.bodies.Bodies.with_catches.Goals as goal

pub returns-in_err-first : goal.returns-in_err-first
returns-in_err-first g c = let p = err_from_is_err_and c.from_residual.result c.from_residual.ensures.1 in rw (p.1, p.2) (halts_first has_behind_catch c.in_err-first.ensures)

pub returns-in_err-catches : goal.returns-in_err-catches
returns-in_err-catches g c = let p = err_from_is_err_and c.from_residual-in_err-catches.result c.from_residual-in_err-catches.ensures.1 in rw (p.1, p.2) (let p = c.in_ok-first.ensures in halts_second p.read p.so_far (halts_first has_maybe_last c.in_err-catches.ensures))

pub returns-in_err-last : goal.returns-in_err-last
returns-in_err-last g c = let p = err_from_is_err_and c.from_residual-in_err-last.result c.from_residual-in_err-last.ensures.1 in rw (p.1, p.2) (let p = c.in_ok-first.ensures in let q = c.in_ok-catches.ensures in halts_second p.read p.so_far (halts_second q.read q.so_far c.in_err-last.ensures))

pub returns : goal.returns
returns g c = catching_from c.new-none.ensures c.in_ok-first.ensures c.in_ok-catches.ensures c.in_ok-last.ensures

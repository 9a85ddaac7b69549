use Rattle.std.proofs.lemmas.Result.{err_from_is_err_and}
use Rattle.kt_grammar.proofs.Advances.{halts_row, halts_first, halts_after}
use Rattle.kt_bodies.proofs.StatementRows.{has_to_brace, in_braces}
use Rattle.kt_bodies.proofs.bodies.Bodies.block_statements.Goals as goal

pub returns-in_err-next : goal.returns-in_err-next
returns-in_err-next g c = let p = err_from_is_err_and c.from_residual.result c.from_residual.ensures.1 in rw (p.1, p.2) (halts_row (halts_first has_to_brace c.in_err-next.ensures))

pub returns-in_err-body : goal.returns-in_err-body
returns-in_err-body g c = let p = err_from_is_err_and c.from_residual-in_err-body.result c.from_residual-in_err-body.ensures.1 in rw (p.1, p.2) (halts_row (halts_after c.in_ok-next.ensures.taken c.in_ok-next.ensures.so_far c.in_err-body.ensures))

pub returns : goal.returns
returns g c = in_braces c.in_ok-next.ensures c.in_ok-body.ensures

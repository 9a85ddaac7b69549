use Rattle.std.proofs.lemmas.Result.{err_from_is_err_and}
use Rattle.kt_bodies.proofs.StatementRows.{block_from}
use Rattle.kt_bodies.proofs.bodies.Bodies.block.Goals as goal

pub returns-in_err-body : goal.returns-in_err-body
returns-in_err-body g c = let p = err_from_is_err_and c.from_residual.result c.from_residual.ensures.1 in rw (p.1, p.2) c.in_err-body.ensures

pub returns : goal.returns
returns g c = block_from c.span_between-span.result c.in_ok-body.ensures c.span_between-span.ensures c.block.ensures

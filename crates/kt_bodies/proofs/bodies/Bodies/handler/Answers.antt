use Rattle.std.proofs.lemmas.Result.{err_from_is_err_and}
use Rattle.kt_grammar.specs.Parsed.{halt_memory}
use Rattle.kt_bodies.proofs.TryRows.{handler_from}
use Rattle.kt_bodies.proofs.bodies.Bodies.handler.Goals as goal

pub returns-in_err-body : goal.returns-in_err-body
returns-in_err-body g c = let p = err_from_is_err_and c.from_residual.result c.from_residual.ensures.1 in rw (p.1, p.2) (c.in_err-body.ensures)

pub returns-in_err-push : goal.returns-in_err-push
returns-in_err-push g c = let p = err_from_is_err_and c.from_residual-in_err-push.result c.from_residual-in_err-push.ensures.1 in rw (p.1, p.2) (halt_memory)

pub returns : goal.returns
returns g c = handler_from c.args.before c.push.new.self c.args.start c.args.caught.0 c.args.caught.1 c.in_ok-body.ensures c.span_between-span.ensures c.in_ok-push.ensures.ok

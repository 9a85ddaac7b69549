use Rattle.std.proofs.lemmas.Result.{err_from_is_err_and}
use Rattle.kt_grammar.specs.Parsed.{halt_memory}
use Rattle.kt_control.proofs.ConditionalRows.{body_from}
use Rattle.kt_control.proofs.conditionals.body.Goals as goal

pub returns-in_err-found : goal.returns-in_err-found
returns-in_err-found g c = let p = err_from_is_err_and c.from_residual.result c.from_residual.ensures.1 in rw (p.1, p.2) c.in_err-found.ensures

pub returns-in_err-kept : goal.returns-in_err-kept
returns-in_err-kept g c = let p = err_from_is_err_and c.from_residual-in_err-kept.result c.from_residual-in_err-kept.ensures.1 in rw (p.1, p.2) (halt_memory)

pub returns : goal.returns
returns g c = body_from c.in_ok-found.ensures c.as_body.ensures c.in_ok-kept.ensures

use Rattle.std.proofs.lemmas.Result.{err_from_is_err_and}
use Rattle.kt_grammar.specs.Parsed.{halt_memory}
use Rattle.kt_grammar.proofs.CastRows.{typed_built}
use Rattle.kt_grammar.proofs.casts.type_check.Goals as goal

pub returns-in_err-ty : goal.returns-in_err-ty
returns-in_err-ty c = let p = err_from_is_err_and c.from_residual.result c.from_residual.ensures.1 in rw (p.1, p.2) (c.in_err-ty.ensures)

pub returns-in_err-whole : goal.returns-in_err-whole
returns-in_err-whole c = let p = err_from_is_err_and c.from_residual-in_err-whole.result c.from_residual-in_err-whole.ensures.1 in rw (p.1, p.2) (halt_memory)

pub returns : goal.returns
returns c = typed_built c.args.left c.args.token.now c.in_ok-whole.whole c.span_between-written.result c.in_ok-ty.ensures c.span_between-written.ensures c.in_ok-whole.ensures

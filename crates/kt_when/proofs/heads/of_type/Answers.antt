use Rattle.std.proofs.lemmas.Result.{err_from_is_err_and}
use Rattle.kt_grammar.specs.Parsed.{halt_memory}
use Rattle.kt_when.proofs.ConditionRows.{typed_more}
use Rattle.kt_when.proofs.heads.of_type.Goals as goal

pub returns-in_err-ty : goal.returns-in_err-ty
returns-in_err-ty c = let p = err_from_is_err_and c.from_residual.result c.from_residual.ensures.1 in rw (p.1, p.2) c.in_err-ty.ensures

pub returns-in_err-push : goal.returns-in_err-push
returns-in_err-push c = let p = err_from_is_err_and c.from_residual-in_err-push.result c.from_residual-in_err-push.ensures.1 in rw (p.1, p.2) (halt_memory)

pub returns : goal.returns
returns c = typed_more c.args.before c.push.new.self c.args.token.now c.span_between-span.result c.typed.result c.in_ok-ty.ensures c.span_between-span.ensures c.typed.ensures c.in_ok-push.ensures.ok

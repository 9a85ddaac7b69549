use Rattle.std.proofs.lemmas.Result.{err_from_is_err_and}
use Rattle.kt_grammar.specs.Parsed.{halt_memory}
use Rattle.kt_when.proofs.BranchRows.{body_from}
use Rattle.kt_when.proofs.entries.behind_arrow.Goals as goal

pub returns-in_err-body : goal.returns-in_err-body
returns-in_err-body g c = let p = err_from_is_err_and c.from_residual.result c.from_residual.ensures.1 in rw (p.1, p.2) c.in_err-body.ensures

pub returns-in_err-push : goal.returns-in_err-push
returns-in_err-push g c = let p = err_from_is_err_and c.from_residual-in_err-push.result c.from_residual-in_err-push.ensures.1 in rw (p.1, p.2) (halt_memory)

pub returns : goal.returns
returns g c = body_from c.args.before c.push.new.self c.args.start c.args.conds c.in_ok-body.ensures c.as_body-body.ensures c.span_between-span.ensures c.in_ok-push.ensures.ok

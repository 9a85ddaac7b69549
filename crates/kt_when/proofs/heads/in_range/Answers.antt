use Rattle.std.proofs.lemmas.Result.{err_from_is_err_and}
use Rattle.kt_grammar.specs.Parsed.{halt_memory}
use Rattle.kt_when.specs.Conditions.{contained}
use Rattle.kt_when.proofs.ConditionRows.{pushed}
use Rattle.kt_when.proofs.heads.in_range.Goals as goal

pub returns-in_err-range : goal.returns-in_err-range
returns-in_err-range g c = let p = err_from_is_err_and c.from_residual.result c.from_residual.ensures.1 in rw (p.1, p.2) c.in_err-range.ensures

pub returns-in_err-push : goal.returns-in_err-push
returns-in_err-push g c = let p = err_from_is_err_and c.from_residual-in_err-push.result c.from_residual-in_err-push.ensures.1 in rw (p.1, p.2) (halt_memory)

pub returns : goal.returns
returns g c = pushed (contained c.args.token.now) c.args.before c.push.new.self c.contained.result c.in_ok-range.ensures c.contained.ensures c.in_ok-push.ensures.ok

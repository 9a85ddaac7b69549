use Rattle.std.proofs.lemmas.Result.{err_from_is_err_and}
use Rattle.kt_grammar.specs.Parsed.{no_memory}
use Rattle.kt_grammar.proofs.Steps.{fails_row, fails_first, fails_after}
use Rattle.kt_grammar.proofs.NameRows.{has_no_type, name_from}
use Rattle.kt_grammar.proofs.locals.typed_name.Goals as goal

pub returns-in_err-name : goal.returns-in_err-name
returns-in_err-name c = let p = err_from_is_err_and c.from_residual.result c.from_residual.ensures.1 in rw (p.1, p.2) (fails_row (fails_first has_no_type c.in_err-name.ensures))

pub returns-in_err-ty : goal.returns-in_err-ty
returns-in_err-ty c = let p = err_from_is_err_and c.from_residual-in_err-ty.result c.from_residual-in_err-ty.ensures.1 in rw (p.1, p.2) (fails_row (fails_after c.in_ok-name.ensures.taken c.in_err-ty.ensures))

pub returns-in_err-push : goal.returns-in_err-push
returns-in_err-push c = let p = err_from_is_err_and c.from_residual-in_err-push.result c.from_residual-in_err-push.ensures.1 in rw (p.1, p.2) (no_memory)

pub returns : goal.returns
returns c = name_from c.args.before c.push.new.self c.in_ok-name.ensures c.in_ok-ty.ensures c.in_ok-push.ensures.ok

use Rattle.std.proofs.lemmas.Result.{err_from_is_err_and}
use Rattle.kt_grammar.specs.Parsed.{halt_memory}
use Rattle.kt_files.proofs.ListRows.{declaration_more}
use Rattle.kt_files.proofs.lists.one_more.Goals as goal

pub returns-in_err-found : goal.returns-in_err-found
returns-in_err-found c = let p = err_from_is_err_and c.from_residual.result c.from_residual.ensures.1 in rw (p.1, p.2) c.in_err-found.ensures

pub returns-in_err-push : goal.returns-in_err-push
returns-in_err-push c = let p = err_from_is_err_and c.from_residual-in_err-push.result c.from_residual-in_err-push.ensures.1 in rw (p.1, p.2) (halt_memory)

pub returns : goal.returns
returns c = declaration_more c.args.before c.push.new.self c.in_ok-found.ensures c.in_ok-push.ensures.ok

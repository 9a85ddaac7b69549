use Rattle.std.proofs.lemmas.Result.{err_from_is_err_and}
use Rattle.kt_members.proofs.GetterRows.{braces_from}
use Rattle.kt_members.proofs.getters.getter_in_braces.Goals as goal

pub returns-in_err-statements : goal.returns-in_err-statements
returns-in_err-statements c = let p = err_from_is_err_and c.from_residual.result c.from_residual.ensures.1 in rw (p.1, p.2) (c.in_err-statements.ensures)

pub returns : goal.returns
returns c = braces_from c.args.start c.args.ty c.in_ok-statements.ensures c.span_between-span.ensures

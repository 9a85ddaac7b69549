use Rattle.std.proofs.lemmas.Result.{err_from_is_err_and}
use Rattle.kt_files.proofs.UnmodifiedRows.{declaration_placed}
use Rattle.kt_files.proofs.modified.declaration.Goals as goal

pub returns-in_err-found : goal.returns-in_err-found
returns-in_err-found c = let p = err_from_is_err_and c.from_residual.result c.from_residual.ensures.1 in rw (p.1, p.2) c.in_err-found.ensures

pub returns : goal.returns
returns c = declaration_placed c.in_ok-found.ensures c.span_between-span.ensures c.declaration_at.ensures

use Rattle.std.proofs.Common.{refl}
use Rattle.std.proofs.lemmas.Result.{err_from_is_err_and}
use Rattle.kt_parser.proofs.readers.parse_expr.Goals as goal

pub returns-in_err-found : goal.returns-in_err-found
returns-in_err-found c = let p = err_from_is_err_and c.from_residual.result c.from_residual.ensures.1 in rw (p.1, p.2) (c.in_err-found.ensures)

pub returns : goal.returns
returns c = record { last = c.in_ok-found.end; ends = refl; advanced = c.in_ok-found.ensures }

use Rattle.std.proofs.lemmas.Result.{err_from_is_err_and}
use Rattle.kt_functions.specs.Sites.{site_of}
use Rattle.kt_classes.proofs.BodyRows.{plain_from}
use Rattle.kt_classes.proofs.bodies.plain_body.Goals as goal

pub returns-in_err-all : goal.returns-in_err-all
returns-in_err-all c = let p = err_from_is_err_and c.from_residual.result c.from_residual.ensures.1 in rw (p.1, p.2) (c.in_err-all.ensures)

pub returns : goal.returns
returns c = plain_from (site_of c.args.site) c.in_ok-all.ensures c.plain_parts.ensures

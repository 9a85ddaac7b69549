use Rattle.std.proofs.lemmas.Result.{err_from_is_err_and}
use Rattle.kt_functions.specs.Sites.{site_of}
use Rattle.kt_members.proofs.ModifierRows.{property_kept}
use Rattle.kt_members.proofs.modified.property_member.Goals as goal

pub returns-in_err-found : goal.returns-in_err-found
returns-in_err-found c = let p = err_from_is_err_and c.from_residual.result c.from_residual.ensures.1 in rw (p.1, p.2) (c.in_err-found.ensures)

pub returns : goal.returns
returns c = property_kept (site_of c.args.site) c.args.is_abstract c.in_ok-found.ensures

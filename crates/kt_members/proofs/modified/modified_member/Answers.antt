use Rattle.std.proofs.lemmas.Result.{err_from_is_err_and}
use Rattle.kt_functions.specs.Sites.{site_of}
use Rattle.kt_members.proofs.ModifierRows.{member_placed}
use Rattle.kt_members.proofs.modified.modified_member.Goals as goal

pub returns-in_err-found : goal.returns-in_err-found
returns-in_err-found c = let p = err_from_is_err_and c.from_residual.result c.from_residual.ensures.1 in rw (p.1, p.2) (c.in_err-found.ensures)

pub returns : goal.returns
returns c = member_placed (site_of c.args.site) c.in_ok-found.ensures c.span_between-span.ensures c.modified_member_at.ensures

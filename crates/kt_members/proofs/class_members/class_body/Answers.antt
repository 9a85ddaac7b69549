use Rattle.std.proofs.lemmas.Result.{err_from_is_err_and}
use Rattle.kt_grammar.proofs.Advances.{halts_row, halts_first, halts_after}
use Rattle.kt_functions.specs.Sites.{site_of}
use Rattle.kt_members.proofs.MemberRows.{has_to_brace, in_braces}
use Rattle.kt_members.proofs.class_members.class_body.Goals as goal

pub returns-in_err-next : goal.returns-in_err-next
returns-in_err-next c = let p = err_from_is_err_and c.from_residual.result c.from_residual.ensures.1 in rw (p.1, p.2) (halts_row (halts_first (has_to_brace (site_of c.args.site)) c.in_err-next.ensures))

pub returns-in_err-all : goal.returns-in_err-all
returns-in_err-all c = let p = err_from_is_err_and c.from_residual-in_err-all.result c.from_residual-in_err-all.ensures.1 in rw (p.1, p.2) (halts_row (halts_after c.in_ok-next.ensures.taken c.in_ok-next.ensures.so_far c.in_err-all.ensures))

pub returns : goal.returns
returns c = in_braces (site_of c.args.site) c.in_ok-next.ensures c.in_ok-all.ensures

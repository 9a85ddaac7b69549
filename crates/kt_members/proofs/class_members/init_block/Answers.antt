use Rattle.std.proofs.lemmas.Result.{err_from_is_err_and}
use Rattle.kt_bodies.proofs.TryRows.{has_block}
use Rattle.kt_grammar.proofs.Advances.{halts_first, halts_after}
use Rattle.kt_members.proofs.MemberRows.{init_from}
use Rattle.kt_members.proofs.class_members.init_block.Goals as goal

pub returns-in_err-next : goal.returns-in_err-next
returns-in_err-next c = let p = err_from_is_err_and c.from_residual.result c.from_residual.ensures.1 in rw (p.1, p.2) (halts_first has_block c.in_err-next.ensures)

pub returns-in_err-body : goal.returns-in_err-body
returns-in_err-body c = let p = err_from_is_err_and c.from_residual-in_err-body.result c.from_residual-in_err-body.ensures.1 in rw (p.1, p.2) (let o = c.in_ok-next.ensures in halts_after o.taken o.so_far c.in_err-body.ensures)

pub returns : goal.returns
returns c = init_from c.in_ok-next.ensures c.in_ok-body.ensures c.span_between-span.ensures c.init_member.ensures

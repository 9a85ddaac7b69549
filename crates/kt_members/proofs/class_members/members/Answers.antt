use Rattle.std.proofs.Common.{sym, ◌∙◌, Err}
use Rattle.std.proofs.lemmas.Result.{err_from_is_err_and}
use Rattle.kt_bodies.proofs.Sequences.{sequence_none, sequence_some, turn_from, turn_halts}
use Rattle.kt_functions.specs.Sites.{site_of}
use Rattle.kt_members.proofs.MemberRows.{members_list}
use Rattle.kt_members.proofs.class_members.members.Goals as goal

pub returns-then-not-begins_member : goal.returns-then-not-begins_member
returns-then-not-begins_member c = sequence_none (members_list (site_of c.args.site)) c.new-none.result c.requires.within (sym c.begins_member.ensures ∙ c.if-not-begins_member.true) c.new-none.ensures

pub returns-in_err-all : goal.returns-in_err-all
returns-in_err-all c = let p = err_from_is_err_and c.from_residual.result c.from_residual.ensures.1 in rw p.1
    (sequence_some (members_list (site_of c.args.site)) c.new-none.result c.args.tokens.now c.args.at c.requires.within (sym c.begins_member.ensures ∙ c.if-not-begins_member.false) c.new-none.ensures (Err p.0) (turn_halts (members_list (site_of c.args.site)) (rw p.2 c.in_err-all.ensures)))

pub returns : goal.returns
returns c = sequence_some (members_list (site_of c.args.site)) c.new-none.result c.args.tokens.now c.args.at c.requires.within (sym c.begins_member.ensures ∙ c.if-not-begins_member.false) c.new-none.ensures c.further.result
    (turn_from (members_list (site_of c.args.site)) c.new-none.result c.in_ok-all.all c.in_ok-all.ensures c.further.result c.further.ensures)

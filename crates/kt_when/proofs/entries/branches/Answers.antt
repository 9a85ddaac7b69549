use Rattle.std.proofs.Common.{sym, ◌∙◌, Err}
use Rattle.std.proofs.lemmas.Result.{err_from_is_err_and}
use Rattle.kt_bodies.proofs.Sequences.{sequence_none, sequence_some, turn_from, turn_halts}
use Rattle.kt_when.proofs.BranchRows.{branches_list}
use Rattle.kt_when.proofs.entries.branches.Goals as goal

pub returns-then-not-begins_branch : goal.returns-then-not-begins_branch
returns-then-not-begins_branch g c = sequence_none branches_list c.new-none.result c.requires.within (sym c.begins_branch.ensures ∙ c.if-not-begins_branch.true) c.new-none.ensures

pub returns-in_err-all : goal.returns-in_err-all
returns-in_err-all g c = let p = err_from_is_err_and c.from_residual.result c.from_residual.ensures.1 in rw p.1
    (sequence_some branches_list c.new-none.result c.args.bodies.now.tokens.now c.args.at c.requires.within (sym c.begins_branch.ensures ∙ c.if-not-begins_branch.false) c.new-none.ensures (Err p.0) (turn_halts branches_list (rw p.2 c.in_err-all.ensures)))

pub returns : goal.returns
returns g c = sequence_some branches_list c.new-none.result c.args.bodies.now.tokens.now c.args.at c.requires.within (sym c.begins_branch.ensures ∙ c.if-not-begins_branch.false) c.new-none.ensures c.further_branches.result
    (turn_from branches_list c.new-none.result c.in_ok-all.all c.in_ok-all.ensures c.further_branches.result c.further_branches.ensures)

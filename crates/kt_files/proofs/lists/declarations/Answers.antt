use Rattle.std.proofs.Common.{sym, ◌∙◌, Err}
use Rattle.std.proofs.lemmas.Result.{err_from_is_err_and}
use Rattle.kt_bodies.proofs.Sequences.{sequence_none, sequence_some, turn_from, turn_halts}
use Rattle.kt_files.proofs.ListRows.{declarations_list}
use Rattle.kt_files.proofs.lists.declarations.Goals as goal

pub returns-then-not-begins_declaration : goal.returns-then-not-begins_declaration
returns-then-not-begins_declaration c = sequence_none declarations_list c.new-none.result c.requires.within (sym c.begins_declaration.ensures ∙ c.if-not-begins_declaration.true) c.new-none.ensures

pub returns-in_err-all : goal.returns-in_err-all
returns-in_err-all c = let p = err_from_is_err_and c.from_residual.result c.from_residual.ensures.1 in rw p.1
    (sequence_some declarations_list c.new-none.result c.args.tokens.now c.args.at c.requires.within (sym c.begins_declaration.ensures ∙ c.if-not-begins_declaration.false) c.new-none.ensures (Err p.0) (turn_halts declarations_list (rw p.2 c.in_err-all.ensures)))

pub returns : goal.returns
returns c = sequence_some declarations_list c.new-none.result c.args.tokens.now c.args.at c.requires.within (sym c.begins_declaration.ensures ∙ c.if-not-begins_declaration.false) c.new-none.ensures c.further.result
    (turn_from declarations_list c.new-none.result c.in_ok-all.all c.in_ok-all.ensures c.further.result c.further.ensures)

use Rattle.std.proofs.Common.{sym, ◌∙◌, Err}
use Rattle.std.proofs.lemmas.Result.{err_from_is_err_and}
use Rattle.kt_bodies.proofs.Sequences.{sequence_none, sequence_some, turn_from, turn_halts}
use Rattle.kt_bodies.proofs.StatementRows.{statements_list}
use Rattle.kt_bodies.proofs.bodies.Bodies.statements.Goals as goal

pub returns-then-not-begins_statement : goal.returns-then-not-begins_statement
returns-then-not-begins_statement g c = sequence_none statements_list c.new-none.result c.requires.within (sym c.begins_statement.ensures ∙ c.if-not-begins_statement.true) c.new-none.ensures

pub returns-in_err-all : goal.returns-in_err-all
returns-in_err-all g c = let p = err_from_is_err_and c.from_residual.result c.from_residual.ensures.1 in rw p.1
    (sequence_some statements_list c.new-none.result c.args.self.now.tokens.now c.args.at c.requires.within (sym c.begins_statement.ensures ∙ c.if-not-begins_statement.false) c.new-none.ensures (Err p.0) (turn_halts statements_list (rw p.2 c.in_err-all.ensures)))

pub returns : goal.returns
returns g c = sequence_some statements_list c.new-none.result c.args.self.now.tokens.now c.args.at c.requires.within (sym c.begins_statement.ensures ∙ c.if-not-begins_statement.false) c.new-none.ensures c.further.result
    (turn_from statements_list c.new-none.result c.in_ok-all.all c.in_ok-all.ensures c.further.result c.further.ensures)

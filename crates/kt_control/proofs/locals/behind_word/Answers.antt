use Rattle.std.proofs.Common.{sym, ◌∙◌}
use Rattle.kt_control.proofs.LocalRows.{word_round, word_name}
use Rattle.kt_control.proofs.locals.behind_word.Goals as goal

pub returns-then-is_op_at : goal.returns-then-is_op_at
returns-then-is_op_at g c = word_round c.args.bodies.now.tokens.now c.args.at c.requires.within (sym c.is_op_at.ensures ∙ c.if-is_op_at.true) c.in_round.result c.in_round.ensures

pub returns : goal.returns
returns g c = word_name c.args.bodies.now.tokens.now c.args.at c.requires.within (sym c.is_op_at.ensures ∙ c.if-is_op_at.false) c.one_name.result c.one_name.ensures

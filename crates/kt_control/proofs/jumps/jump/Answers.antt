use Rattle.std.proofs.Common.{sym, ◌∙◌}
use Rattle.kt_control.proofs.JumpRows.{jump_return, jump_throw, jump_break}
use Rattle.kt_control.proofs.jumps.jump.Goals as goal

pub returns-then-is_word_at : goal.returns-then-is_word_at
returns-then-is_word_at g c = jump_return c.args.bodies.now.tokens.now c.args.at c.requires.within (sym c.is_word_at.ensures ∙ c.if-is_word_at.true) c.return_.result c.return_.ensures

pub returns-then-is_word_at-2 : goal.returns-then-is_word_at-2
returns-then-is_word_at-2 g c = jump_throw c.args.bodies.now.tokens.now c.args.at c.requires.within (sym c.is_word_at.ensures ∙ c.if-is_word_at.false) (sym c.is_word_at-2.ensures ∙ c.if-is_word_at-2.true) c.throw_.result c.throw_.ensures

pub returns : goal.returns
returns g c = jump_break c.args.bodies.now.tokens.now c.args.at c.requires.within (sym c.is_word_at.ensures ∙ c.if-is_word_at.false) (sym c.is_word_at-2.ensures ∙ c.if-is_word_at-2.false) c.break_.result c.break_.ensures

use Rattle.std.proofs.Common.{sym, ◌∙◌}
use Rattle.kt_members.proofs.SetterRows.{block_var, block_val, block_none}
use Rattle.kt_members.proofs.setters.setter_behind_block.Goals as goal

pub returns-then-is_var : goal.returns-then-is_var
returns-then-is_var c = block_var c.args.is_var c.if-is_var.true c.args.tokens.now c.args.at c.setter.result c.setter.ensures

pub returns-then-not-is_member_word_at : goal.returns-then-not-is_member_word_at
returns-then-not-is_member_word_at c = block_none c.args.is_var c.if-is_var.false c.args.tokens.now c.args.at c.requires.within (sym c.is_member_word_at.ensures ∙ c.if-not-is_member_word_at.true)

pub returns : goal.returns
returns c = block_val c.args.is_var c.if-is_var.false c.args.tokens.now c.args.at c.requires.within (sym c.is_member_word_at.ensures ∙ c.if-not-is_member_word_at.false) c.setter-2.result c.setter-2.ensures

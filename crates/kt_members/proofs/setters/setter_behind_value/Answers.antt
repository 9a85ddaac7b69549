use Rattle.std.proofs.Common.{sym, ◌∙◌}
use Rattle.kt_members.proofs.SetterRows.{value_var, value_val, value_none}
use Rattle.kt_members.proofs.setters.setter_behind_value.Goals as goal

pub returns-then-is_var : goal.returns-then-is_var
returns-then-is_var c = value_var c.args.is_var c.if-is_var.true c.args.tokens.now c.args.at c.setter_on_line.result c.setter_on_line.ensures

pub returns-then-not-is_marked_word : goal.returns-then-not-is_marked_word
returns-then-not-is_marked_word c = value_none c.args.is_var c.if-is_var.false c.args.tokens.now c.args.at c.requires.within (sym c.is_marked_word.ensures ∙ c.if-not-is_marked_word.true)

pub returns : goal.returns
returns c = value_val c.args.is_var c.if-is_var.false c.args.tokens.now c.args.at c.requires.within (sym c.is_marked_word.ensures ∙ c.if-not-is_marked_word.false) c.setter_on_line-2.result c.setter_on_line-2.ensures

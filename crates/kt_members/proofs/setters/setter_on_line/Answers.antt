use Rattle.std.proofs.Common.{sym, ◌∙◌}
use Rattle.kt_members.proofs.SetterRows.{on_line, not_on_line}
use Rattle.kt_members.proofs.setters.setter_on_line.Goals as goal

pub returns-then-not-is_marked_word : goal.returns-then-not-is_marked_word
returns-then-not-is_marked_word c = not_on_line c.requires.within (sym c.is_marked_word.ensures ∙ c.if-not-is_marked_word.true) c.fault.ensures

pub returns : goal.returns
returns c = on_line c.args.tokens.now c.args.at c.requires.within (sym c.is_marked_word.ensures ∙ c.if-not-is_marked_word.false) c.setter.result c.setter.ensures

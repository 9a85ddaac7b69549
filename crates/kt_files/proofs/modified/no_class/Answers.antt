use Rattle.std.proofs.Common.{sym, ◌∙◌}
use Rattle.kt_files.proofs.UnmodifiedRows.{interface_chosen, interface_passed}
use Rattle.kt_files.proofs.modified.no_class.Goals as goal

pub returns-then-is_word_at : goal.returns-then-is_word_at
returns-then-is_word_at c = interface_chosen c.args.tokens.now c.args.at c.requires.within c.args.is_abstract (sym c.is_word_at.ensures ∙ c.if-is_word_at.true) c.interface_declaration.result c.interface_declaration.ensures

pub returns : goal.returns
returns c = interface_passed c.args.tokens.now c.args.at c.requires.within c.args.is_abstract (sym c.is_word_at.ensures ∙ c.if-is_word_at.false) c.no_interface.result c.no_interface.ensures

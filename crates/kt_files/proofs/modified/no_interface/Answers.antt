use Rattle.std.proofs.Common.{sym, ◌∙◌}
use Rattle.kt_files.proofs.UnmodifiedRows.{object_chosen, object_passed}
use Rattle.kt_files.proofs.modified.no_interface.Goals as goal

pub returns-then-is_word_at : goal.returns-then-is_word_at
returns-then-is_word_at c = object_chosen c.args.tokens.now c.args.at c.requires.within c.args.is_abstract (sym c.is_word_at.ensures ∙ c.if-is_word_at.true) c.object_declaration.result c.object_declaration.ensures

pub returns : goal.returns
returns c = object_passed c.args.tokens.now c.args.at c.requires.within c.args.is_abstract (sym c.is_word_at.ensures ∙ c.if-is_word_at.false) c.function_or_property.result c.function_or_property.ensures

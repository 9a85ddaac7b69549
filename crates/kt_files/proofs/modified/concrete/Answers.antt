use Rattle.std.proofs.Common.{sym, ◌∙◌}
use Rattle.kt_files.proofs.UnmodifiedRows.{function_chosen, property_chosen}
use Rattle.kt_files.proofs.modified.concrete.Goals as goal

pub returns-then-is_word_at : goal.returns-then-is_word_at
returns-then-is_word_at c = function_chosen c.args.tokens.now c.args.at c.requires.within (sym c.is_word_at.ensures ∙ c.if-is_word_at.true) c.function_declaration.result c.function_declaration.ensures

pub returns : goal.returns
returns c = property_chosen c.args.tokens.now c.args.at c.requires.within (sym c.is_word_at.ensures ∙ c.if-is_word_at.false) c.property_declaration.result c.property_declaration.ensures

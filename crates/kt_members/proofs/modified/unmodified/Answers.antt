use Rattle.std.proofs.Common.{sym, ◌∙◌}
use Rattle.kt_functions.specs.Sites.{site_of}
use Rattle.kt_members.proofs.ModifierRows.{function_chosen, property_chosen}
use Rattle.kt_members.proofs.modified.unmodified.Goals as goal

pub returns-then-is_word_at : goal.returns-then-is_word_at
returns-then-is_word_at c = function_chosen (site_of c.args.site) c.args.is_abstract c.args.tokens.now c.args.at c.requires.within (sym c.is_word_at.ensures ∙ c.if-is_word_at.true) c.function_member.result c.function_member.ensures

pub returns : goal.returns
returns c = property_chosen (site_of c.args.site) c.args.is_abstract c.args.tokens.now c.args.at c.requires.within (sym c.is_word_at.ensures ∙ c.if-is_word_at.false) c.property_member.result c.property_member.ensures

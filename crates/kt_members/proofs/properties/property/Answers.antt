use Rattle.std.proofs.Common.{sym, ◌∙◌}
use Rattle.kt_functions.specs.Sites.{site_of}
use Rattle.kt_members.proofs.PropertyRows.{property_var, property_val}
use Rattle.kt_members.proofs.properties.property.Goals as goal

pub returns-then-is_word_at : goal.returns-then-is_word_at
returns-then-is_word_at c = property_var c.args.is_abstract (site_of c.args.site) c.args.tokens.now c.args.at c.requires.within (sym c.is_word_at.ensures ∙ c.if-is_word_at.true) c.property_behind.result c.property_behind.ensures

pub returns : goal.returns
returns c = property_val c.args.is_abstract (site_of c.args.site) c.args.tokens.now c.args.at c.requires.within (sym c.is_word_at.ensures ∙ c.if-is_word_at.false) c.property_behind-2.result c.property_behind-2.ensures

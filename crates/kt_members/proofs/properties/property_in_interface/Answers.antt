use Rattle.std.proofs.Common.{sym, ◌∙◌}
use Rattle.kt_members.proofs.PropertyRows.{interface_some, interface_none}
use Rattle.kt_members.proofs.properties.property_in_interface.Goals as goal

pub returns-then-not-is_member_word_at : goal.returns-then-not-is_member_word_at
returns-then-not-is_member_word_at c = interface_none c.args.is_var c.args.name c.args.ty c.requires.within (sym c.is_member_word_at.ensures ∙ c.if-not-is_member_word_at.true) c.bare.ensures

pub returns : goal.returns
returns c = interface_some c.args.is_var c.args.name c.args.ty c.args.tokens.now c.args.at c.requires.within (sym c.is_member_word_at.ensures ∙ c.if-not-is_member_word_at.false) c.property_with_accessors.result c.property_with_accessors.ensures

use Rattle.std.proofs.Common.{sym, ◌∙◌}
use Rattle.kt_members.proofs.PropertyRows.{class_some, class_none}
use Rattle.kt_members.proofs.properties.property_in_class.Goals as goal

pub returns-then-not-begins_value : goal.returns-then-not-begins_value
returns-then-not-begins_value c = class_none c.args.is_var c.args.name c.args.ty c.requires.within (sym c.begins_value.ensures ∙ c.if-not-begins_value.true) c.bare.ensures

pub returns : goal.returns
returns c = class_some c.args.is_var c.args.name c.args.ty c.args.tokens.now c.args.at c.requires.within (sym c.begins_value.ensures ∙ c.if-not-begins_value.false) c.value_or_accessors.result c.value_or_accessors.ensures

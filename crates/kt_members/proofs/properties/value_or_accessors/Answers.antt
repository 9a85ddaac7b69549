use Rattle.std.proofs.Common.{sym, ◌∙◌}
use Rattle.kt_members.proofs.PropertyRows.{chosen_value, chosen_accessors}
use Rattle.kt_members.proofs.properties.value_or_accessors.Goals as goal

pub returns-then-is_op_at : goal.returns-then-is_op_at
returns-then-is_op_at c = chosen_value c.args.is_var c.args.name c.args.ty c.args.tokens.now c.args.at c.requires.within (sym c.is_op_at.ensures ∙ c.if-is_op_at.true) c.property_with_value.result c.property_with_value.ensures

pub returns : goal.returns
returns c = chosen_accessors c.args.is_var c.args.name c.args.ty c.args.tokens.now c.args.at c.requires.within (sym c.is_op_at.ensures ∙ c.if-is_op_at.false) c.property_with_accessors.result c.property_with_accessors.ensures

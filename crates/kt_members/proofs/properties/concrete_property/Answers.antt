use Rattle.std.proofs.Common.{false, sym, subst}
use Rattle.kt_functions.specs.Sites.{site_of}
use Rattle.kt_grammar.specs.DeclarationsBuilt as built
use Rattle.kt_grammar.specs.Parsed.{Advances}
use Rattle.kt_grammar.specs.Rows as rows
use Rattle.kt_members.proofs.properties.concrete_property.Goals as goal

pub returns-in-InClass : goal.returns-in-InClass
returns-in-InClass c = subst (λ s. Advances (rows.property_value c.args.is_var false (site_of s)) (built.property_with c.args.is_var c.args.name c.args.ty) c.args.tokens.now c.args.at c.property_in_class.result) (sym c.in-InClass.is) c.property_in_class.ensures

pub returns-in-InInterface : goal.returns-in-InInterface
returns-in-InInterface c = subst (λ s. Advances (rows.property_value c.args.is_var false (site_of s)) (built.property_with c.args.is_var c.args.name c.args.ty) c.args.tokens.now c.args.at c.property_in_interface.result) (sym c.in-InInterface.is) c.property_in_interface.ensures

pub returns-in-TopLevel : goal.returns-in-TopLevel
returns-in-TopLevel c = subst (λ s. Advances (rows.property_value c.args.is_var false (site_of s)) (built.property_with c.args.is_var c.args.name c.args.ty) c.args.tokens.now c.args.at c.value_or_accessors.result) (sym c.in-TopLevel.is) c.value_or_accessors.ensures

use Rattle.kt_functions.specs.Sites.{site_of}
use Rattle.kt_members.proofs.PropertyRows.{abstract_none, concrete}
use Rattle.kt_members.proofs.properties.property_value.Goals as goal

pub returns-then-is_abstract : goal.returns-then-is_abstract
returns-then-is_abstract c = abstract_none c.args.is_var c.args.name c.args.ty c.args.is_abstract (site_of c.args.site) c.if-is_abstract.true c.requires.within c.bare.ensures

pub returns : goal.returns
returns c = concrete c.args.is_var c.args.name c.args.ty c.args.is_abstract (site_of c.args.site) c.if-is_abstract.false c.args.tokens.now c.args.at c.concrete_property.result c.concrete_property.ensures

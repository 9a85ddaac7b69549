use Rattle.kt_files.proofs.UnmodifiedRows.{abstract_function, concrete_one}
use Rattle.kt_files.proofs.modified.function_or_property.Goals as goal

pub returns-then-is_abstract : goal.returns-then-is_abstract
returns-then-is_abstract c = abstract_function c.args.is_abstract c.if-is_abstract.true c.args.tokens.now c.args.at c.function_declaration.result c.function_declaration.ensures

pub returns : goal.returns
returns c = concrete_one c.args.is_abstract c.if-is_abstract.false c.args.tokens.now c.args.at c.concrete.result c.concrete.ensures

use Rattle.kt_when.proofs.ConditionRows.{is_from, not_is}
use Rattle.kt_when.proofs.heads.without_in.Goals as goal

pub returns-in-Some : goal.returns-in-Some
returns-in-Some g c = is_from c.args.before c.requires.within c.in-Some.ensures c.of_type.result c.of_type.ensures

pub returns-in-None : goal.returns-in-None
returns-in-None g c = not_is c.args.before c.args.bodies.now.tokens.now c.args.at c.requires.within c.in-None.ensures c.value.result c.value.ensures

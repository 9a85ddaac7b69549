use Rattle.kt_when.proofs.ConditionRows.{in_from, not_in}
use Rattle.kt_when.proofs.heads.condition.Goals as goal

pub returns-in-Some : goal.returns-in-Some
returns-in-Some g c = in_from c.args.before c.requires.within c.in-Some.ensures c.in_range.result c.in_range.ensures

pub returns-in-None : goal.returns-in-None
returns-in-None g c = not_in c.args.before c.args.bodies.now.tokens.now c.args.at c.requires.within c.in-None.ensures c.without_in.result c.without_in.ensures

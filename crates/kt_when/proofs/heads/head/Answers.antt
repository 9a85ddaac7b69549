use Rattle.kt_when.proofs.BranchRows.{else_head, conditions_head}
use Rattle.kt_when.proofs.heads.head.Goals as goal

pub returns-in_default : goal.returns-in_default
returns-in_default g c = conditions_head c.args.bodies.now.tokens.now c.args.at c.requires.within c.in_default.ensures c.conditions.result c.conditions.ensures

pub returns : goal.returns
returns g c = else_head c.in-Some.ensures c.new-none.ensures

use Rattle.kt_grammar.proofs.OperatorRows.{compared, not_compared}
use Rattle.kt_grammar.proofs.operators.Operators.comparison_turn.Goals as goal

pub returns-in-Some : goal.returns-in-Some
returns-in-Some g c = compared c.args.left c.requires.within c.in-Some.ensures c.compared_with.result c.compared_with.ensures

pub returns-in-None : goal.returns-in-None
returns-in-None g c = not_compared c.args.left c.requires.within c.in-None.ensures

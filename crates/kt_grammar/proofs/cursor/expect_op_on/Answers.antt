use Rattle.kt_grammar.proofs.Advances.{moves, not_one}
use Rattle.kt_grammar.proofs.SingleTokens.{op_token, is_itself}
use Rattle.kt_grammar.proofs.cursor.expect_op_on.Goals as goal

pub returns-in-Some : goal.returns-in-Some
returns-in-Some c = moves c.in-Some.ensures c.to.ensures

pub returns-in-None : goal.returns-in-None
returns-in-None c = not_one (op_token c.args.operator) (is_itself c.args.operator) c.requires c.in-None.ensures c.fault.ensures

use Rattle.kt_grammar.proofs.SingleTokens.{op_token, is_itself}
use Rattle.kt_grammar.proofs.Steps.{fails_one}
use Rattle.kt_grammar.proofs.tokens.expect_op.Goals as goal

pub returns-in-None : goal.returns-in-None
returns-in-None c = fails_one (op_token c.args.operator) (is_itself c.args.operator) c.requires c.in-None.ensures

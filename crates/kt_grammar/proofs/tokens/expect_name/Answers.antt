use Rattle.kt_grammar.proofs.SingleTokens.{a_name, is_a_name, takes_name}
use Rattle.kt_grammar.proofs.Steps.{fails_one}
use Rattle.kt_grammar.proofs.tokens.expect_name.Goals as goal

pub returns-in-Some : goal.returns-in-Some
returns-in-Some c = takes_name c.args.tokens.now c.args.at c.in-Some.word c.in-Some.ensures

pub returns-in-None : goal.returns-in-None
returns-in-None c = fails_one a_name is_a_name c.requires c.in-None.ensures

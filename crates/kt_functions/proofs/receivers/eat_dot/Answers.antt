use Rattle.kt_grammar.proofs.SignRows.{takes_token}
use Rattle.kt_grammar.specs.Tokens.{is_dot}
use Rattle.kt_functions.proofs.receivers.eat_dot.Goals as goal

pub returns-in-Some : goal.returns-in-Some
returns-in-Some c = takes_token is_dot c.args.tokens.now c.args.at c.to.result c.in-Some.token c.to.ensures c.in-Some.ensures

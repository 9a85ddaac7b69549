use Rattle.kt_grammar.specs.Signs.{is_sign}
use Rattle.kt_grammar.proofs.SignRows.{takes_token}
use Rattle.kt_grammar.proofs.signs.eat_sign.Goals as goal

pub returns-in-Some : goal.returns-in-Some
returns-in-Some c = takes_token (is_sign c.args.sign) c.args.tokens.now c.args.at c.to.result c.in-Some.token c.to.ensures c.in-Some.ensures

use Rattle.kt_grammar.proofs.SingleTokens.{takes_name}
use Rattle.kt_grammar.proofs.tokens.eat_name.Goals as goal

pub returns-in-Some : goal.returns-in-Some
returns-in-Some c = let k = takes_name c.args.tokens.now c.args.at c.in-Some.field-0 c.in-Some.ensures in k.taken

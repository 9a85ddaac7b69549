use Rattle.kt_grammar.proofs.OperatorRows.{in_from, not_in}
use Rattle.kt_grammar.proofs.operators.Operators.named_turn.Goals as goal

pub returns-in-Some : goal.returns-in-Some
returns-in-Some g c = in_from c.args.left c.requires.within c.in-Some.ensures c.contained_in.result c.contained_in.ensures

pub returns-in-None : goal.returns-in-None
returns-in-None g c = not_in c.args.self.now.tokens.now c.args.at c.args.left c.requires.within c.in-None.ensures c.typed_turn.result c.typed_turn.ensures

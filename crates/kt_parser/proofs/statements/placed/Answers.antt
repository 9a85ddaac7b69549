use Rattle.kt_parser.proofs.StatementRows.{place_set, place_not_set}
use Rattle.kt_parser.proofs.statements.placed.Goals as goal

pub returns-in-Some : goal.returns-in-Some
returns-in-Some g c = place_set c.args.left c.requires.within c.in-Some.ensures c.assigned_to.result c.assigned_to.ensures

pub returns-in-None : goal.returns-in-None
returns-in-None g c = place_not_set c.args.bodies.now.tokens.now c.args.at c.args.left c.requires.within c.in-None.ensures c.turns_over.result c.turns_over.ensures

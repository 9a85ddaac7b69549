use Rattle.kt_grammar.proofs.SignRows.{takes_token}
use Rattle.kt_when.specs.Relations.{is_relation}
use Rattle.kt_when.proofs.relations.eat_relation.Goals as goal

pub returns-in-Some : goal.returns-in-Some
returns-in-Some c = takes_token (is_relation c.args.relation) c.args.tokens.now c.args.at c.to.result c.in-Some.token c.to.ensures c.in-Some.ensures

use Rattle.kt_grammar.proofs.ArgumentRows.{no_name, only_name, name_taken}
use Rattle.kt_grammar.proofs.SingleTokens.{takes_name}
use Rattle.kt_grammar.proofs.arguments.name_before.Goals as goal

pub returns-in_default : goal.returns-in_default
returns-in_default c = no_name c.requires c.in_default.ensures

pub returns-in-Some-eat_op : goal.returns-in-Some-eat_op
returns-in-Some-eat_op c = name_taken c.to.result (takes_name c.args.tokens.now c.args.at.at c.in-Some.word c.in-Some.ensures) c.in-Some-eat_op.ensures c.to.ensures

pub returns-in-None : goal.returns-in-None
returns-in-None c = let k = takes_name c.args.tokens.now c.args.at.at c.in-Some.word c.in-Some.ensures in only_name c.seen.result k.taken c.in-None.ensures c.seen.ensures

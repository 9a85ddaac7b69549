use Rattle.kt_calls.specs.Marks.{is_mark}
use Rattle.kt_grammar.proofs.SignRows.{takes_token}
use Rattle.kt_calls.proofs.marks.eat_mark.Goals as goal

pub returns-in-Some : goal.returns-in-Some
returns-in-Some c = takes_token (is_mark c.args.mark) c.args.tokens.now c.args.at c.to.result c.in-Some.token c.to.ensures c.in-Some.ensures

use Rattle.kt_grammar.specs.Tokens.{is_label_use}
use Rattle.kt_control.proofs.TokenMoves.{labelled, unlabelled}
use Rattle.kt_control.proofs.labels.label_use.Goals as goal

pub returns-in-Some : goal.returns-in-Some
returns-in-Some c = labelled is_label_use c.args.tokens.now c.args.at c.to.result c.in-Some.label c.in-Some.ensures c.to.ensures

pub returns-in-None : goal.returns-in-None
returns-in-None c = unlabelled is_label_use c.args.tokens.now c.args.at c.requires c.in-None.ensures

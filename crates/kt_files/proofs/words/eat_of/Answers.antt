use Rattle.kt_grammar.proofs.Advances.{moves}
use Rattle.kt_files.proofs.words.eat_of.Goals as goal

pub returns-in-Some : goal.returns-in-Some
returns-in-Some c = moves c.in-Some.ensures c.to.ensures

use Rattle.kt_grammar.proofs.Advances.{moves}
use Rattle.kt_class_heads.proofs.constructors.eat_constructor.Goals as goal

pub returns-in-Some : goal.returns-in-Some
returns-in-Some c = moves c.in-Some.ensures c.to.ensures

use Rattle.kt_grammar.proofs.ArgumentRows.{star_taken, no_star}
use Rattle.kt_grammar.proofs.arguments.star_before.Goals as goal

pub returns-in-Some : goal.returns-in-Some
returns-in-Some c = star_taken c.in-Some.ensures

pub returns-in-None : goal.returns-in-None
returns-in-None c = no_star c.requires c.in-None.ensures

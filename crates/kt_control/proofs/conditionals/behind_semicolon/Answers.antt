use Rattle.kt_control.proofs.ConditionalRows.{semicolon_passed, none_passed}
use Rattle.kt_control.proofs.conditionals.behind_semicolon.Goals as goal

pub returns-in-Some : goal.returns-in-Some
returns-in-Some c = semicolon_passed c.in-Some.ensures

pub returns-in-None : goal.returns-in-None
returns-in-None c = none_passed c.requires c.in-None.ensures

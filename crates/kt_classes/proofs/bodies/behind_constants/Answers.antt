use Rattle.kt_classes.proofs.BodyRows.{no_semicolon, semicolon_from}
use Rattle.kt_classes.proofs.bodies.behind_constants.Goals as goal

pub returns-in_default : goal.returns-in_default
returns-in_default c = no_semicolon c.new.ensures c.requires.within c.in_default.ensures

pub returns : goal.returns
returns c = semicolon_from c.requires.within c.in-Some.ensures c.members.result c.members.ensures

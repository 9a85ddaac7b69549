use Rattle.kt_bodies.specs.Statements.{at_once, behind_semicolon}
use Rattle.kt_files.proofs.lists.next_declaration.Goals as goal

pub returns-in_default : goal.returns-in_default
returns-in_default c = at_once c.requires c.in_default.ensures c.begins_marked_declaration.ensures

pub returns : goal.returns
returns c = behind_semicolon c.in-Some.ensures c.behind_semicolons-end.ensures c.begins_declaration.ensures

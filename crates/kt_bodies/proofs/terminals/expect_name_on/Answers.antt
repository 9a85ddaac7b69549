use Rattle.std.proofs.Common.{refl}
use Rattle.kt_grammar.proofs.Advances.{not_one}
use Rattle.kt_grammar.proofs.SingleTokens.{a_name}
use Rattle.kt_bodies.proofs.TokenRows.{name_moved}
use Rattle.kt_bodies.proofs.terminals.expect_name_on.Goals as goal

pub returns-in-Some : goal.returns-in-Some
returns-in-Some c = name_moved c.to.result c.in-Some.ensures c.to.ensures

pub returns-in-None : goal.returns-in-None
returns-in-None c = not_one a_name refl c.requires c.in-None.ensures c.fault.ensures

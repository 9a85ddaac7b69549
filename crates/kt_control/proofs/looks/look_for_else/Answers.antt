use Rattle.kt_bodies.proofs.Looking.{looked_at}
use Rattle.kt_control.proofs.ConditionalRows.{says_plain, begun_plain, says_behind, begun_behind}
use Rattle.kt_control.proofs.looks.look_for_else.Goals as goal

pub returns-in_default : goal.returns-in_default
returns-in_default c = let k = c.else_at-holds.ensures in looked_at c.seen.result (says_plain c.in_default.ensures k) k.within (begun_plain c.requires c.in_default.ensures k) c.seen.ensures

pub returns : goal.returns
returns c = let k = c.else_at-holds-2.ensures in looked_at c.seen-2.result (says_behind c.in-Some.ensures k) k.within (begun_behind c.in-Some.ensures k) c.seen-2.ensures

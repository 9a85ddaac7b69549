use Rattle.kt_members.proofs.ModifierRows.{modifier_moved}
use Rattle.kt_members.proofs.modifier_words.eat_modifier.Goals as goal

pub returns-in-Some : goal.returns-in-Some
returns-in-Some c = modifier_moved c.to.result c.in-Some.ensures c.to.ensures

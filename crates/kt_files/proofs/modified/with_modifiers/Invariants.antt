use Rattle.std.proofs.Common.{◌-◌, length}
use Rattle.kt_files.proofs.ModifierRows.{Modifies}
use Rattle.kt_files.proofs.modified.with_modifiers.Given as goal

abbrev pub invariant-loop-found : goal.invariant-loop-found
invariant-loop-found l = Modifies l.tokens l.fn.at l.at l.mods l.is_abstract l.is_enum

abbrev pub decreases-loop-found : goal.decreases-loop-found
decreases-loop-found l = length l.tokens - l.at.at

use Rattle.std.proofs.Common.{◌-◌, length}
use Rattle.kt_functions.specs.Sites.{site_of}
use Rattle.kt_members.proofs.ModifierRows.{Modifies}
use Rattle.kt_members.proofs.modified.with_modifiers.Given as goal

abbrev pub invariant-loop-found : goal.invariant-loop-found
invariant-loop-found l = Modifies (site_of l.site) l.tokens l.fn.at l.at l.mods l.is_abstract

abbrev pub decreases-loop-found : goal.decreases-loop-found
decreases-loop-found l = length l.tokens - l.at.at

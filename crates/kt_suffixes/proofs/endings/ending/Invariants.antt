use Rattle.std.proofs.Common.{◌≡◌, ◌-◌, false, length}
use Rattle.kt_grammar.specs.Lookahead.{is_closed}
use Rattle.kt_suffixes.proofs.Runs.{Stands}
use Rattle.kt_suffixes.proofs.endings.ending.Given as goal

abbrev pub invariant-loop-at : goal.invariant-loop-at
invariant-loop-at l = Stands l.tokens l.start l.at l.place × (is_closed l.place.mode ≡ false)

abbrev pub decreases-loop-at : goal.decreases-loop-at
decreases-loop-at l = length l.tokens - l.at

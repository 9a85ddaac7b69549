use Rattle.std.proofs.Common.{◌≡◌, ℕ, ◌<◌, ◌≤◌, length, get_or, nat_eq, not, true}
use Rattle.kc_cli.proofs.file_class.last_part.Given as goal

-- no `/` stands from here on
abbrev pub invariant-loop-start : goal.invariant-loop-start
invariant-loop-start l = (l.start ≤ length l.file) × ((k : ℕ) → l.start ≤ k → k < length l.file → not (nat_eq (get_or l.file k 0) 47) ≡ true)

abbrev pub decreases-loop-start : goal.decreases-loop-start
decreases-loop-start l = l.start

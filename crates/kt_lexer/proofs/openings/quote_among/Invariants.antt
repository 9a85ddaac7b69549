use Rattle.std.proofs.Common.{◌≡◌, ◌≤◌, length, take, reverse}
use Rattle.kt_lexer.specs.Openings.{open_quote}
use Rattle.kt_lexer.proofs.openings.quote_among.Given as goal

abbrev pub invariant-loop-index : goal.invariant-loop-index
invariant-loop-index l = (l.index ≤ length l.brackets) × (open_quote (reverse l.brackets) ≡ open_quote (reverse (take l.index l.brackets)))

abbrev pub decreases-loop-index : goal.decreases-loop-index
decreases-loop-index l = l.index

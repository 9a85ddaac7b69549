use Rattle.std.proofs.Common.{◌-◌, length}
use Rattle.kt_grammar.proofs.PrefixRows.{RunTo}
use Rattle.kt_grammar.proofs.prefixes.behind_prefixes.Given as goal

abbrev pub invariant-loop-behind : goal.invariant-loop-behind
invariant-loop-behind l = RunTo l.tokens l.fn.at l.next

abbrev pub decreases-loop-behind : goal.decreases-loop-behind
decreases-loop-behind l = length l.tokens - l.next.at

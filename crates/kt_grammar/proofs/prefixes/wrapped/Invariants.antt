use Rattle.kt_grammar.proofs.PrefixRows.{Wrapped}
use Rattle.kt_grammar.proofs.prefixes.wrapped.Given as goal

abbrev pub invariant-loop-at : goal.invariant-loop-at
invariant-loop-at l = Wrapped l.tokens l.start l.at l.end l.of

abbrev pub decreases-loop-at : goal.decreases-loop-at
decreases-loop-at l = l.at

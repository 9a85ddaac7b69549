use Rattle.std.proofs.Common.{◌≡◌, ℕ, ◌<◌, length, get_or}
use Rattle.kt_grammar.specs.declared.lookahead.Look.{Look}
use Rattle.kt_suffixes.specs.Suffixes.{suffix}
use Rattle.kt_suffixes.proofs.table.looks_of.Given as goal

abbrev pub invariant-loop-at : goal.invariant-loop-at
invariant-loop-at l = (length l.looks ≡ l.at) × ((at : ℕ) (d : Look) → at < l.at → get_or l.looks at d ≡ suffix l.tokens at)

use Rattle.std.proofs.Common.{◌≡◌, ◌++◌, ◌∷◌, true, false}
use Rattle.std.proofs.Math.ListN.{replicate}
use Rattle.verifier.proofs.tables.push_starts.Given as goal

abbrev pub invariant-loop : goal.invariant-loop
invariant-loop l = l.flags.items ≡ l.fn.flags.items ++ (true ∷ replicate l.counter false)

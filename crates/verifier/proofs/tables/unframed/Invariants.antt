use Rattle.std.proofs.Common.{◌≡◌, None}
use Rattle.std.proofs.Math.ListN.{replicate}
use Rattle.verifier.proofs.tables.unframed.Given as goal

abbrev pub invariant-loop : goal.invariant-loop
invariant-loop l = l.table.items ≡ replicate l.counter None

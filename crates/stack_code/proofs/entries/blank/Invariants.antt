use Rattle.std.proofs.Common.{◌≡◌, false}
use Rattle.std.proofs.Math.ListN.{replicate}
use Rattle.stack_code.proofs.entries.blank.Given as goal

abbrev pub invariant-loop : goal.invariant-loop
invariant-loop l = l.flags.items ≡ replicate l.counter false

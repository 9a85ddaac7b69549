use Rattle.std.proofs.Common.{◌≡◌, false}
use Rattle.std.proofs.Math.ListN.{replicate}
use Rattle.class_machine.proofs.machine.none_started.Given as goal

abbrev pub invariant-loop : goal.invariant-loop
invariant-loop l = l.started.items ≡ replicate l.counter false

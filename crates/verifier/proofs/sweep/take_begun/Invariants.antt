use Rattle.std.proofs.Common.{◌≡◌, ◌++◌, drop}
use Rattle.verifier.proofs.sweep.take_begun.Given as goal

abbrev pub invariant-loop-number : goal.invariant-loop-number
invariant-loop-number l = l.covering.items ++ drop l.number l.sorted ≡ l.fn.covering.items ++ drop l.fn.next l.sorted

use Rattle.std.proofs.Common.{◌≡◌, drop}
use Rattle.verifier_types.proofs.stack.Stack.drop_upper.Given as goal

abbrev pub invariant-loop : goal.invariant-loop
invariant-loop l = l.self ≡ drop l.counter l.fn.self

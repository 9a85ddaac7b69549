use Rattle.std.proofs.Common.{◌≡◌, ◌++◌, ◌-◌, map, reverse}
use Rattle.shared_list.specs.Chains.{elements}
use Rattle.shared_list.proofs.Reversed.{last_of}
use Rattle.shared_list.proofs.chain.from_the_end.Given as goal

abbrev pub invariant-loop : goal.invariant-loop
invariant-loop g l = map (λ e. e.now) l.all.items ++ reverse (last_of (l.count - l.counter) (elements l.left)) ≡ reverse (last_of l.fn.count (elements l.fn.chain.value))

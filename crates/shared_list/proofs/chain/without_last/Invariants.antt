use Rattle.std.proofs.Common.{◌≡◌, ◌-◌, length, take}
use Rattle.shared_list.specs.Chains.{elements}
use Rattle.shared_list.proofs.chain.without_last.Given as goal

abbrev pub invariant-loop : goal.invariant-loop
invariant-loop g l =
    take (length (elements l.left.value) - (l.gone - l.counter)) (elements l.left.value)
    ≡ take (length (elements l.fn.chain.value) - l.fn.gone) (elements l.fn.chain.value)

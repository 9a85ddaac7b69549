use Rattle.std.proofs.Common.{◌≡◌, take}
use Rattle.shared_list.proofs.list.SharedList.from_slice.Given as goal

abbrev pub invariant-loop-element : goal.invariant-loop-element
invariant-loop-element g l = l.list ≡ take l.element-index l.elements

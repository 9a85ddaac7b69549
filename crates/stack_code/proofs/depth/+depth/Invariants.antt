use Rattle.std.proofs.Common.{◌≡◌, ◌+◌, ◌*◌, max, map, drop}
use Rattle.kc_core.specs.declared.tree.Core.{size-Core}
use Rattle.stack_code.specs.Depth.{most, piled, depth_of}
use Rattle.stack_code.proofs.depth.+depth.Given as goal

abbrev pub decreases-depth_of : goal.decreases-depth_of
decreases-depth_of l = 3 * size-Core l.node.now

abbrev pub decreases-depth_above : goal.decreases-depth_above
decreases-depth_above l = 3 * max (size-Core l.left.now) (size-Core l.right.now) + 1

abbrev pub decreases-depth_either : goal.decreases-depth_either
decreases-depth_either l = 3 * max (size-Core l.left.now) (size-Core l.right.now) + 1

abbrev pub decreases-depth_choice : goal.decreases-depth_choice
decreases-depth_choice l = 3 * max (size-Core l.test.now) (max (size-Core l.held.now) (size-Core l.failed.now)) + 2

abbrev pub decreases-depth_of_each : goal.decreases-depth_of_each
decreases-depth_of_each l = 3 * goal.size-depth_of_each l + 1

abbrev pub decreases-depth_piled : goal.decreases-depth_piled
decreases-depth_piled l = 3 * goal.size-depth_piled l + 1

abbrev pub invariant-depth_of_each-loop-part : goal.invariant-depth_of_each-loop-part
invariant-depth_of_each-loop-part l = max l.highest (most (map depth_of (drop l.part-index l.parts))) ≡ most (map depth_of l.parts)

abbrev pub invariant-depth_piled-loop-value : goal.invariant-depth_piled-loop-value
invariant-depth_piled-loop-value l = max l.highest (l.below + piled (map depth_of (drop l.value-index l.arguments))) ≡ piled (map depth_of l.arguments)

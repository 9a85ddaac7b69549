use Rattle.std.proofs.Common.{◌≡◌, ◌≤◌, map, take}
use Rattle.kc_types.specs.Trees.{depth_of, deepest}
use Rattle.kc_types.specs.Tables.{tree_at}
use Rattle.kc_types.proofs.table.TypeTable.deepest_part.Given as goal

abbrev pub invariant-loop-part : goal.invariant-loop-part
invariant-loop-part l = (l.depth ≡ deepest (map (λ t. depth_of (tree_at l.self t)) (take l.part-index l.parts))) × (l.depth ≤ 16)

use Rattle.std.proofs.Common.{◌≡◌, map, take}
use Rattle.kc_types.specs.Tables.{tree_at}
use Rattle.kc_types.proofs.table.TypeTable.part_trees.Given as goal

abbrev pub invariant-loop-part : goal.invariant-loop-part
invariant-loop-part l = l.trees.items ≡ map (tree_at l.self) (take l.part-index l.parts)

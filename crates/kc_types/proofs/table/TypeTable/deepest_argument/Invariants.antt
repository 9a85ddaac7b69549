use Rattle.std.proofs.Common.{◌≡◌, ◌≤◌, map, take}
use Rattle.kc_types.specs.Trees.{depth_of_argument, deepest}
use Rattle.kc_types.specs.Tables.{argument_at}
use Rattle.kc_types.proofs.table.TypeTable.deepest_argument.Given as goal

abbrev pub invariant-loop-argument : goal.invariant-loop-argument
invariant-loop-argument l = (l.depth ≡ deepest (map (λ a. depth_of_argument (argument_at l.self a)) (take l.argument-index l.arguments))) × (l.depth ≤ 16)

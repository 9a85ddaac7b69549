use Rattle.std.proofs.Common.{◌≡◌, map, take}
use Rattle.kc_types.specs.Tables.{argument_at}
use Rattle.kc_types.proofs.table.TypeTable.argument_trees.Given as goal

abbrev pub invariant-loop-argument : goal.invariant-loop-argument
invariant-loop-argument l = l.trees.items ≡ map (argument_at l.self) (take l.argument-index l.arguments)

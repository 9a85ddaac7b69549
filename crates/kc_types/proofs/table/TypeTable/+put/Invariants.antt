use Rattle.std.proofs.Common.{ℕ, ◌+◌, ◌*◌, map, take}
use Rattle.kc_types.specs.declared.types.TyArg.{TyArg}
use Rattle.kc_types.specs.declared.types.TyArg.TheVariants as argument
use Rattle.kc_types.specs.Trees.{put, put_argument}
use Rattle.kc_types.specs.Tables.{tree_at, argument_at, value_in, Extends, NamesAll, NamesArguments}
use Rattle.kc_types.proofs.table.TypeTable.+put.Given as goal

-- the parts of a type have smaller numbers
abbrev pub size : TyArg → ℕ
size (argument.Exact t) = 3 * t.0 + 3
size (argument.Out t) = 3 * t.0 + 3
size (argument.In t) = 3 * t.0 + 3
size argument.Star = 0

abbrev pub decreases-put : goal.decreases-put
decreases-put l = 3 * l.id.0 + 2

abbrev pub decreases-put_argument : goal.decreases-put_argument
decreases-put_argument l = size l.argument

abbrev pub decreases-put_arguments : goal.decreases-put_arguments
decreases-put_arguments l = 3 * l.below + 1

abbrev pub decreases-put_parts : goal.decreases-put_parts
decreases-put_parts l = 3 * l.below + 1

abbrev pub invariant-put_arguments-loop-argument : goal.invariant-put_arguments-loop-argument
invariant-put_arguments-loop-argument l =
    Extends l.fn.self l.self × NamesArguments l.self (map (λ a. put_argument (value_in l.fn.self l.params l.args) (argument_at l.fn.self a)) (take l.argument-index l.arguments)) l.named.items

abbrev pub invariant-put_parts-loop-part : goal.invariant-put_parts-loop-part
invariant-put_parts-loop-part l =
    Extends l.fn.self l.self × NamesAll l.self (map (λ t. put (value_in l.fn.self l.params l.args) (tree_at l.fn.self t)) (take l.part-index l.parts)) l.named.items

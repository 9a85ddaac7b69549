use Rattle.std.proofs.Common.{◌≡◌, ◌+◌, ◌*◌, ◌++◌, ℕ, List, max, map, drop, nat_eq, true, Option, Some, None}
use Rattle.kc_core.specs.declared.tree.Core.{Core, size-Core}
use Rattle.class_file.specs.declared.class.VType.{VType}
use Rattle.stack_code.specs.Code.{in_turn, values}
use Rattle.stack_code.specs.Emission.{texts_from}
use Rattle.stack_code.specs.Frames.{traced_of, in_turn_traced, values_traced}
use Rattle.stack_code.specs.Walking.{set_of, known_of, PartlyWalks, emitted_all, texts_traced_from, texts_stack}
use Rattle.stack_code.proofs.walk.+walk.Given as goal

abbrev pub size_of : Option Core → ℕ
size_of None = 0
size_of (Some e) = size-Core e

abbrev pub invariant-walk_in_turn-loop-i : goal.invariant-walk_in_turn-loop-i
invariant-walk_in_turn-loop-i l =
    PartlyWalks l.locals (set_of l.entries) l.live l.on l.fn.walk l.walk (in_turn (emitted_all (map traced_of (drop l.i l.parts)))) (in_turn (emitted_all (map traced_of l.parts))) (in_turn_traced (map traced_of (drop l.i l.parts))) (in_turn_traced (map traced_of l.parts))
    × ((known_of l.walk).stack ≡ (known_of l.fn.walk).stack)

abbrev pub invariant-walk_texts-loop-i : goal.invariant-walk_texts-loop-i
invariant-walk_texts-loop-i l =
    PartlyWalks l.locals (set_of l.entries) l.live l.on l.fn.walk l.walk (texts_from (nat_eq l.i 0) (emitted_all (map traced_of (drop l.i l.parts)))) (texts_from true (emitted_all (map traced_of l.parts))) (texts_traced_from (nat_eq l.i 0) (map traced_of (drop l.i l.parts))) (texts_traced_from true (map traced_of l.parts))
    × ((known_of l.walk).stack ≡ texts_stack (nat_eq l.i 0) (known_of l.fn.walk).stack)

abbrev pub invariant-walk_values-loop-value : goal.invariant-walk_values-loop-value
invariant-walk_values-loop-value l =
    PartlyWalks l.locals (set_of l.entries) l.live l.on l.fn.walk l.walk (values (emitted_all (map traced_of (drop l.value-index l.arguments)))) (values (emitted_all (map traced_of l.arguments))) (values_traced (map traced_of (drop l.value-index l.arguments))) (values_traced (map traced_of l.arguments))
    × ((types : List VType) × ((known_of l.walk).stack ≡ types ++ (known_of l.fn.walk).stack))

abbrev pub decreases-walk_node : goal.decreases-walk_node
decreases-walk_node l = 8 * size-Core l.node.now

abbrev pub decreases-walk_one : goal.decreases-walk_one
decreases-walk_one l = 8 * size-Core l.value.now + 1

abbrev pub decreases-walk_stored : goal.decreases-walk_stored
decreases-walk_stored l = 8 * size-Core l.value.now + 1

abbrev pub decreases-walk_negate : goal.decreases-walk_negate
decreases-walk_negate l = 8 * size-Core l.value.now + 2

abbrev pub decreases-walk_two : goal.decreases-walk_two
decreases-walk_two l = 8 * max (size-Core l.left.now) (size-Core l.right.now) + 2

abbrev pub decreases-walk_binary : goal.decreases-walk_binary
decreases-walk_binary l = 8 * max (size-Core l.left.now) (size-Core l.right.now) + 3

abbrev pub decreases-walk_compared : goal.decreases-walk_compared
decreases-walk_compared l = 8 * max (size-Core l.left.now) (size-Core l.right.now) + 3

abbrev pub decreases-walk_short : goal.decreases-walk_short
decreases-walk_short l = 8 * max (size-Core l.left.now) (size-Core l.right.now) + 4

abbrev pub decreases-walk_plain_test : goal.decreases-walk_plain_test
decreases-walk_plain_test l = 8 * size-Core l.node.now + 2

abbrev pub decreases-walk_test : goal.decreases-walk_test
decreases-walk_test l = 8 * size-Core l.node.now + 3

abbrev pub decreases-walk_discarded : goal.decreases-walk_discarded
decreases-walk_discarded l = 8 * size-Core l.value.now + 1

abbrev pub decreases-walk_text : goal.decreases-walk_text
decreases-walk_text l = 8 * size-Core l.part.now + 1

abbrev pub decreases-walk_value : goal.decreases-walk_value
decreases-walk_value l = 8 * size-Core l.value.now + 1

abbrev pub decreases-walk_turn : goal.decreases-walk_turn
decreases-walk_turn l = 8 * size-Core l.part.now + 2

abbrev pub decreases-walk_joined : goal.decreases-walk_joined
decreases-walk_joined l = 8 * size-Core l.part.now + 2

abbrev pub decreases-walk_texts : goal.decreases-walk_texts
decreases-walk_texts l = 8 * goal.size-walk_texts l + 3

abbrev pub decreases-walk_values : goal.decreases-walk_values
decreases-walk_values l = 8 * goal.size-walk_values l + 3

abbrev pub decreases-walk_native : goal.decreases-walk_native
decreases-walk_native l = 8 * goal.size-walk_native l + 4

abbrev pub decreases-walk_in_turn : goal.decreases-walk_in_turn
decreases-walk_in_turn l = 8 * goal.size-walk_in_turn l + 3

abbrev pub decreases-walk_condition : goal.decreases-walk_condition
decreases-walk_condition l = 8 * size-Core l.test.now + 4

abbrev pub decreases-walk_if : goal.decreases-walk_if
decreases-walk_if l = 8 * max (size-Core l.test.now) (size-Core l.held.now) + 5

abbrev pub decreases-walk_while : goal.decreases-walk_while
decreases-walk_while l = 8 * max (size-Core l.test.now) (size-Core l.body.now) + 5

abbrev pub decreases-walk_either : goal.decreases-walk_either
decreases-walk_either l = 8 * max (size-Core l.test.now) (max (size-Core l.held.now) (size-Core l.failed.now)) + 4

abbrev pub decreases-walk_if_else : goal.decreases-walk_if_else
decreases-walk_if_else l = 8 * max (size-Core l.test.now) (max (size-Core l.held.now) (size-Core l.failed.now)) + 5

abbrev pub decreases-walk_declared : goal.decreases-walk_declared
decreases-walk_declared l = 8 * goal.size-walk_declared l + 2

abbrev pub decreases-walk_choice : goal.decreases-walk_choice
decreases-walk_choice l = 8 * max (size-Core l.test.now) (max (size-Core l.held.now) (size_of l.failed.now)) + 6

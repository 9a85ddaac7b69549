use Rattle.std.proofs.Common.{◌≡◌, ◌+◌, ◌*◌, max, map, drop, nat_eq}
use Rattle.kc_core.specs.declared.tree.Core.{size-Core}
use Rattle.stack_code.specs.Code.{code_of, values, in_turn, texts}
use Rattle.stack_code.specs.Emission.{Partly, texts_from}
use Rattle.stack_code.proofs.emit.+emit.Given as goal

abbrev pub invariant-emit_values-loop-value : goal.invariant-emit_values-loop-value
invariant-emit_values-loop-value l =
    Partly l.fn.code l.code l.fn.pool l.pool (values (map code_of (drop l.value-index l.arguments))).code (values (map code_of l.arguments)).code
    × ((values (map code_of (drop l.value-index l.arguments))).goes_on ≡ (values (map code_of l.arguments)).goes_on)

abbrev pub invariant-emit_in_turn-loop-i : goal.invariant-emit_in_turn-loop-i
invariant-emit_in_turn-loop-i l =
    Partly l.fn.code l.code l.fn.pool l.pool (in_turn (map code_of (drop l.i l.parts))).code (in_turn (map code_of l.parts)).code
    × ((in_turn (map code_of (drop l.i l.parts))).goes_on ≡ (in_turn (map code_of l.parts)).goes_on)

abbrev pub invariant-emit_texts-loop-i : goal.invariant-emit_texts-loop-i
invariant-emit_texts-loop-i l =
    Partly l.fn.code l.code l.fn.pool l.pool (texts_from (nat_eq l.i 0) (map code_of (drop l.i l.parts))).code (texts (map code_of l.parts)).code
    × ((texts_from (nat_eq l.i 0) (map code_of (drop l.i l.parts))).goes_on ≡ (texts (map code_of l.parts)).goes_on)

abbrev pub decreases-emit : goal.decreases-emit
decreases-emit l = 6 * size-Core l.node.now

abbrev pub decreases-emit_test : goal.decreases-emit_test
decreases-emit_test l = 6 * size-Core l.node.now + 2

abbrev pub decreases-emit_stored : goal.decreases-emit_stored
decreases-emit_stored l = 6 * size-Core l.value.now + 1

abbrev pub decreases-emit_declared : goal.decreases-emit_declared
decreases-emit_declared l = 6 * goal.size-emit_declared l + 2

abbrev pub decreases-emit_negate : goal.decreases-emit_negate
decreases-emit_negate l = 6 * size-Core l.value.now + 1

abbrev pub decreases-emit_texts : goal.decreases-emit_texts
decreases-emit_texts l = 6 * goal.size-emit_texts l + 1

abbrev pub decreases-emit_values : goal.decreases-emit_values
decreases-emit_values l = 6 * goal.size-emit_values l + 1

abbrev pub decreases-emit_in_turn : goal.decreases-emit_in_turn
decreases-emit_in_turn l = 6 * goal.size-emit_in_turn l + 1

abbrev pub decreases-emit_native : goal.decreases-emit_native
decreases-emit_native l = 6 * goal.size-emit_native l + 2

abbrev pub decreases-emit_plain_test : goal.decreases-emit_plain_test
decreases-emit_plain_test l = 6 * size-Core l.node.now + 1

abbrev pub decreases-emit_two : goal.decreases-emit_two
decreases-emit_two l = 6 * (max (size-Core l.left.now) (size-Core l.right.now)) + 1

abbrev pub decreases-emit_compared : goal.decreases-emit_compared
decreases-emit_compared l = 6 * (max (size-Core l.left.now) (size-Core l.right.now)) + 2

abbrev pub decreases-emit_short : goal.decreases-emit_short
decreases-emit_short l = 6 * (max (size-Core l.left.now) (size-Core l.right.now)) + 3

abbrev pub decreases-emit_if : goal.decreases-emit_if
decreases-emit_if l = 6 * (max (size-Core l.test.now) (size-Core l.held.now)) + 4

abbrev pub decreases-emit_if_else : goal.decreases-emit_if_else
decreases-emit_if_else l = 6 * (max (size-Core l.test.now) (max (size-Core l.held.now) (size-Core l.failed.now))) + 4

abbrev pub decreases-emit_while : goal.decreases-emit_while
decreases-emit_while l = 6 * (max (size-Core l.test.now) (size-Core l.body.now)) + 4

abbrev pub decreases-emit_binary : goal.decreases-emit_binary
decreases-emit_binary l = 6 * (max (size-Core l.left.now) (size-Core l.right.now)) + 2

abbrev pub decreases-emit_condition : goal.decreases-emit_condition
decreases-emit_condition l = 6 * size-Core l.test.now + 3

abbrev pub decreases-emit_either : goal.decreases-emit_either
decreases-emit_either l = 6 * (max (size-Core l.test.now) (max (size-Core l.held.now) (size-Core l.failed.now))) + 3

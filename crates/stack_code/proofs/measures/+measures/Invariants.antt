use Rattle.std.proofs.Common.{◌≡◌, ◌+◌, ◌*◌, max, map, drop, nat_eq}
use Rattle.kc_core.specs.declared.tree.Core.{size-Core}
use Rattle.stack_code.specs.Code.{code_of, texts, values, in_turn}
use Rattle.stack_code.specs.Emission.{texts_from}
use Rattle.stack_code.proofs.measures.+measures.Given as goal

abbrev pub decreases-measure_of : goal.decreases-measure_of
decreases-measure_of l = 3 * size-Core l.node.now

abbrev pub decreases-measure_then : goal.decreases-measure_then
decreases-measure_then l = 3 * size-Core l.value.now + 1

abbrev pub decreases-measure_two : goal.decreases-measure_two
decreases-measure_two l = 3 * max (size-Core l.left.now) (size-Core l.right.now) + 1

abbrev pub decreases-measure_compared : goal.decreases-measure_compared
decreases-measure_compared l = 3 * max (size-Core l.left.now) (size-Core l.right.now) + 2

abbrev pub decreases-measure_negated : goal.decreases-measure_negated
decreases-measure_negated l = 3 * size-Core l.value.now + 1

abbrev pub decreases-measure_short : goal.decreases-measure_short
decreases-measure_short l = 3 * max (size-Core l.left.now) (size-Core l.right.now) + 1

abbrev pub decreases-measure_texts : goal.decreases-measure_texts
decreases-measure_texts l = 3 * goal.size-measure_texts l + 1

abbrev pub decreases-measure_values : goal.decreases-measure_values
decreases-measure_values l = 3 * goal.size-measure_values l + 1

abbrev pub decreases-measure_in_turn : goal.decreases-measure_in_turn
decreases-measure_in_turn l = 3 * goal.size-measure_in_turn l + 1

abbrev pub decreases-measure_if : goal.decreases-measure_if
decreases-measure_if l = 3 * max (size-Core l.test.now) (size-Core l.held.now) + 1

abbrev pub decreases-measure_if_else : goal.decreases-measure_if_else
decreases-measure_if_else l = 3 * max (size-Core l.test.now) (max (size-Core l.held.now) (size-Core l.failed.now)) + 2

abbrev pub decreases-measure_while : goal.decreases-measure_while
decreases-measure_while l = 3 * max (size-Core l.test.now) (size-Core l.body.now) + 2

abbrev pub invariant-measure_in_turn-loop-i : goal.invariant-measure_in_turn-loop-i
invariant-measure_in_turn-loop-i l = (l.total + (in_turn (map code_of (drop l.i l.parts))).size ≡ (in_turn (map code_of l.parts)).size) × ((in_turn (map code_of (drop l.i l.parts))).goes_on ≡ (in_turn (map code_of l.parts)).goes_on)

abbrev pub invariant-measure_texts-loop-i : goal.invariant-measure_texts-loop-i
invariant-measure_texts-loop-i l = (l.total + (texts_from (nat_eq l.i 0) (map code_of (drop l.i l.parts))).size ≡ (texts (map code_of l.parts)).size) × ((texts_from (nat_eq l.i 0) (map code_of (drop l.i l.parts))).goes_on ≡ (texts (map code_of l.parts)).goes_on)

abbrev pub invariant-measure_values-loop-value : goal.invariant-measure_values-loop-value
invariant-measure_values-loop-value l = (l.total + (values (map code_of (drop l.value-index l.arguments))).size ≡ (values (map code_of l.arguments)).size) × ((values (map code_of (drop l.value-index l.arguments))).goes_on ≡ (values (map code_of l.arguments)).goes_on)

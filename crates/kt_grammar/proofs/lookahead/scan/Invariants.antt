use Rattle.std.proofs.Common.{◌≡◌, ◌+◌, ◌-◌, [], drop, length}
use Rattle.grammars.specs.Automata.{accepts, goes}
use Rattle.kt_grammar.specs.Lookahead as spec
use Rattle.kt_grammar.proofs.lookahead.scan.Given as goal

abbrev pub invariant-loop-token : goal.invariant-loop-token
invariant-loop-token l =
    (accepts (spec.step l.goal) (spec.at_end l.goal) (drop l.at l.tokens) l.place ≡ accepts (spec.step l.goal) (spec.at_end l.goal) (drop l.fn.at l.tokens) (record { frames = []; mode = l.fn.mode }))
    × (l.at + goes (spec.step l.goal) (spec.at_end l.goal) (drop l.at l.tokens) l.place ≡ l.fn.at + goes (spec.step l.goal) (spec.at_end l.goal) (drop l.fn.at l.tokens) (record { frames = []; mode = l.fn.mode }))

abbrev pub decreases-loop-token : goal.decreases-loop-token
decreases-loop-token l = length l.tokens - l.at

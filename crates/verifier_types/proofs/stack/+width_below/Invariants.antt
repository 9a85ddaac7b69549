use Rattle.verifier_types.proofs.stack.+width_below.Given as goal

abbrev pub decreases-width_below : goal.decreases-width_below
decreases-width_below l = l.count

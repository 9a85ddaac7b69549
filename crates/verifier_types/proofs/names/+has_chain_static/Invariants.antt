use Rattle.verifier_types.proofs.names.+has_chain_static.Given as goal

abbrev pub decreases-has_chain_static : goal.decreases-has_chain_static
decreases-has_chain_static l = l.steps

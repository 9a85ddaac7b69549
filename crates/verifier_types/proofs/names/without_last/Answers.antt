use Rattle.verifier_types.proofs.ArrayNames.{all_but_last}
use Rattle.verifier_types.proofs.names.without_last.Goals as goal

pub returns-in-len1-up : goal.returns-in-len1-up
returns-in-len1-up c = all_but_last c.args.units.now

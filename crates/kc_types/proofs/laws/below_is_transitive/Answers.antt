use Rattle.kc_types.proofs.Ends.{transitive}
use Rattle.kc_types.proofs.laws.below_is_transitive.Goals as goal

pub returns : goal.returns
returns c = transitive

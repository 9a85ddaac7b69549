use Rattle.kc_types.proofs.Reflexive.{has_instances}
use Rattle.kc_types.proofs.laws.below_has_instances.Goals as goal

pub returns : goal.returns
returns c = has_instances

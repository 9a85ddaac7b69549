use Rattle.kc_types.proofs.CoreTheorems.{has_instances}
use Rattle.kc_types.proofs.laws.core_has_instances.Goals as goal

pub returns : goal.returns
returns c = has_instances

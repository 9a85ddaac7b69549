use Rattle.kc_types.proofs.Sound.{has_instances}
use Rattle.kc_types.proofs.laws.has_instances.Goals as goal

pub returns : goal.returns
returns c = has_instances

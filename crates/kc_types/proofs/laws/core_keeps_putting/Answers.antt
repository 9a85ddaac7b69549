use Rattle.kc_types.proofs.CoreTheorems.{keeps_putting}
use Rattle.kc_types.proofs.laws.core_keeps_putting.Goals as goal

pub returns : goal.returns
returns c = keeps_putting

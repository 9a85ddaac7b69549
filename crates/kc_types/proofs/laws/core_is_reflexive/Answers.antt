use Rattle.kc_types.proofs.CoreTheorems.{is_reflexive}
use Rattle.kc_types.proofs.laws.core_is_reflexive.Goals as goal

pub returns : goal.returns
returns c = is_reflexive

use Rattle.kc_types.proofs.Reflexive.{is_reflexive}
use Rattle.kc_types.proofs.laws.below_is_reflexive.Goals as goal

pub returns : goal.returns
returns c = is_reflexive

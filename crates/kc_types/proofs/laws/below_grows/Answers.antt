use Rattle.kc_types.proofs.Reflexive.{grows}
use Rattle.kc_types.proofs.laws.below_grows.Goals as goal

pub returns : goal.returns
returns c = grows

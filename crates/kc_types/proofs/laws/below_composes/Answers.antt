use Rattle.kc_types.proofs.FormedSound.{composes}
use Rattle.kc_types.proofs.laws.below_composes.Goals as goal

pub returns : goal.returns
returns c = composes

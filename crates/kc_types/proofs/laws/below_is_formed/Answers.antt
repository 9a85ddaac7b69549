use Rattle.kc_types.proofs.FormedSound.{is_formed}
use Rattle.kc_types.proofs.laws.below_is_formed.Goals as goal

pub returns : goal.returns
returns c = is_formed

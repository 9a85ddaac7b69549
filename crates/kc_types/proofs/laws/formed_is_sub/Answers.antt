use Rattle.kc_types.proofs.FormedSound.{is_sub}
use Rattle.kc_types.proofs.laws.formed_is_sub.Goals as goal

pub returns : goal.returns
returns c = is_sub

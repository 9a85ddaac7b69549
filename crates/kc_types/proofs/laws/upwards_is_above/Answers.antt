use Rattle.kc_types.proofs.Upwards.{upwards_above}
use Rattle.kc_types.proofs.laws.upwards_is_above.Goals as goal

pub returns : goal.returns
returns c = upwards_above

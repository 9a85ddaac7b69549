use Rattle.kc_types.proofs.Upwards.{downwards_below}
use Rattle.kc_types.proofs.laws.downwards_is_below.Goals as goal

pub returns : goal.returns
returns c = downwards_below

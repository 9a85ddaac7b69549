use Rattle.kc_types.proofs.Stars.{stars_above}
use Rattle.kc_types.proofs.laws.stars_are_above.Goals as goal

pub returns : goal.returns
returns c = stars_above

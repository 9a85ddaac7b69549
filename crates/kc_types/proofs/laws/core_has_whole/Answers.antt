use Rattle.kc_types.proofs.CoreInWhole.{has_whole}
use Rattle.kc_types.proofs.laws.core_has_whole.Goals as goal

pub returns : goal.returns
returns c = has_whole

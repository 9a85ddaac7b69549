use Rattle.kc_types.proofs.CoreInWhole.{is_part}
use Rattle.kc_types.proofs.laws.core_is_part.Goals as goal

pub returns : goal.returns
returns c = is_part

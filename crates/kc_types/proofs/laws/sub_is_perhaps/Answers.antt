use Rattle.kc_types.proofs.Perhaps.{sub_is_perhaps}
use Rattle.kc_types.proofs.laws.sub_is_perhaps.Goals as goal

pub returns : goal.returns
returns c = sub_is_perhaps

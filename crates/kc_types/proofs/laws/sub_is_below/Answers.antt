use Rattle.kc_types.proofs.Ends.{sub_is_below}
use Rattle.kc_types.proofs.laws.sub_is_below.Goals as goal

pub returns : goal.returns
returns c = sub_is_below

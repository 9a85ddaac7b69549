use Rattle.kc_types.proofs.Supertypes.{above_only}
use Rattle.kc_types.proofs.Listed.{all_listed}
use Rattle.kc_types.proofs.laws.supertypes_are_listed.Goals as goal

pub returns : goal.returns
returns c h ordered k t = (all_listed h ordered k t, above_only h k t)

use Rattle.kc_types.proofs.Ends.{ends}
use Rattle.kc_types.proofs.laws.questions_end.Goals as goal

pub returns : goal.returns
returns c = ends

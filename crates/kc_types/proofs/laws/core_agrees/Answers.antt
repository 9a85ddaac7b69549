use Rattle.kc_types.proofs.CoreTheorems.{agrees}
use Rattle.kc_types.proofs.laws.core_agrees.Goals as goal

pub returns : goal.returns
returns c = agrees

use Rattle.kc_types.proofs.CoreTheorems.{is_transitive}
use Rattle.kc_types.proofs.laws.core_is_transitive.Goals as goal

pub returns : goal.returns
returns c = is_transitive

use Rattle.kc_types.proofs.Agreeing.{is_transitive}
use Rattle.kc_types.proofs.laws.decided_is_transitive.Goals as goal

pub returns : goal.returns
returns c = is_transitive

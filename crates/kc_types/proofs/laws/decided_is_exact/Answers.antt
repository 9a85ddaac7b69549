use Rattle.kc_types.proofs.Agreeing.{is_exact}
use Rattle.kc_types.proofs.laws.decided_is_exact.Goals as goal

pub returns : goal.returns
returns c = is_exact

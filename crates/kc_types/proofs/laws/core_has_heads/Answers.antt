use Rattle.kc_types.proofs.CoreExampleValid.{is_valid}
use Rattle.kc_types.proofs.laws.core_has_heads.Goals as goal

pub returns : goal.returns
returns c = is_valid

use Rattle.kc_types.proofs.ExampleValid.{is_valid}
use Rattle.kc_types.proofs.laws.has_valid_heads.Goals as goal

pub returns : goal.returns
returns c = is_valid

use Rattle.kc_types.proofs.ExampleEnds.{has_ending}
use Rattle.kc_types.proofs.laws.has_ending_heads.Goals as goal

pub returns : goal.returns
returns c = has_ending

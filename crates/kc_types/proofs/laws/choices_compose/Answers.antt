use Rattle.kc_types.proofs.Reflexive.{choices_compose}
use Rattle.kc_types.proofs.laws.choices_compose.Goals as goal

pub returns : goal.returns
returns c = choices_compose

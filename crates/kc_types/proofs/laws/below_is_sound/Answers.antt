use Rattle.kc_types.proofs.Sound.{below_sound}
use Rattle.kc_types.proofs.laws.below_is_sound.Goals as goal

pub returns : goal.returns
returns c = below_sound

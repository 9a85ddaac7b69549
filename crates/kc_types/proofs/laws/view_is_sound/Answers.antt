use Rattle.kc_types.proofs.Viewed.{view_sound}
use Rattle.kc_types.proofs.laws.view_is_sound.Goals as goal

pub returns : goal.returns
returns c = view_sound

use Rattle.class_soundness.proofs.Sound.{never_stuck}
use Rattle.class_soundness.proofs.verified_is_never_stuck.Goals as goal

pub returns : goal.returns
returns c = never_stuck

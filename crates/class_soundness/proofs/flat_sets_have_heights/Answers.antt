use Rattle.class_soundness.proofs.Ranked.{flat_heights}
use Rattle.class_soundness.proofs.flat_sets_have_heights.Goals as goal

pub returns : goal.returns
returns c = flat_heights

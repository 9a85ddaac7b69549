use Rattle.class_soundness.proofs.Listed.{first_lot}
use Rattle.class_soundness.proofs.first_lot_is_covered.Goals as goal

pub returns : goal.returns
returns c = first_lot

use Rattle.class_soundness.proofs.Plain.{whole_loaded}
use Rattle.class_soundness.proofs.whole_sets_are_loaded.Goals as goal

pub returns : goal.returns
returns c = whole_loaded

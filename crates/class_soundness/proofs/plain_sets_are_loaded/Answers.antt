use Rattle.class_soundness.proofs.Plain.{plain_loaded}
use Rattle.class_soundness.proofs.plain_sets_are_loaded.Goals as goal

pub returns : goal.returns
returns c = plain_loaded

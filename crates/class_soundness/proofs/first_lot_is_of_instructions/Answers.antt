use Rattle.class_soundness.proofs.Plain.{of_instructions}
use Rattle.class_soundness.proofs.first_lot_is_of_instructions.Goals as goal

pub returns : goal.returns
returns c = of_instructions

use Rattle.class_machine.proofs.FirstLot.{is_built_set}
use Rattle.class_machine.proofs.laws.first_lot_is_built.Goals as goal

pub returns : goal.returns
returns c = is_built_set

use Rattle.stack_code.proofs.FirstLot.{compiled_is_first_lot}
use Rattle.stack_code.proofs.method.compiled_is_first_lot.Goals as goal

pub returns : goal.returns
returns c = compiled_is_first_lot

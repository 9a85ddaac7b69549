use Rattle.stack_code.proofs.Verified.{compiled_verifies}
use Rattle.stack_code.proofs.method.compiled_verifies.Goals as goal

pub returns : goal.returns
returns c = compiled_verifies

use Rattle.stack_code.proofs.Agree.{compiled_agrees}
use Rattle.stack_code.proofs.method.compiled_agrees.Goals as goal

pub returns : goal.returns
returns c = compiled_agrees

use Rattle.stack_code.proofs.Implementing.{code_implements}
use Rattle.stack_code.proofs.method.code_implements.Goals as goal

pub returns : goal.returns
returns c = code_implements

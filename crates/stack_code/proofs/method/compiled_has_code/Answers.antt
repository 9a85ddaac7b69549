use Rattle.stack_code.proofs.Filled.{has_code}
use Rattle.stack_code.proofs.method.compiled_has_code.Goals as goal

pub returns : goal.returns
returns c = λ set program main is. has_code is.class.pool is.method.code is.function.body is.code.spelled

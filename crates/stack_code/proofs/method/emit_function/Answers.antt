use Rattle.std.proofs.Common.{arith}
use Rattle.stack_code.proofs.Heights.{stack_bound}
use Rattle.stack_code.proofs.method.emit_function.Goals as goal

pub returns-clause-deep : goal.returns-clause-deep
returns-clause-deep c = let b = stack_bound c.args.function.now in omega (arith, b, c.in_ok-deepest.ensures)

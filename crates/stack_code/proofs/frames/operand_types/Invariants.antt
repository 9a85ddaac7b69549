use Rattle.std.proofs.Common.{◌≡◌, ◌++◌, drop, map}
use Rattle.stack_code.specs.Walking.{operand_type}
use Rattle.stack_code.proofs.frames.operand_types.Given as goal

abbrev pub invariant-loop-operand : goal.invariant-loop-operand
invariant-loop-operand l = l.types.items ++ map operand_type (drop l.operand-index l.stack) ≡ map operand_type l.stack

use Rattle.std.proofs.Common.{◌+◌, ◌*◌, max}
use Rattle.form_parser.specs.declared.surface.Expression.{size-Expression}
use Rattle.form_parser.specs.declared.surface.ExpressionKind.{size-ExpressionKind}
use Rattle.form_elaboration.proofs.expressions.Names.+elaborate.Given as goal

abbrev pub decreases-expression : goal.decreases-expression
decreases-expression l = 3 * size-Expression l.expression.now

abbrev pub decreases-operand : goal.decreases-operand
decreases-operand l = 3 * size-Expression l.expression.now + 1

abbrev pub decreases-operands : goal.decreases-operands
decreases-operands l = 3 * max (size-Expression l.left.now) (size-Expression l.right.now) + 2

abbrev pub decreases-value : goal.decreases-value
decreases-value l = 3 * size-ExpressionKind l.kind.now

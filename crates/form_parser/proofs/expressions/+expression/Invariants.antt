use Rattle.std.proofs.Common.{◌+◌, ◌*◌, length}
use Rattle.form_parser.proofs.Readings.{chain_rank, operand_rank}
use Rattle.form_parser.proofs.expressions.+expression.Given as goal

abbrev pub decreases-chain : goal.decreases-chain
decreases-chain l = 16 * length l.tokens.now + chain_rank l.level

abbrev pub decreases-operand : goal.decreases-operand
decreases-operand l = 16 * length l.tokens.now + operand_rank l.level

abbrev pub decreases-more : goal.decreases-more
decreases-more l = 16 * length l.tokens.now

abbrev pub decreases-behind : goal.decreases-behind
decreases-behind l = 16 * length l.tokens.now + 1

abbrev pub decreases-prefix : goal.decreases-prefix
decreases-prefix l = 16 * length l.tokens.now + 2

abbrev pub decreases-primary : goal.decreases-primary
decreases-primary l = 16 * length l.tokens.now + 1

abbrev pub decreases-brackets : goal.decreases-brackets
decreases-brackets l = 16 * length l.tokens.now + 15

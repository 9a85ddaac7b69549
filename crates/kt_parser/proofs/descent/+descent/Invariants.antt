use Rattle.std.proofs.Common.{◌+◌, ◌*◌}
use Rattle.kt_parser.proofs.descent.+descent.Given as goal

abbrev pub decreases-expression : goal.decreases-expression
decreases-expression l = 2 * l.depth

abbrev pub decreases-expression-closure : goal.decreases-expression-closure
decreases-expression-closure l = 2 * l.inner + 1

abbrev pub decreases-expression-closure+2 : goal.decreases-expression-closure+2
decreases-expression-closure+2 l = 2 * l.inner + 1

abbrev pub decreases-statement : goal.decreases-statement
decreases-statement l = 2 * l.depth

abbrev pub decreases-statement-closure : goal.decreases-statement-closure
decreases-statement-closure l = 2 * l.inner + 1

abbrev pub decreases-statement-closure+2 : goal.decreases-statement-closure+2
decreases-statement-closure+2 l = 2 * l.inner + 1

use Rattle.std.proofs.Common.{◌+◌, ◌*◌, length}
use Rattle.form_parser.proofs.parser.+statement.Given as goal

abbrev pub decreases-statement : goal.decreases-statement
decreases-statement l = 4 * length l.tokens.now

abbrev pub decreases-choice : goal.decreases-choice
decreases-choice l = 4 * length l.tokens.now + 3

abbrev pub decreases-repetition : goal.decreases-repetition
decreases-repetition l = 4 * length l.tokens.now + 3

abbrev pub decreases-body : goal.decreases-body
decreases-body l = 4 * length l.tokens.now + 1

abbrev pub decreases-another : goal.decreases-another
decreases-another l = 4 * length l.tokens.now + 1

abbrev pub decreases-statements : goal.decreases-statements
decreases-statements l = 4 * length l.tokens.now + 2

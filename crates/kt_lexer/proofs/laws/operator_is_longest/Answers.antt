use Rattle.kt_lexer.proofs.Longest.{longest_operator}
use Rattle.kt_lexer.proofs.laws.operator_is_longest.Goals as goal

pub returns : goal.returns
returns c = longest_operator

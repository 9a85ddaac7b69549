use Rattle.kt_lexer.proofs.Longest.{longest_word}
use Rattle.kt_lexer.proofs.laws.word_is_longest.Goals as goal

pub returns : goal.returns
returns c = longest_word

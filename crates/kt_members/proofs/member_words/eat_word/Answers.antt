use Rattle.std.proofs.Common.{subst}
use Rattle.kt_grammar.proofs.Advances.{moves}
use Rattle.kt_grammar.specs.Moves.{Moved}
use Rattle.kt_grammar.specs.Tokens.{is_of}
use Rattle.kt_members.proofs.member_words.eat_word.Goals as goal

pub returns-in-Some : goal.returns-in-Some
returns-in-Some c = subst (λ n. Moved (is_of n) c.args.tokens.now c.args.at c.to.result) c.word_class.ensures (moves c.in-Some.ensures c.to.ensures)

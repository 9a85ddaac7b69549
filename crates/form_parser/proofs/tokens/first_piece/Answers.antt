use Rattle.std.proofs.Common.{sym, refl}
use Rattle.form_parser.proofs.Cuts.{word_token, sign_token, not_word, not_sign}
use Rattle.form_parser.proofs.tokens.first_piece.Goals as goal

pub returns-in-Some-word : goal.returns-in-Some-word
returns-in-Some-word c =
    word_token c.in-Some.ensures.cases.0 (sym c.in-Word.ensures) c.in-Some-word.ensures.0 c.in-Some-word.ensures.1

pub returns-in-None : goal.returns-in-None
returns-in-None c = not_word c.in-Some.ensures.cases.0 (sym c.in-Word.ensures) c.in-None.ensures

pub returns-in-Some-longest_sign : goal.returns-in-Some-longest_sign
returns-in-Some-longest_sign c =
    sign_token c.in-Some.ensures.cases.0 (sym c.in-Sign.ensures) (sym c.in-Some-longest_sign.ensures) refl refl

pub returns-in-None-longest_sign : goal.returns-in-None-longest_sign
returns-in-None-longest_sign c = not_sign c.in-Some.ensures.cases.0 (sym c.in-Sign.ensures) (sym c.in-None-longest_sign.ensures)

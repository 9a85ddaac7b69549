use Rattle.kt_lexer.proofs.Weaving.{gives_back}
use Rattle.kt_lexer.proofs.laws.cut_gives_text_back.Goals as goal

pub returns : goal.returns
returns c = gives_back

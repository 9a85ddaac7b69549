use Rattle.kt_lexer.proofs.Ascii.{ascii_by_category}
use Rattle.kt_lexer.proofs.laws.ascii_is_by_category.Goals as goal

pub returns : goal.returns
returns c = ascii_by_category

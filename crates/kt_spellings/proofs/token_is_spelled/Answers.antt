use Rattle.kt_spellings.proofs.Spelling.{token_is_spelled}
use Rattle.kt_spellings.proofs.token_is_spelled.Goals as goal

pub returns : goal.returns
returns c = token_is_spelled

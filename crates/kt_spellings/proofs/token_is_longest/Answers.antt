use Rattle.kt_spellings.proofs.Longest.{token_is_longest}
use Rattle.kt_spellings.proofs.token_is_longest.Goals as goal

pub returns : goal.returns
returns c = token_is_longest

use Rattle.kt_spellings.proofs.Longest.{spelled_is_token}
use Rattle.kt_spellings.proofs.spelled_is_token.Goals as goal

pub returns : goal.returns
returns c = spelled_is_token

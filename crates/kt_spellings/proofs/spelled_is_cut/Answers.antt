use Rattle.kt_spellings.proofs.Cuts.{spelled_is_cut}
use Rattle.kt_spellings.proofs.spelled_is_cut.Goals as goal

pub returns : goal.returns
returns c = spelled_is_cut

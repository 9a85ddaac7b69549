use Rattle.kt_spellings.proofs.Cuts.{cut_is_spelled}
use Rattle.kt_spellings.proofs.cut_is_spelled.Goals as goal

pub returns : goal.returns
returns c = cut_is_spelled

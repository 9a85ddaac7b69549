use Rattle.kt_calls.proofs.SuffixRows.{looked_suffix}
use Rattle.kt_calls.proofs.endings.look_for_suffix.Goals as goal

pub returns : goal.returns
returns c = looked_suffix c.seen.result c.requires.within c.suffix_at-look.ensures.0 c.suffix_at-look.ensures.1 c.seen.ensures

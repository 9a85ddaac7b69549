use Rattle.kc_core.specs.NeverBroken.{never_broken}
use Rattle.kc_core.proofs.formed_is_never_broken.Goals as goal

pub returns : goal.returns
returns c = never_broken

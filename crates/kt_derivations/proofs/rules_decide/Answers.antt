use Rattle.kt_derivations.proofs.Unread as law
use Rattle.kt_derivations.proofs.rules_decide.Goals as goal

pub returns : goal.returns
returns c = law.rules_decide

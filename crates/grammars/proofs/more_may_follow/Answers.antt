use Rattle.grammars.proofs.Readings as law
use Rattle.grammars.proofs.more_may_follow.Goals as goal

pub returns : goal.returns
returns g c = λ G a ts r s x d. law.followed G d s

use Rattle.bound_grammars.proofs.Minding as law
use Rattle.bound_grammars.proofs.fair_with_none.Goals as goal

pub returns : goal.returns
returns g c = λ G empty k. law.is_fair_of G empty k

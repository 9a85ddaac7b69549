use Rattle.bound_grammars.proofs.Minding as law
use Rattle.bound_grammars.proofs.derivation_minds_none.Goals as goal

pub returns : goal.returns
returns g c = λ G a ts r x d. law.none_minded G d

use Rattle.bound_grammars.proofs.Minding as law
use Rattle.bound_grammars.proofs.minding_derives.Goals as goal

pub returns : goal.returns
returns g c = λ G only due a ts r x d. law.derives G d

use Rattle.bound_grammars.proofs.Obeying as law
use Rattle.bound_grammars.proofs.obeying_derives.Goals as goal

pub returns : goal.returns
returns g c = λ G rules a ts r x d. law.derives G d

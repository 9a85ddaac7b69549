use Rattle.bound_grammars.proofs.Obeying as law
use Rattle.bound_grammars.proofs.fewer_are_obeyed.Goals as goal

pub returns : goal.returns
returns g c = λ G rules fewer a ts r x k d. law.fewer G k d

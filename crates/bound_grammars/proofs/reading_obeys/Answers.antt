use Rattle.bound_grammars.proofs.Obeying as law
use Rattle.bound_grammars.proofs.reading_obeys.Goals as goal

pub returns : goal.returns
returns g c = λ G rules a ts r x d. law.obeys G d

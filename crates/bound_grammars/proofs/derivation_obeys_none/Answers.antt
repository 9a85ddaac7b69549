use Rattle.bound_grammars.proofs.Obeying as law
use Rattle.bound_grammars.proofs.derivation_obeys_none.Goals as goal

pub returns : goal.returns
returns g c = λ G a ts r x d. law.none_obeyed G d

use Rattle.bound_grammars.specs.Obeying.{Among}
use Rattle.bound_grammars.proofs.Obeying as law
use Rattle.bound_grammars.proofs.obeying_is_unique.Goals as goal

pub returns : goal.returns
returns g c = λ G empty rules n ts x y k d e. law.one_obeys G empty (Among rules) k d e

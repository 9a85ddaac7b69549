use Rattle.bound_grammars.specs.Obeying.{Among}
use Rattle.bound_grammars.specs.Minding.{Paired}
use Rattle.bound_grammars.proofs.Minding as law
use Rattle.bound_grammars.proofs.stuck_is_not_minded.Goals as goal

pub returns : goal.returns
returns g c = λ G empty only due n ts rest k s. law.fault_of G (Paired only) (Among due) empty k s

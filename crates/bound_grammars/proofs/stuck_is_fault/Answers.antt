use Rattle.bound_grammars.specs.Obeying.{Among}
use Rattle.bound_grammars.proofs.Obeying as law
use Rattle.bound_grammars.proofs.stuck_is_fault.Goals as goal

pub returns : goal.returns
returns g c = λ G empty rules n ts rest k s. law.fault_of G empty (Among rules) k s

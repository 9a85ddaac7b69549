use Rattle.grammars.proofs.Order as law
use Rattle.grammars.proofs.stuck_is_fault.Goals as goal

pub returns : goal.returns
returns g c = λ G empty n ts rest k s. law.fault_of G empty k s

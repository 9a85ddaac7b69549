use Rattle.bound_grammars.specs.Obeying.{Among}
use Rattle.bound_grammars.specs.Minding.{Paired}
use Rattle.bound_grammars.proofs.Minding as law
use Rattle.bound_grammars.proofs.minding_is_read.Goals as goal

pub returns : goal.returns
returns g c = λ G empty only due n ts x k d. law.has_reading G (Paired only) (Among due) empty k d

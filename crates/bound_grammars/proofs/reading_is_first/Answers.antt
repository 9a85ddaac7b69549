use Rattle.bound_grammars.specs.Obeying.{Among}
use Rattle.bound_grammars.proofs.Heeding as law
use Rattle.bound_grammars.proofs.reading_is_first.Goals as goal

pub returns : goal.returns
returns g c = λ G empty taken strict n ts r s x y k d e. law.reading_first G empty (Among taken) (Among strict) k d e

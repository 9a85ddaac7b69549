use Rattle.bound_grammars.specs.Obeying.{Among}
use Rattle.bound_grammars.proofs.Obeying as law
use Rattle.bound_grammars.proofs.reading_is_preferred.Goals as goal

pub returns : goal.returns
returns g c = λ G rules n ts r s x y k d e. law.preferred G (Among rules) k d e

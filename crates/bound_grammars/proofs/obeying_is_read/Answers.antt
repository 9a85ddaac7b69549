use Rattle.bound_grammars.specs.Obeying.{Among}
use Rattle.bound_grammars.proofs.Obeying as law
use Rattle.bound_grammars.proofs.obeying_is_read.Goals as goal

pub returns : goal.returns
returns g c = λ G empty rules n ts x k d. (law.whole G empty (Among rules) k d, λ y r e. let o = law.whole_is_one G empty (Among rules) k d e in (o.tree, o.rest))

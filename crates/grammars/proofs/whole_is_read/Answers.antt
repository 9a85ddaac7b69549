use Rattle.grammars.proofs.Normal as law
use Rattle.grammars.proofs.whole_is_read.Goals as goal

pub returns : goal.returns
returns g c = λ G empty n ts x k d. let i = law.has_reading G empty k.empties k.fair d in (i.tree, i.reads)

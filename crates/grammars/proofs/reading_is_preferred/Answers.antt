use Rattle.grammars.proofs.Order as law
use Rattle.grammars.proofs.reading_is_preferred.Goals as goal

pub returns : goal.returns
returns g c = λ G empty n ts r s x y k d e. law.preferred G empty k d e

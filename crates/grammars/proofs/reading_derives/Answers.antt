use Rattle.grammars.proofs.Readings as law
use Rattle.grammars.proofs.reading_derives.Goals as goal

pub returns : goal.returns
returns g c = λ G a ts r x d. law.derives G d

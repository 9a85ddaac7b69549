use Rattle.grammars.proofs.Readings as law
use Rattle.grammars.proofs.reading_is_unique.Goals as goal

pub returns : goal.returns
returns g c = λ G a ts r s x y d e. let k = law.one_reading G d e in (k.tree, k.rest)

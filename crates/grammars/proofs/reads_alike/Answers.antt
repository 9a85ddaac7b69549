use Rattle.grammars.proofs.Readings as law
use Rattle.grammars.proofs.reads_alike.Goals as goal

pub returns : goal.returns
returns g c = λ G a ts r back q s x d e w n. let k = law.carry G d back q s e w n in (k.before, k.split, k.reads)

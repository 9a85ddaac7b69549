use Rattle.grammars.proofs.Progress as law
use Rattle.grammars.proofs.takes_token.Goals as goal

pub returns : goal.returns
returns g c = λ G empty a ts r x e z d. law.progress G empty e d z

use Rattle.grammars.proofs.Order as law
use Rattle.grammars.proofs.fault_is_unique.Goals as goal

pub returns : goal.returns
returns g c = λ G a ts r s p q. law.one_fault G p q

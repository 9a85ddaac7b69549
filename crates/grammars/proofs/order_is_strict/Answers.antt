use Rattle.grammars.proofs.Order as law
use Rattle.grammars.proofs.order_is_strict.Goals as goal

pub returns : goal.returns
returns g c = λ x y p. (λ q. law.one_way p q, λ e. law.differ p e)

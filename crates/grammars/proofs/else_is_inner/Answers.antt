use Rattle.grammars.proofs.Example as law
use Rattle.grammars.proofs.else_is_inner.Goals as goal

pub returns : goal.returns
returns c = law.else_is_inner

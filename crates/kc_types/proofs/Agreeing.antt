-- Where both recursions agree.
use Rattle.std.proofs.Common.{◌∙◌}
use Rattle.kc_types.specs.Decided.{DecidedIsExact, DecidedIsTransitive}
use Rattle.kc_types.proofs.Perhaps.{sub_is_perhaps}
use Rattle.kc_types.proofs.FormedSound.{is_formed, composes}

pub is_exact : DecidedIsExact
is_exact h valid a b k l n e = (λ d. e ∙ sub_is_perhaps h valid a b k l d n, λ q. is_formed h valid n a b k l q)

pub is_transitive : DecidedIsTransitive
is_transitive h valid a b c ka kb kc n m p q k e = e ∙ composes h valid a b c ka kb kc n m p q k

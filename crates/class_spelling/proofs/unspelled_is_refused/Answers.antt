use Rattle.class_spelling.proofs.Corollaries.{unspelled_is_refused}
use Rattle.class_spelling.proofs.unspelled_is_refused.Goals as goal

pub returns : goal.returns
returns c = unspelled_is_refused

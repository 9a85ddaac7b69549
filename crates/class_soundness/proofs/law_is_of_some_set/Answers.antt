use Rattle.class_soundness.proofs.Example.{example}
use Rattle.class_soundness.proofs.law_is_of_some_set.Goals as goal

pub returns : goal.returns
returns c = example

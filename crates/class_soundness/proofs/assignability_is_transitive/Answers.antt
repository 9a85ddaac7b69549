use Rattle.class_soundness.proofs.Chains.{assignable_through}
use Rattle.class_soundness.proofs.assignability_is_transitive.Goals as goal

pub returns : goal.returns
returns c = assignable_through

use Rattle.kc_types.proofs.ExampleTrees.{has_ending_trees}
use Rattle.kc_types.proofs.laws.has_ending_trees.Goals as goal

pub returns : goal.returns
returns c = has_ending_trees

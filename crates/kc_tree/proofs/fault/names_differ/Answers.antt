use Rattle.kc_tree.proofs.CodesApart.{names_differ}
use Rattle.kc_tree.proofs.fault.names_differ.Goals as goal

pub returns : goal.returns
returns c = names_differ

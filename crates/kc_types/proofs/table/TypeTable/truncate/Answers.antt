use Rattle.kc_types.proofs.Growth.{cut, cut_trees}
use Rattle.kc_types.proofs.table.TypeTable.truncate.Goals as goal

pub invariant_of-self : goal.invariant_of-self
invariant_of-self c = cut c.self.inside.types.entries c.truncate.new.self.entries c.args.len c.self.invariant c.truncate.ensures.entries

pub returns : goal.returns
returns c = cut_trees c.self.inside.types.entries c.truncate.new.self.entries c.args.len c.args.self.now c.self.view_is c.truncate.ensures.entries

use Rattle.std.proofs.Common.{sym, ap, ◌∙◌}
use Rattle.kc_types.specs.Trees.{depth_of_argument}
use Rattle.kc_types.specs.Tables.{argument_at}
use Rattle.kc_types.proofs.Tables.{argument_depth_rolled, depth_of_argument_type}
use Rattle.kc_types.proofs.table.TypeTable.argument_depth.Goals as goal

pub returns-in-Star-clause-exact : goal.returns-in-Star-clause-exact
returns-in-Star-clause-exact c = sym (ap (λ a. depth_of_argument (argument_at c.args.self.now a)) c.in-Star.is ∙ argument_depth_rolled _)

pub returns-in-Exact-clause-exact : goal.returns-in-Exact-clause-exact
returns-in-Exact-clause-exact c = c.depth_at.ensures.exact ∙ depth_of_argument_type c.args.self.now c.args.argument c.in-Exact.ty c.in-Exact.is

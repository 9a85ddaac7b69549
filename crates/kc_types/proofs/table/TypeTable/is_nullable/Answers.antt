use Rattle.std.proofs.Common.{◌≤◌, ap, sym, subst, ◌∙◌}
use Rattle.kc_types.specs.Trees.{depth_of}
use Rattle.kc_types.proofs.Putting.{is_nullable_node, node_is_nullable, not_nullable}
use Rattle.kc_types.proofs.table.TypeTable.is_nullable.Goals as goal

pub returns-in-Nullable-clause-exact : goal.returns-in-Nullable-clause-exact
returns-in-Nullable-clause-exact c = sym (is_nullable_node c.args.self.now _ c.view.result.now c.view.ensures.is ∙ ap node_is_nullable c.in-Nullable.is)

pub returns-in-Nullable-clause-shallow : goal.returns-in-Nullable-clause-shallow
returns-in-Nullable-clause-shallow c = subst (λ t. depth_of t ≤ 16) c.whole-shallow.ensures.is c.whole-shallow.ensures.shallow

pub returns-in_default : goal.returns-in_default
returns-in_default c = record {
  exact = sym (is_nullable_node c.args.self.now _ c.view.result.now c.view.ensures.is ∙ not_nullable c.view.result.now c.in_default.not-Nullable);
  shallow = subst (λ t. depth_of t ≤ 16) c.whole-shallow.ensures.is c.whole-shallow.ensures.shallow;
}

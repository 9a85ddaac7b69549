use Rattle.std.proofs.Common.{◌≡◌, List, Some, slice_get, subst, sym, ap, ◌∙◌}
use Rattle.std.specs.Option.{option_map}
use Rattle.std.proofs.lemmas.Option.{slice_get-map, get_or_from_slice_get}
use Rattle.kc_types.specs.declared.types.Ty.{Ty}
use Rattle.kc_types.specs.declared.table.Known.{Known}
use Rattle.kc_types.specs.declared.trees.TypeTree.{TypeTree}
use Rattle.kc_types.specs.Tables.{AllDifferent, Stands, tree_at, tree_in, trees_of}
use Rattle.kc_types.proofs.Nodes.{default}
use Rattle.kc_types.proofs.table.TypeTable.at.Goals as goal

abbrev entry_of : Ty → Known → Ty × Known
entry_of ty k = (ty, k)

entry : (c : goal.After-unwrap) → slice_get c.self.inside.types.entries c.args.id.0 ≡ Some (entry_of c.unwrap.result.0.now c.unwrap.result.1.now)
entry c = sym c.get_index-entry.ensures.entry ∙ ap (λ o. option_map (λ p. (p.0.now, p.1.now)) o) c.unwrap.ensures

pub returns-clause-is : goal.returns-clause-is
returns-clause-is c = subst (λ (ts : List TypeTree). c.unwrap.result.1.now.tree ≡ tree_at ts c.args.id) c.self.view_is
    (sym (get_or_from_slice_get (trees_of c.self.inside.types.entries) c.args.id.0 c.unwrap.result.1.now.tree default (slice_get-map tree_in c.self.inside.types.entries c.args.id.0 ∙ ap (option_map tree_in) (entry c))))

pub returns-clause-stands : goal.returns-clause-stands
returns-clause-stands c = subst (λ (ts : List TypeTree). Stands ts c.args.id.0 (entry_of c.unwrap.result.0.now c.unwrap.result.1.now)) c.self.view_is (c.self.invariant.stand c.args.id.0 (entry_of c.unwrap.result.0.now c.unwrap.result.1.now) (entry c))

pub returns-clause-different : goal.returns-clause-different
returns-clause-different c = subst AllDifferent c.self.view_is c.self.invariant.different

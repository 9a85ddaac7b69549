use Rattle.std.proofs.Common.{List, [], ◌∷◌, ◌++◌, map, take, sym, ap, ◌∙◌}
use Rattle.kc_types.specs.declared.trees.TypeTree.{TypeTree}
use Rattle.kc_types.specs.Tables.{tree_at}
use Rattle.kc_types.proofs.Tables.{map_more}
use Rattle.kc_types.proofs.table.TypeTable.part_trees.Goals as goal

pub loop-part-preserved : goal.loop-part-preserved
loop-part-preserved c =
    c.in_ok-push.ensures.items
    ∙ ap (λ (ts : List TypeTree). ts ++ c.in_ok-tree_at.field-0 ∷ []) c.loop-part.invariant
    ∙ ap (λ t. map (tree_at c.args.self.now) (take c.loop-part.part-index c.args.parts.now) ++ t ∷ []) c.in_ok-tree_at.ensures
    ∙ sym (map_more (tree_at c.args.self.now) c.args.parts.now c.loop-part.part-index (record { 0 = 0 }) c.loop-part-test.true)

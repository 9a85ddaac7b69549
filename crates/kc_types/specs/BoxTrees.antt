-- Heads as trees: class Any, and class Box<T> : Any.
use Rattle.std.specs.Prelude.{false, [], ◌∷◌}
use Rattle.kc_types.specs.declared.trees.TypeTree.{TypeTree}
use Rattle.kc_types.specs.declared.trees.ArgTree.TheOpen.{TypeTree-F}
use Rattle.kc_types.specs.declared.trees.ArgTree.TheViews.{roll-TypeTree}
use Rattle.kc_types.specs.declared.heads.Variance.TheVariants as variance_is
use Rattle.kc_types.specs.declared.heads.HeadParam.{HeadParam}
use Rattle.kc_types.specs.declared.heads.Head.{Head}
use Rattle.kc_types.specs.declared.heads.Heads.{Heads}

abbrev pub any_tree : TypeTree
any_tree = roll-TypeTree (TypeTree-F.Class (record { 0 = 0 }) [])

abbrev pub bound_tree : TypeTree
bound_tree = roll-TypeTree (TypeTree-F.Nullable any_tree)

abbrev pub box_param : HeadParam
box_param = record { var = record { 0 = 0 }; variance = variance_is.Invariant; bound = bound_tree; reified = false }

abbrev pub any_head : Head
any_head = record { class = record { 0 = 0 }; params = []; supers = [] }

abbrev pub box_head : Head
box_head = record { class = record { 0 = 1 }; params = box_param ∷ []; supers = any_tree ∷ [] }

abbrev pub box_trees : Heads
box_trees = record { classes = any_head ∷ box_head ∷ []; others = [] }

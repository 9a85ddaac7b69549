use Rattle.std.proofs.Common.{◌≡◌, ◌++◌, ◌∷◌, [], List, ap, sym, subst, ◌∙◌, Contains}
use Rattle.std.specs.Prelude.{slice_get}
use Rattle.indexmap.proofs.CallerLemmas.{insert_entry-new}
use Rattle.kc_types.specs.declared.trees.TypeTree.{TypeTree}
use Rattle.kc_types.specs.Trees.{depth_of}
use Rattle.kc_types.specs.Tables.{IsNode, tree_of, trees_of}
use Rattle.kc_types.proofs.Nodes.{ty_eq}
use Rattle.kc_types.proofs.Growth.{Grown, grown, new_key}
use Rattle.kc_types.proofs.table.TypeTable.add.Goals as goal

gains : (c : goal.Joined-branch-3) → Grown c.self.inside.types.entries c.insert.new.self.entries (tree_of c.args.self.now c.args.ty)
gains c =
    let es = c.self.inside.types.entries in
    let ty = c.args.ty in
    let view = sym c.self.view_is in
    let table = c.self.invariant in
    let absent = subst (λ (ts : List TypeTree). ¬ (Contains ts (tree_of ts ty))) view c.requires.new in
    let node = subst (λ (ts : List TypeTree). IsNode ts ty) view c.requires.node in
    let tree = subst (λ (ts : List TypeTree). c.in_ok-tree.tree ≡ tree_of ts ty) view c.in_ok-tree.ensures in
    let depth = subst (λ (ts : List TypeTree). c.args.depth ≡ depth_of (tree_of ts ty)) view c.requires.exact in
    let entries = c.in_ok-insert.ensures.entries ∙ insert_entry-new ty_eq c.self.inside.types ty (record { tree = c.in_ok-tree.tree; depth = c.args.depth }) (new_key es table ty absent) in
    subst (λ (ts : List TypeTree). Grown es c.insert.new.self.entries (tree_of ts ty)) c.self.view_is
    (grown es ty (record { tree = c.in_ok-tree.tree; depth = c.args.depth }) table node absent tree depth c.requires.shallow c.insert.new.self.entries entries)

pub invariant_of-self-2 : goal.invariant_of-self-2
invariant_of-self-2 c = (gains c).table

pub returns-clause-number : goal.returns-clause-number
returns-clause-number c = ap (λ n. slice_get (trees_of c.insert.new.self.entries) n) c.len-at.ensures.len ∙ (gains c).at

pub returns-clause-ok : goal.returns-clause-ok
returns-clause-ok c = (gains c).trees ∙ ap (λ (ts : List TypeTree). ts ++ tree_of c.args.self.now c.args.ty ∷ []) c.self.view_is

pub returns-clause-different : goal.returns-clause-different
returns-clause-different c = (gains c).table.different

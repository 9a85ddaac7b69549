-- Types as trees: how deep they are, and substitution.
use Rattle.std.specs.Prelude.{ℕ, suc, max, nat_eq, cond, List, [], ◌∷◌}
use Rattle.kc_types.specs.declared.ids.VarId.{VarId}
use Rattle.kc_types.specs.declared.trees.TypeTree.{TypeTree, out-TypeTree}
use Rattle.kc_types.specs.declared.trees.ArgTree.{ArgTree}
use Rattle.kc_types.specs.declared.trees.ArgTree.TheOpen.{TypeTree-F, ArgTree-F}
use Rattle.kc_types.specs.declared.trees.ArgTree.TheViews.{roll-TypeTree, roll-ArgTree}
use Rattle.kc_types.specs.declared.trees.ArgTree.TheFolds.{fold-TypeTree, fold-ArgTree}

-- one level of a tree
abbrev pub Level : Type 0
Level = TypeTree-F ArgTree TypeTree

abbrev pub deepest : List ℕ → ℕ
deepest [] = 0
deepest (n ∷ ns) = max n (deepest ns)

-- 1 without arguments, else 1 more than the deepest argument; `?` adds nothing, and a star has no depth
abbrev pub level_depth : TypeTree-F ℕ ℕ → ℕ
level_depth (TypeTree-F.Class c xs) = suc (deepest xs)
level_depth (TypeTree-F.Param x) = 1
level_depth (TypeTree-F.Fun ps r) = suc (max (deepest ps) r)
level_depth TypeTree-F.Nothing = 1
level_depth (TypeTree-F.Nullable t) = t

abbrev pub argument_depth : ArgTree-F ℕ ℕ → ℕ
argument_depth (ArgTree-F.Exact t) = t
argument_depth (ArgTree-F.Out t) = t
argument_depth (ArgTree-F.In t) = t
argument_depth ArgTree-F.Star = 0

abbrev pub depth_of_argument : ArgTree → ℕ
depth_of_argument a = fold-ArgTree ℕ ℕ argument_depth level_depth a

abbrev pub depth_of : TypeTree → ℕ
depth_of t = fold-TypeTree ℕ ℕ argument_depth level_depth t

-- one `?` where two would stand
abbrev pub unless_nullable : TypeTree → Level → TypeTree
unless_nullable t (TypeTree-F.Nullable u) = t
unless_nullable t (TypeTree-F.Class c xs) = roll-TypeTree (TypeTree-F.Nullable t)
unless_nullable t (TypeTree-F.Param x) = roll-TypeTree (TypeTree-F.Nullable t)
unless_nullable t (TypeTree-F.Fun ps r) = roll-TypeTree (TypeTree-F.Nullable t)
unless_nullable t TypeTree-F.Nothing = roll-TypeTree (TypeTree-F.Nullable t)

abbrev pub nullable : TypeTree → TypeTree
nullable t = unless_nullable t (out-TypeTree t)

-- what stands for a type parameter: the type at the first place of the parameter in the list, or else itself
abbrev pub value_of : List VarId → List TypeTree → VarId → TypeTree
value_of [] ts x = roll-TypeTree (TypeTree-F.Param x)
value_of (v ∷ vs) [] x = roll-TypeTree (TypeTree-F.Param x)
value_of (v ∷ vs) (t ∷ ts) x = cond (nat_eq v.0 x.0) t (value_of vs ts x)

abbrev pub put_level : (VarId → TypeTree) → Level → TypeTree
put_level value (TypeTree-F.Class c xs) = roll-TypeTree (TypeTree-F.Class c xs)
put_level value (TypeTree-F.Param x) = value x
put_level value (TypeTree-F.Fun ps r) = roll-TypeTree (TypeTree-F.Fun ps r)
put_level value TypeTree-F.Nothing = roll-TypeTree TypeTree-F.Nothing
put_level value (TypeTree-F.Nullable t) = nullable t

abbrev pub put_argument : (VarId → TypeTree) → ArgTree → ArgTree
put_argument value a = fold-ArgTree ArgTree TypeTree roll-ArgTree (put_level value) a

-- the tree with types put in for its type parameters
abbrev pub put : (VarId → TypeTree) → TypeTree → TypeTree
put value t = fold-TypeTree ArgTree TypeTree roll-ArgTree (put_level value) t

-- Lists of different types, and the types that are made of those in a list.
use Rattle.std.specs.Prelude.{◌≡◌, ℕ, ◌<◌, ◌≤◌, Bool, true, false, List, [], ◌∷◌, ◌++◌, length, map, slice_get, get_or, All, Contains, Option, Some, None, ◌⊎◌, nat_eq, cond}
use Rattle.kc_types.specs.declared.ids.TypeId.{TypeId}
use Rattle.kc_types.specs.declared.ids.VarId.{VarId}
use Rattle.kc_types.specs.declared.types.Ty.{Ty}
use Rattle.kc_types.specs.declared.types.Ty.TheVariants as node
use Rattle.kc_types.specs.declared.types.TyArg.{TyArg}
use Rattle.kc_types.specs.declared.types.TyArg.TheVariants as argument
use Rattle.kc_types.specs.declared.table.Known.{Known}
use Rattle.kc_types.specs.declared.trees.TypeTree.{TypeTree, out-TypeTree}
use Rattle.kc_types.specs.declared.trees.ArgTree.{ArgTree}
use Rattle.kc_types.specs.declared.trees.ArgTree.TheOpen.{TypeTree-F, ArgTree-F}
use Rattle.kc_types.specs.declared.trees.ArgTree.TheViews.{roll-TypeTree, roll-ArgTree}
use Rattle.kc_types.specs.Trees.{Level, depth_of, value_of}

-- the type with this number
abbrev pub tree_at : List TypeTree → TypeId → TypeTree
tree_at ts id = get_or ts id.0 (roll-TypeTree TypeTree-F.Nothing)

abbrev pub argument_at : List TypeTree → TyArg → ArgTree
argument_at ts (argument.Exact t) = roll-ArgTree (ArgTree-F.Exact (tree_at ts t))
argument_at ts (argument.Out t) = roll-ArgTree (ArgTree-F.Out (tree_at ts t))
argument_at ts (argument.In t) = roll-ArgTree (ArgTree-F.In (tree_at ts t))
argument_at ts argument.Star = roll-ArgTree ArgTree-F.Star

-- one level of the tree of a type whose parts have numbers
abbrev pub level_of : List TypeTree → Ty → Level
level_of ts (node.Class c xs) = TypeTree-F.Class c (map (argument_at ts) xs)
level_of ts (node.Param x) = TypeTree-F.Param x
level_of ts (node.Fun ps r) = TypeTree-F.Fun (map (tree_at ts) ps) (tree_at ts r)
level_of ts node.Nothing = TypeTree-F.Nothing
level_of ts (node.Nullable t) = TypeTree-F.Nullable (tree_at ts t)

abbrev pub tree_of : List TypeTree → Ty → TypeTree
tree_of ts ty = roll-TypeTree (level_of ts ty)

-- the parts have numbers below this one
abbrev pub PartBelow : ℕ → TypeId → Type 0
PartBelow n id = id.0 < n

abbrev pub ArgumentBelow : ℕ → TyArg → Type 0
ArgumentBelow n (argument.Exact t) = PartBelow n t
ArgumentBelow n (argument.Out t) = PartBelow n t
ArgumentBelow n (argument.In t) = PartBelow n t
ArgumentBelow n argument.Star = Unit {0}

abbrev pub PartsBelow : ℕ → Ty → Type 0
PartsBelow n (node.Class c xs) = All (ArgumentBelow n) xs
PartsBelow n (node.Param x) = Unit {0}
PartsBelow n (node.Fun ps r) = All (PartBelow n) ps × PartBelow n r
PartsBelow n node.Nothing = Unit {0}
PartsBelow n (node.Nullable t) = PartBelow n t

abbrev pub level_is_nullable : Level → Bool
level_is_nullable (TypeTree-F.Nullable t) = true
level_is_nullable (TypeTree-F.Class c xs) = false
level_is_nullable (TypeTree-F.Param x) = false
level_is_nullable (TypeTree-F.Fun ps r) = false
level_is_nullable TypeTree-F.Nothing = false

abbrev pub is_nullable : TypeTree → Bool
is_nullable t = level_is_nullable (out-TypeTree t)

-- a nullable type is of a type that is not
abbrev pub OneMark : List TypeTree → Ty → Type 0
OneMark ts (node.Nullable t) = is_nullable (tree_at ts t) ≡ false
OneMark ts (node.Class c xs) = Unit {0}
OneMark ts (node.Param x) = Unit {0}
OneMark ts (node.Fun ps r) = Unit {0}
OneMark ts node.Nothing = Unit {0}

-- the parts are of the list, and a nullable type is of a type that is not
pub record IsNode (ts : List TypeTree) (ty : Ty) : Type 0 where
  pub parts : PartsBelow (length ts) ty
  pub one_mark : OneMark ts ty

-- no type stands at two places
abbrev pub AllDifferent : List TypeTree → Type 0
AllDifferent ts = (i j : ℕ) → i < length ts → slice_get ts i ≡ slice_get ts j → i ≡ j

-- the list has the type already and stays, or gains it at its end
abbrev pub AddsOnce : List TypeTree → List TypeTree → TypeTree → Type 0
AddsOnce old new t = (Contains old t × (new ≡ old)) ⊎ (¬ (Contains old t) × (new ≡ old ++ t ∷ []))

-- each number of the old list has its type in the new one
abbrev pub Extends : List TypeTree → List TypeTree → Type 0
Extends old new = (more : List TypeTree) × (new ≡ old ++ more)

-- what stands for a type parameter, by the numbers of types
abbrev pub value_in : List TypeTree → List VarId → List TypeId → VarId → TypeTree
value_in ts params args x = value_of params (map (tree_at ts) args) x

-- the number at the first place of the parameter in the list
abbrev pub argument_for : List VarId → List TypeId → VarId → Option TypeId
argument_for [] args x = None
argument_for (p ∷ ps) [] x = None
argument_for (p ∷ ps) (a ∷ args) x = cond (nat_eq p.0 x.0) (Some a) (argument_for ps args x)

-- the number is that of this type
pub record Names (ts : List TypeTree) (t : TypeTree) (id : TypeId) : Type 0 where
  pub within : PartBelow (length ts) id
  pub is : tree_at ts id ≡ t

pub record NamesArgument (ts : List TypeTree) (a : ArgTree) (argument : TyArg) : Type 0 where
  pub within : ArgumentBelow (length ts) argument
  pub is : argument_at ts argument ≡ a

pub record NamesAll (ts : List TypeTree) (us : List TypeTree) (ids : List TypeId) : Type 0 where
  pub within : All (PartBelow (length ts)) ids
  pub are : map (tree_at ts) ids ≡ us

pub record NamesArguments (ts : List TypeTree) (us : List ArgTree) (arguments : List TyArg) : Type 0 where
  pub within : All (ArgumentBelow (length ts)) arguments
  pub are : map (argument_at ts) arguments ≡ us

-- the trees that a table keeps
abbrev pub tree_in : Ty × Known → TypeTree
tree_in e = e.1.tree

abbrev pub trees_of : List (Ty × Known) → List TypeTree
trees_of es = map tree_in es

-- what is kept with a type is its tree and its depth; its parts stand before it
pub record Stands (ts : List TypeTree) (i : ℕ) (e : Ty × Known) : Type 0 where
  pub parts : PartsBelow i e.0
  pub one_mark : OneMark ts e.0
  pub tree : e.1.tree ≡ tree_of ts e.0
  pub depth : e.1.depth ≡ depth_of e.1.tree
  pub shallow : e.1.depth ≤ 16

pub record IsTable (es : List (Ty × Known)) : Type 0 where
  pub different : AllDifferent (trees_of es)
  pub stand : (i : ℕ) (e : Ty × Known) → slice_get es i ≡ Some e → Stands (trees_of es) i e

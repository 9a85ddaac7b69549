-- Ranks of classes, by which no class leads back to itself, as tests.
use Rattle.std.specs.Prelude.{ℕ, ◌+◌, Bool, true, false, nat_lt, nat_le, ◌&&◌, List, [], ◌∷◌, length, Option, Some, None, slice_get}
use Rattle.std.specs.List.{list_all}
use Rattle.kc_types.specs.declared.trees.TypeTree.{TypeTree, out-TypeTree}
use Rattle.kc_types.specs.declared.trees.ArgTree.TheOpen.{TypeTree-F}
use Rattle.kc_types.specs.declared.heads.Head.{Head}
use Rattle.kc_types.specs.Trees.{Level}
use Rattle.kc_types.specs.TypeOf.{function_class}

-- the class that a type is of
abbrev pub class_of_level : Level → Option ℕ
class_of_level (TypeTree-F.Class c xs) = Some c.0
class_of_level (TypeTree-F.Fun ps r) = Some (function_class (length ps))
class_of_level (TypeTree-F.Param x) = None
class_of_level TypeTree-F.Nothing = None
class_of_level (TypeTree-F.Nullable t) = None

abbrev pub class_of : TypeTree → Option ℕ
class_of t = class_of_level (out-TypeTree t)

abbrev pub rank_in : Option ℕ → ℕ
rank_in (Some rank) = rank
rank_in None = 0

abbrev pub rank_of : List ℕ → ℕ → ℕ
rank_of ranks class = rank_in (slice_get ranks class)

abbrev pub is_lower : List ℕ → ℕ → Option ℕ → Bool
is_lower ranks rank (Some class) = nat_lt (rank_of ranks class) rank
is_lower ranks rank None = false

abbrev pub are_lower : List ℕ → ℕ → List TypeTree → Bool
are_lower ranks rank supers = list_all (λ t. is_lower ranks rank (class_of t)) supers

-- classes that are numbered from a number on rank above those of their direct supertypes
abbrev pub are_lower_from : List ℕ → ℕ → List Head → Bool
are_lower_from ranks n [] = true
are_lower_from ranks n (c ∷ cs) = are_lower ranks (rank_of ranks n) c.supers && are_lower_from ranks (n + 1) cs

-- no class ranks higher than there are classes
abbrev pub are_ranked : List Head → List ℕ → Bool
are_ranked classes ranks = are_lower_from ranks 0 classes && list_all (λ rank. nat_le rank (length classes)) ranks

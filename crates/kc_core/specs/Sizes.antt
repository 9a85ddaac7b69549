-- How large a tree is: how many nodes it has, and how many UTF-16 units its texts have together.
use Rattle.std.specs.Prelude.{ℕ, ◌+◌, List, [], ◌∷◌, length, Some, None}
use Rattle.kc_core.specs.declared.tree.Core.{Core}
use Rattle.kc_core.specs.declared.tree.Kind.TheFolds.{fold-Core}
use Rattle.kc_core.specs.declared.tree.Kind.TheOpen.{Kind-F, Core-F}

abbrev pub total : List ℕ → ℕ
total [] = 0
total (n ∷ ns) = n + total ns

-- one of each kind, with the nodes of its children
abbrev pub kind_nodes : Kind-F ℕ ℕ → ℕ
kind_nodes (Kind-F.IntLit n) = 1
kind_nodes (Kind-F.StrLit t) = 1
kind_nodes (Kind-F.BoolLit b) = 1
kind_nodes (Kind-F.LocalRead x) = 1
kind_nodes (Kind-F.LocalWrite x e) = 1 + e
kind_nodes (Kind-F.Declare x None) = 1
kind_nodes (Kind-F.Declare x (Some e)) = 1 + e
kind_nodes (Kind-F.NumBinary o a b) = 1 + a + b
kind_nodes (Kind-F.NumUnary o a) = 1 + a
kind_nodes (Kind-F.NumCompare o a b) = 1 + a + b
kind_nodes (Kind-F.Equal a b) = 1 + a + b
kind_nodes (Kind-F.Not a) = 1 + a
kind_nodes (Kind-F.And a b) = 1 + a + b
kind_nodes (Kind-F.Or a b) = 1 + a + b
kind_nodes (Kind-F.Concat parts) = 1 + total parts
kind_nodes (Kind-F.CallNative f values) = 1 + total values
kind_nodes (Kind-F.Block parts) = 1 + total parts
kind_nodes (Kind-F.If c a None) = 1 + c + a
kind_nodes (Kind-F.If c a (Some b)) = 1 + c + a + b
kind_nodes (Kind-F.While label c a) = 1 + c + a

-- the units of a text, and else those of the children
abbrev pub kind_units : Kind-F ℕ ℕ → ℕ
kind_units (Kind-F.IntLit n) = 0
kind_units (Kind-F.StrLit t) = length t
kind_units (Kind-F.BoolLit b) = 0
kind_units (Kind-F.LocalRead x) = 0
kind_units (Kind-F.LocalWrite x e) = e
kind_units (Kind-F.Declare x None) = 0
kind_units (Kind-F.Declare x (Some e)) = e
kind_units (Kind-F.NumBinary o a b) = a + b
kind_units (Kind-F.NumUnary o a) = a
kind_units (Kind-F.NumCompare o a b) = a + b
kind_units (Kind-F.Equal a b) = a + b
kind_units (Kind-F.Not a) = a
kind_units (Kind-F.And a b) = a + b
kind_units (Kind-F.Or a b) = a + b
kind_units (Kind-F.Concat parts) = total parts
kind_units (Kind-F.CallNative f values) = total values
kind_units (Kind-F.Block parts) = total parts
kind_units (Kind-F.If c a None) = c + a
kind_units (Kind-F.If c a (Some b)) = c + a + b
kind_units (Kind-F.While label c a) = c + a

-- a node counts what its kind does
abbrev pub of_kind : Core-F ℕ ℕ → ℕ
of_kind c = c.kind

abbrev pub nodes_of : Core → ℕ
nodes_of e = fold-Core ℕ ℕ kind_nodes of_kind e

abbrev pub text_units_of : Core → ℕ
text_units_of e = fold-Core ℕ ℕ kind_units of_kind e

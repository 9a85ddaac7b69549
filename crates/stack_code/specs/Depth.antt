-- How many values stand on the operand stack at once, at most, while a node is evaluated
-- (Java Virtual Machine Specification SE 8, 2.6.2 and 4.7.3).
use Rattle.std.specs.Prelude.{ℕ, ◌+◌, List, [], ◌∷◌, Some, None, max}
use Rattle.kc_core.specs.declared.tree.Core.{Core}
use Rattle.kc_core.specs.declared.tree.Kind.TheFolds.{fold-Core}
use Rattle.kc_core.specs.declared.tree.Kind.TheOpen.{Kind-F, Core-F}

-- the most of some, and at least 1
abbrev pub most : List ℕ → ℕ
most [] = 1
most (n ∷ ns) = max n (most ns)

-- the most of some, each above the values of those before it
abbrev pub piled : List ℕ → ℕ
piled [] = 0
piled (n ∷ ns) = max n (1 + piled ns)

-- a kind's operands, from those of the children: at least 1, so that a value of any type has room
abbrev pub kind_depth : Kind-F ℕ ℕ → ℕ
kind_depth (Kind-F.IntLit n) = 1
kind_depth (Kind-F.StrLit t) = 1
kind_depth (Kind-F.BoolLit b) = 1
kind_depth (Kind-F.LocalRead x) = 1
kind_depth (Kind-F.LocalWrite x e) = e
kind_depth (Kind-F.Declare x None) = 1
kind_depth (Kind-F.Declare x (Some e)) = e
kind_depth (Kind-F.NumBinary o a b) = max a (b + 1)
kind_depth (Kind-F.NumUnary o a) = a
kind_depth (Kind-F.NumCompare o a b) = max a (b + 1)
kind_depth (Kind-F.Equal a b) = max a (b + 1)
kind_depth (Kind-F.Not a) = a
kind_depth (Kind-F.And a b) = max a b
kind_depth (Kind-F.Or a b) = max a b
kind_depth (Kind-F.Concat parts) = most parts + 1
kind_depth (Kind-F.CallNative f args) = max (piled args) 1
kind_depth (Kind-F.Block parts) = most parts
kind_depth (Kind-F.If c a None) = max c a
kind_depth (Kind-F.If c a (Some b)) = max c (max a b)
kind_depth (Kind-F.While label c a) = max c a

abbrev pub core_depth : Core-F ℕ ℕ → ℕ
core_depth c = c.kind

abbrev pub depth_of : Core → ℕ
depth_of e = fold-Core ℕ ℕ kind_depth core_depth e

-- A count over elaborated trees, and what it may be for the tokens that a tree is written with: a relation for each sort of part,
-- which each kind of node keeps.
use Rattle.std.proofs.Common.{◌≡◌, ℕ, ℤ, ◌+◌, Bool, List, [], ◌∷◌, Some, None, ap, ◌∙◌}
use Rattle.kc_core.specs.declared.tree.TypeTree.{TypeTree}
use Rattle.kc_core.specs.declared.tree.BinaryOp.{BinaryOp}
use Rattle.kc_core.specs.declared.tree.UnaryOp.TheVariants as unary
use Rattle.kc_core.specs.declared.tree.Order.{Order}
use Rattle.kc_core.specs.declared.tree.Native.TheVariants as native_is
use Rattle.kc_core.specs.declared.tree.Core.{Core}
use Rattle.kc_core.specs.declared.tree.Kind.{Kind, out-Kind}
use Rattle.kc_core.specs.declared.tree.Kind.TheOpen.{Kind-F}
use Rattle.kc_core.specs.declared.tree.Kind.TheFolds.{fold-Core, fold-Kind, map-Kind, fold_out-Core, fold_out-Kind}
use Rattle.kc_core.specs.Sizes.{of_kind}
use Rattle.form_parser.specs.declared.tokens.Place.{Place}
use Rattle.form_elaboration.specs.Nodes.{node}

abbrev pub Count : Type 0
Count = Kind-F ℕ ℕ → ℕ

abbrev pub counted : Count → Core → ℕ
counted m e = fold-Core ℕ ℕ m of_kind e

abbrev pub kind_counted : Count → Kind → ℕ
kind_counted m k = fold-Kind ℕ ℕ m of_kind k

pub counted_node : (m : Count) (file : ℕ) (p : Place) (ty : TypeTree) (k : Kind) (y : Kind-F Kind Core) → out-Kind k ≡ y
    → counted m (node file p ty k) ≡ m (map-Kind Kind Core ℕ ℕ (kind_counted m) (counted m) y)
counted_node m file p ty k y e =
    fold_out-Core ℕ ℕ m of_kind (node file p ty k) ∙ fold_out-Kind ℕ ℕ m of_kind k ∙ ap (λ z. m (map-Kind Kind Core ℕ ℕ (kind_counted m) (counted m) z)) e

-- E relates the count of an expression to its tokens
pub record ExpressionsPay (m : Count) (E : ℕ → ℕ → Type 0) : Type 0 where
  pub number : (n : ℤ) → E (m (Kind-F.IntLit n)) 1
  pub truth : (b : Bool) → E (m (Kind-F.BoolLit b)) 1
  pub name : (x : ℕ) → E (m (Kind-F.LocalRead x)) 1
  pub negation : (a s : ℕ) → E a s → E (m (Kind-F.NumUnary unary.Minus a)) (1 + s)
  pub opposite : (a s : ℕ) → E a s → E (m (Kind-F.Not a)) (1 + s)
  pub binary : (op : BinaryOp) (a b s t : ℕ) → E a s → E b t → E (m (Kind-F.NumBinary op a b)) (1 + s + t)
  pub compare : (order : Order) (a b s t : ℕ) → E a s → E b t → E (m (Kind-F.NumCompare order a b)) (1 + s + t)
  pub equal : (a b s t : ℕ) → E a s → E b t → E (m (Kind-F.Equal a b)) (1 + s + t)
  pub unequal : (a b s t : ℕ) → E a s → E b t → E (m (Kind-F.Not (m (Kind-F.Equal a b)))) (1 + s + t)
  pub both : (a b s t : ℕ) → E a s → E b t → E (m (Kind-F.And a b)) (1 + s + t)
  pub either : (a b s t : ℕ) → E a s → E b t → E (m (Kind-F.Or a b)) (1 + s + t)

-- S does so for a statement, B for a body, and P for statements in order
pub record StatementsPay (m : Count) (E S B : ℕ → ℕ → Type 0) (P : List ℕ → ℕ → Type 0) : Type 0 where
  pub declare : (x a s : ℕ) → E a s → S (m (Kind-F.Declare x (Some a))) (3 + s)
  pub assign : (x a s : ℕ) → E a s → S (m (Kind-F.LocalWrite x a)) (2 + s)
  pub print : (a s : ℕ) → E a s → S (m (Kind-F.CallNative native_is.ConsoleWrite (m (Kind-F.Concat (a ∷ m (Kind-F.StrLit (10 ∷ [])) ∷ [])) ∷ []))) (3 + s)
  pub held : (a b s t : ℕ) → E a s → B b t → S (m (Kind-F.If a b None)) (3 + s + t)
  pub either : (a b c s t u : ℕ) → E a s → B b t → B c u → S (m (Kind-F.If a b (Some c))) (4 + s + t + u)
  pub repeated : (x a b s t : ℕ) → E a s → B b t → S (m (Kind-F.While x a b)) (3 + s + t)
  pub none : P [] 0
  pub next : (a : ℕ) (ns : List ℕ) (s t : ℕ) → S a s → P ns t → P (a ∷ ns) (s + t)
  pub body : (ns : List ℕ) (t : ℕ) → P ns t → B (m (Kind-F.Block ns)) t

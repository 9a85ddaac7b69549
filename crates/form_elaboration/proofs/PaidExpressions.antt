-- What is counted in an elaborated expression is paid by its tokens.
use Rattle.std.proofs.Common.{◌≡◌, ℕ, ◌+◌, Bool, true, false, List, Option, Some, sym, ap, subst, ◌∙◌}
use Rattle.kc_core.specs.declared.tree.TypeTree.{TypeTree}
use Rattle.kc_core.specs.declared.tree.TypeTree.TheVariants as type_is
use Rattle.kc_core.specs.declared.tree.UnaryOp.TheVariants as unary
use Rattle.kc_core.specs.declared.tree.Core.{Core}
use Rattle.kc_core.specs.declared.tree.Kind.{Kind, out-Kind}
use Rattle.kc_core.specs.declared.tree.Kind.TheVariants as core
use Rattle.kc_core.specs.declared.tree.Kind.TheOpen.{Kind-F}
use Rattle.kc_core.specs.declared.tree.Kind.TheFolds.{map-Kind}
use Rattle.kc_core.specs.declared.tree.Kind.TheViews.{outs-IntLit, outs-BoolLit, outs-LocalRead, outs-NumBinary, outs-NumUnary, outs-NumCompare, outs-Equal, outs-Not, outs-And, outs-Or}
use Rattle.form_parser.specs.declared.tokens.Place.{Place}
use Rattle.form_parser.specs.declared.surface.Expression.{Expression}
use Rattle.form_parser.specs.declared.surface.ExpressionKind.{ExpressionKind}
use Rattle.form_parser.specs.declared.surface.ExpressionKind.TheOpen.{ExpressionKind-F}
use Rattle.form_parser.specs.declared.surface.ExpressionKind.TheFolds.{fold-ExpressionKind, fold-Expression, map-ExpressionKind, map-Expression, fold-roll-ExpressionKind, fold-roll-Expression, ind-ExpressionKind}
use Rattle.form_parser.specs.declared.surface.ExpressionKind.TheViews.{roll-ExpressionKind, roll-Expression}
use Rattle.form_parser.specs.Sizes.{kind_size, placed_size, expression_size}
use Rattle.form_parser.proofs.Sizes.{size_of_kind, size_by_kind}
use Rattle.form_elaboration.specs.declared.scope.Visible.{Visible}
use Rattle.form_elaboration.specs.Names.{found}
use Rattle.form_elaboration.specs.Nodes.{node, equality}
use Rattle.form_elaboration.specs.Expressions.{of_type, both, read, expression_layer, expression_of}
use Rattle.form_elaboration.proofs.Fits.{same_value, mapped, of_typed, both_typed}
use Rattle.form_elaboration.proofs.FormedExpressions.{Placed, at_place}
use Rattle.form_elaboration.proofs.Layers.{expression_twice}
use Rattle.form_elaboration.proofs.Counts.{Count, counted, kind_counted, counted_node, ExpressionsPay}

module _ (file : ℕ) (text : List ℕ) (visible : List Visible) (m : Count) (E : ℕ → ℕ → Type 0) (pays : ExpressionsPay m E) where
  -- what comes of it is paid by so many tokens
  abbrev pub Pays : Option Core → ℕ → Type 0
  Pays o n = (e : Core) → o ≡ Some e → E (counted m e) n

  made : (p : Place) (ty : TypeTree) (k : Kind) (y : Kind-F Kind Core) → out-Kind k ≡ y → (n : ℕ) → E (m (map-Kind Kind Core ℕ ℕ (kind_counted m) (counted m) y)) n → E (counted m (node file p ty k)) n
  made p ty k y out n e = subst (λ c. E c n) (sym (counted_node m file p ty k y out)) e

  equality_pays : (p : Place) (equal : Bool) (x y : Core) (s t : ℕ) → E (counted m x) s → E (counted m y) t → E (counted m (equality file p equal x y)) (1 + s + t)
  equality_pays p true x y s t d e = made p type_is.Boolean (core.Equal x y) (Kind-F.Equal x y) (outs-Equal x y) (1 + s + t) (pays.equal (counted m x) (counted m y) s t d e)
  equality_pays p false x y s t d e =
      let same = equality file p true x y in
      made p type_is.Boolean (core.Not same) (Kind-F.Not same) (outs-Not same) (1 + s + t)
      (subst (λ c. E (m (Kind-F.Not c)) (1 + s + t)) (sym (counted_node m file p type_is.Boolean (core.Equal x y) (Kind-F.Equal x y) (outs-Equal x y)))
      (pays.unequal (counted m x) (counted m y) s t d e))

  layer_pays : (A B : Type 0) (g : A → Placed) (f : B → Option Core) (r : A → ℕ) (s : B → ℕ) → ((x : B) → Pays (f x) (s x)) → (y : ExpressionKind-F A B) (p : Place)
      → Pays (expression_layer file text visible (map-ExpressionKind A B Placed (Option Core) g f y) p) (kind_size (map-ExpressionKind A B ℕ ℕ r s y))
  layer_pays A B g f r s each (ExpressionKind-F.Number n) p e h =
      subst (λ (c : Core). E (counted m c) 1) (same_value h) (made p type_is.Int (core.IntLit n) (Kind-F.IntLit n) (outs-IntLit n) 1 (pays.number n))
  layer_pays A B g f r s each (ExpressionKind-F.Truth b) p e h =
      subst (λ (c : Core). E (counted m c) 1) (same_value h) (made p type_is.Boolean (core.BoolLit b) (Kind-F.BoolLit b) (outs-BoolLit b) 1 (pays.truth b))
  layer_pays A B g f r s each (ExpressionKind-F.Name n) p e h =
      let k = mapped (read file p) (found text visible n) h in
      let x = k.value.local in
      subst (λ (c : Core). E (counted m c) 1) (sym k.is_it) (made p k.value.ty (core.LocalRead x) (Kind-F.LocalRead x) (outs-LocalRead x) 1 (pays.name x))
  layer_pays A B g f r s each (ExpressionKind-F.Negation x) p e h =
      let make : Core → Core = λ c. node file p type_is.Int (core.NumUnary unary.Minus c) in
      let k = mapped make (of_type type_is.Int (f x)) h in
      let v = k.value in
      let t = of_typed type_is.Int (f x) v k.was in
      subst (λ (c : Core). E (counted m c) (1 + s x)) (sym k.is_it)
      (made p type_is.Int (core.NumUnary unary.Minus v) (Kind-F.NumUnary unary.Minus v) (outs-NumUnary unary.Minus v) (1 + s x) (pays.negation (counted m v) (s x) (each x v t.was)))
  layer_pays A B g f r s each (ExpressionKind-F.Not x) p e h =
      let make : Core → Core = λ c. node file p type_is.Boolean (core.Not c) in
      let k = mapped make (of_type type_is.Boolean (f x)) h in
      let v = k.value in
      let t = of_typed type_is.Boolean (f x) v k.was in
      subst (λ (c : Core). E (counted m c) (1 + s x)) (sym k.is_it)
      (made p type_is.Boolean (core.Not v) (Kind-F.Not v) (outs-Not v) (1 + s x) (pays.opposite (counted m v) (s x) (each x v t.was)))
  layer_pays A B g f r s each (ExpressionKind-F.Binary op x y) p e h =
      let make : Core × Core → Core = λ s. node file p type_is.Int (core.NumBinary op s.0 s.1) in
      let k = mapped make (both type_is.Int (f x) (f y)) h in
      let a = k.value.0 in
      let b = k.value.1 in
      let t = both_typed type_is.Int (f x) (f y) k.value k.was in
      subst (λ (c : Core). E (counted m c) (1 + s x + s y)) (sym k.is_it)
      (made p type_is.Int (core.NumBinary op a b) (Kind-F.NumBinary op a b) (outs-NumBinary op a b) (1 + s x + s y)
      (pays.binary op (counted m a) (counted m b) (s x) (s y) (each x a t.left.was) (each y b t.right.was)))
  layer_pays A B g f r s each (ExpressionKind-F.Compare order x y) p e h =
      let make : Core × Core → Core = λ s. node file p type_is.Boolean (core.NumCompare order s.0 s.1) in
      let k = mapped make (both type_is.Int (f x) (f y)) h in
      let a = k.value.0 in
      let b = k.value.1 in
      let t = both_typed type_is.Int (f x) (f y) k.value k.was in
      subst (λ (c : Core). E (counted m c) (1 + s x + s y)) (sym k.is_it)
      (made p type_is.Boolean (core.NumCompare order a b) (Kind-F.NumCompare order a b) (outs-NumCompare order a b) (1 + s x + s y)
      (pays.compare order (counted m a) (counted m b) (s x) (s y) (each x a t.left.was) (each y b t.right.was)))
  layer_pays A B g f r s each (ExpressionKind-F.Equality equal x y) p e h =
      let make : Core × Core → Core = λ s. equality file p equal s.0 s.1 in
      let k = mapped make (both type_is.Int (f x) (f y)) h in
      let a = k.value.0 in
      let b = k.value.1 in
      let t = both_typed type_is.Int (f x) (f y) k.value k.was in
      subst (λ (c : Core). E (counted m c) (1 + s x + s y)) (sym k.is_it)
      (equality_pays p equal a b (s x) (s y) (each x a t.left.was) (each y b t.right.was))
  layer_pays A B g f r s each (ExpressionKind-F.And x y) p e h =
      let make : Core × Core → Core = λ s. node file p type_is.Boolean (core.And s.0 s.1) in
      let k = mapped make (both type_is.Boolean (f x) (f y)) h in
      let a = k.value.0 in
      let b = k.value.1 in
      let t = both_typed type_is.Boolean (f x) (f y) k.value k.was in
      subst (λ (c : Core). E (counted m c) (1 + s x + s y)) (sym k.is_it)
      (made p type_is.Boolean (core.And a b) (Kind-F.And a b) (outs-And a b) (1 + s x + s y)
      (pays.both (counted m a) (counted m b) (s x) (s y) (each x a t.left.was) (each y b t.right.was)))
  layer_pays A B g f r s each (ExpressionKind-F.Or x y) p e h =
      let make : Core × Core → Core = λ s. node file p type_is.Boolean (core.Or s.0 s.1) in
      let k = mapped make (both type_is.Boolean (f x) (f y)) h in
      let a = k.value.0 in
      let b = k.value.1 in
      let t = both_typed type_is.Boolean (f x) (f y) k.value k.was in
      subst (λ (c : Core). E (counted m c) (1 + s x + s y)) (sym k.is_it)
      (made p type_is.Boolean (core.Or a b) (Kind-F.Or a b) (outs-Or a b) (1 + s x + s y)
      (pays.either (counted m a) (counted m b) (s x) (s y) (each x a t.left.was) (each y b t.right.was)))

  abbrev kind_fold : ExpressionKind → Placed
  kind_fold k = fold-ExpressionKind Placed (Option Core) (expression_layer file text visible) at_place k

  abbrev fold_of : Expression → Option Core
  fold_of e = fold-Expression Placed (Option Core) (expression_layer file text visible) at_place e

  every_kind : (k : ExpressionKind) (p : Place) → Pays (kind_fold k p) (size_of_kind k)
  every_kind k = ind-ExpressionKind (λ k. (p : Place) → Pays (kind_fold k p) (size_of_kind k)) (λ e. Pays (fold_of e) (expression_size e))
      (λ x y is. subst (λ z. (p : Place) → Pays (kind_fold (roll-ExpressionKind z) p) (size_of_kind (roll-ExpressionKind z))) is
      (subst (λ (w : Placed). (p : Place) → Pays (w p) (size_of_kind (roll-ExpressionKind (map-ExpressionKind _ _ ExpressionKind Expression (λ a. a.0) (λ b. b.0) y))))
      (sym (fold-roll-ExpressionKind Placed (Option Core) (expression_layer file text visible) at_place (map-ExpressionKind _ _ ExpressionKind Expression (λ a. a.0) (λ b. b.0) y)
      ∙ ap (expression_layer file text visible) (expression_twice _ _ ExpressionKind Expression Placed (Option Core) (λ a. a.0) (λ b. b.0) kind_fold fold_of y)))
      (subst (λ (n : ℕ). (p : Place) → Pays (expression_layer file text visible (map-ExpressionKind _ _ Placed (Option Core) (λ a. kind_fold a.0) (λ b. fold_of b.0) y) p) n)
      (sym (fold-roll-ExpressionKind ℕ ℕ kind_size placed_size (map-ExpressionKind _ _ ExpressionKind Expression (λ a. a.0) (λ b. b.0) y)
      ∙ ap kind_size (expression_twice _ _ ExpressionKind Expression ℕ ℕ (λ a. a.0) (λ b. b.0) size_of_kind expression_size y)))
      (layer_pays _ _ (λ a. kind_fold a.0) (λ b. fold_of b.0) (λ a. size_of_kind a.0) (λ b. expression_size b.0) (λ b. b.1) y))))
      (λ x y is. subst (λ z. Pays (fold_of (roll-Expression z)) (expression_size (roll-Expression z))) is
      (subst (λ (o : Option Core). Pays o (expression_size (roll-Expression (map-Expression _ _ ExpressionKind Expression (λ a. a.0) (λ b. b.0) y))))
      (sym (fold-roll-Expression Placed (Option Core) (expression_layer file text visible) at_place (map-Expression _ _ ExpressionKind Expression (λ a. a.0) (λ b. b.0) y)))
      (subst (λ (n : ℕ). Pays (kind_fold y.kind.0 y.place) n)
      (sym (fold-roll-Expression ℕ ℕ kind_size placed_size (map-Expression _ _ ExpressionKind Expression (λ a. a.0) (λ b. b.0) y)))
      (y.kind.1 y.place))))
      k

  pub expression_pays : (value : Expression) → Pays (expression_of file text visible value) (expression_size value)
  expression_pays value = subst (λ (n : ℕ). Pays (expression_of file text visible value) n) (sym (size_by_kind value)) (every_kind value.kind value.place)

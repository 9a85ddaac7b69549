-- An elaborated expression is well formed where what is in scope is assigned.
use Rattle.std.proofs.Common.{◌≡◌, ℕ, Bool, true, false, List, Option, Some, refl, sym, ap, subst, ◌∙◌}
use Rattle.kc_core.specs.declared.tree.TypeTree.TheVariants as type_is
use Rattle.kc_core.specs.declared.tree.UnaryOp.TheVariants as unary
use Rattle.kc_core.specs.declared.tree.Core.{Core}
use Rattle.kc_core.specs.declared.tree.Kind.TheVariants as core
use Rattle.kc_core.specs.declared.tree.Kind.TheViews.{outs-IntLit, outs-BoolLit, outs-LocalRead, outs-NumBinary, outs-NumUnary, outs-NumCompare, outs-Equal, outs-Not, outs-And, outs-Or}
use Rattle.kc_core.specs.declared.tree.Local.{Local}
use Rattle.kc_core.specs.Formed.{Assigned, Formed}
use Rattle.kc_core.specs.Formed as formed
use Rattle.form_parser.specs.declared.tokens.Place.{Place}
use Rattle.form_parser.specs.declared.surface.Expression.{Expression}
use Rattle.form_parser.specs.declared.surface.ExpressionKind.{ExpressionKind}
use Rattle.form_parser.specs.declared.surface.ExpressionKind.TheOpen.{ExpressionKind-F, Expression-F}
use Rattle.form_parser.specs.declared.surface.ExpressionKind.TheFolds.{fold-ExpressionKind, fold-Expression, map-ExpressionKind, map-Expression, fold-roll-ExpressionKind, fold-roll-Expression, ind-ExpressionKind}
use Rattle.form_parser.specs.declared.surface.ExpressionKind.TheViews.{roll-ExpressionKind, roll-Expression}
use Rattle.form_elaboration.specs.declared.scope.Visible.{Visible}
use Rattle.form_elaboration.specs.Names.{same_spelling, found}
use Rattle.form_elaboration.specs.Nodes.{node, equality}
use Rattle.form_elaboration.specs.Expressions.{of_type, both, read, expression_layer, expression_of}
use Rattle.form_elaboration.proofs.Layers.{expression_twice}
use Rattle.form_elaboration.proofs.Fits.{same_value, mapped, of_typed, both_typed, among_same, local_of, Fits, found_fits}

-- an operand, by its place
abbrev pub Placed : Type 0
Placed = Place → Option Core

abbrev pub at_place : Expression-F Placed (Option Core) → Option Core
at_place e = e.kind e.place

module _ (file : ℕ) (text : List ℕ) (visible : List Visible) (locals : List Local) (a : Assigned) (fits : Fits locals a visible) where
  -- what comes of it is well formed, and assigns nothing
  abbrev pub Forms : Option Core → Type 0
  Forms o = (e : Core) → o ≡ Some e → Formed locals e a a

  equal_formed : (p : Place) (x y : Core) → x.ty ≡ type_is.Int → y.ty ≡ type_is.Int → Formed locals x a a → Formed locals y a a → Formed locals (equality file p true x y) a a
  equal_formed p x y s t f g = formed.Equal (equality file p true x y) x y a a a (outs-Equal x y) refl s t f g

  equality_formed : (p : Place) (equal : Bool) (x y : Core) → x.ty ≡ type_is.Int → y.ty ≡ type_is.Int → Formed locals x a a → Formed locals y a a → Formed locals (equality file p equal x y) a a
  equality_formed p true x y s t f g = equal_formed p x y s t f g
  equality_formed p false x y s t f g =
      formed.Not (equality file p false x y) (equality file p true x y) a a (outs-Not (equality file p true x y)) refl refl (equal_formed p x y s t f g)

  layer_formed : (A B : Type 0) (g : A → Placed) (f : B → Option Core) → ((x : B) → Forms (f x)) → (y : ExpressionKind-F A B) (p : Place)
      → Forms (expression_layer file text visible (map-ExpressionKind A B Placed (Option Core) g f y) p)
  layer_formed A B g f each (ExpressionKind-F.Number n) p e h =
      subst (λ (c : Core). Formed locals c a a) (same_value h) (formed.IntLit (node file p type_is.Int (core.IntLit n)) n a (outs-IntLit n) refl)
  layer_formed A B g f each (ExpressionKind-F.Truth b) p e h =
      subst (λ (c : Core). Formed locals c a a) (same_value h) (formed.BoolLit (node file p type_is.Boolean (core.BoolLit b)) b a (outs-BoolLit b) refl)
  layer_formed A B g f each (ExpressionKind-F.Name n) p e h =
      let m = mapped (read file p) (found text visible n) h in
      let v = m.value in
      let fit = found_fits locals a (λ (one : Visible). same_spelling text one.name n) visible v fits m.was in
      subst (λ (c : Core). Formed locals c a a) (sym m.is_it) (formed.LocalRead (read file p v) v.local (local_of v) a (outs-LocalRead v.local) fit.there refl fit.on)
  layer_formed A B g f each (ExpressionKind-F.Negation x) p e h =
      let make : Core → Core = λ c. node file p type_is.Int (core.NumUnary unary.Minus c) in
      let m = mapped make (of_type type_is.Int (f x)) h in
      let t = of_typed type_is.Int (f x) m.value m.was in
      subst (λ (c : Core). Formed locals c a a) (sym m.is_it) (formed.NumUnary (make m.value) unary.Minus m.value a a (outs-NumUnary unary.Minus m.value) refl t.typed (each x m.value t.was))
  layer_formed A B g f each (ExpressionKind-F.Not x) p e h =
      let make : Core → Core = λ c. node file p type_is.Boolean (core.Not c) in
      let m = mapped make (of_type type_is.Boolean (f x)) h in
      let t = of_typed type_is.Boolean (f x) m.value m.was in
      subst (λ (c : Core). Formed locals c a a) (sym m.is_it) (formed.Not (make m.value) m.value a a (outs-Not m.value) refl t.typed (each x m.value t.was))
  layer_formed A B g f each (ExpressionKind-F.Binary op x y) p e h =
      let make : Core × Core → Core = λ s. node file p type_is.Int (core.NumBinary op s.0 s.1) in
      let m = mapped make (both type_is.Int (f x) (f y)) h in
      let l = m.value.0 in
      let r = m.value.1 in
      let t = both_typed type_is.Int (f x) (f y) m.value m.was in
      subst (λ (c : Core). Formed locals c a a) (sym m.is_it)
      (formed.NumBinary (make m.value) op l r a a a (outs-NumBinary op l r) refl t.left.typed t.right.typed (each x l t.left.was) (each y r t.right.was))
  layer_formed A B g f each (ExpressionKind-F.Compare order x y) p e h =
      let make : Core × Core → Core = λ s. node file p type_is.Boolean (core.NumCompare order s.0 s.1) in
      let m = mapped make (both type_is.Int (f x) (f y)) h in
      let l = m.value.0 in
      let r = m.value.1 in
      let t = both_typed type_is.Int (f x) (f y) m.value m.was in
      subst (λ (c : Core). Formed locals c a a) (sym m.is_it)
      (formed.NumCompare (make m.value) order l r a a a (outs-NumCompare order l r) refl t.left.typed t.right.typed (each x l t.left.was) (each y r t.right.was))
  layer_formed A B g f each (ExpressionKind-F.Equality equal x y) p e h =
      let make : Core × Core → Core = λ s. equality file p equal s.0 s.1 in
      let m = mapped make (both type_is.Int (f x) (f y)) h in
      let t = both_typed type_is.Int (f x) (f y) m.value m.was in
      subst (λ (c : Core). Formed locals c a a) (sym m.is_it)
      (equality_formed p equal m.value.0 m.value.1 t.left.typed t.right.typed (each x m.value.0 t.left.was) (each y m.value.1 t.right.was))
  layer_formed A B g f each (ExpressionKind-F.And x y) p e h =
      let make : Core × Core → Core = λ s. node file p type_is.Boolean (core.And s.0 s.1) in
      let m = mapped make (both type_is.Boolean (f x) (f y)) h in
      let l = m.value.0 in
      let r = m.value.1 in
      let t = both_typed type_is.Boolean (f x) (f y) m.value m.was in
      subst (λ (c : Core). Formed locals c a a) (sym m.is_it)
      (formed.And (make m.value) l r a a a a (outs-And l r) refl t.left.typed t.right.typed (each x l t.left.was) (each y r t.right.was) (among_same a) (among_same a))
  layer_formed A B g f each (ExpressionKind-F.Or x y) p e h =
      let make : Core × Core → Core = λ s. node file p type_is.Boolean (core.Or s.0 s.1) in
      let m = mapped make (both type_is.Boolean (f x) (f y)) h in
      let l = m.value.0 in
      let r = m.value.1 in
      let t = both_typed type_is.Boolean (f x) (f y) m.value m.was in
      subst (λ (c : Core). Formed locals c a a) (sym m.is_it)
      (formed.Or (make m.value) l r a a a a (outs-Or l r) refl t.left.typed t.right.typed (each x l t.left.was) (each y r t.right.was) (among_same a) (among_same a))

  abbrev kind_fold : ExpressionKind → Placed
  kind_fold k = fold-ExpressionKind Placed (Option Core) (expression_layer file text visible) at_place k

  abbrev fold_of : Expression → Option Core
  fold_of e = fold-Expression Placed (Option Core) (expression_layer file text visible) at_place e

  every_kind : (k : ExpressionKind) (p : Place) → Forms (kind_fold k p)
  every_kind k = ind-ExpressionKind (λ k. (p : Place) → Forms (kind_fold k p)) (λ e. Forms (fold_of e))
      (λ x y is. subst (λ z. (p : Place) → Forms (kind_fold (roll-ExpressionKind z) p)) is
      (subst (λ (w : Placed). (p : Place) → Forms (w p))
      (sym (fold-roll-ExpressionKind Placed (Option Core) (expression_layer file text visible) at_place (map-ExpressionKind _ _ ExpressionKind Expression (λ a. a.0) (λ b. b.0) y) ∙ ap (expression_layer file text visible) (expression_twice _ _ ExpressionKind Expression Placed (Option Core) (λ a. a.0) (λ b. b.0) kind_fold fold_of y)))
      (layer_formed _ _ (λ a. kind_fold a.0) (λ b. fold_of b.0) (λ b. b.1) y)))
      (λ x y is. subst (λ z. Forms (fold_of (roll-Expression z))) is
      (subst Forms (sym (fold-roll-Expression Placed (Option Core) (expression_layer file text visible) at_place (map-Expression _ _ ExpressionKind Expression (λ a. a.0) (λ b. b.0) y))) (y.kind.1 y.place)))
      k

  pub expression_formed : (value : Expression) → Forms (expression_of file text visible value)
  expression_formed value = every_kind value.kind value.place

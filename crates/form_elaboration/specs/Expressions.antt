-- The elaborated tree of an expression. There is none where a name isn't in scope, or where an operand isn't of the type that its
-- operator takes.
use Rattle.std.specs.Prelude.{ℕ, List, Option, Some, None, if◌then◌else◌, option_and_then}
use Rattle.std.specs.Option.{option_map}
use Rattle.kc_core.specs.declared.tree.TypeTree.{TypeTree}
use Rattle.kc_core.specs.declared.tree.TypeTree.TheVariants as type_is
use Rattle.kc_core.specs.declared.tree.UnaryOp.TheVariants as unary
use Rattle.kc_core.specs.declared.tree.Core.{Core}
use Rattle.kc_core.specs.declared.tree.Kind.TheVariants as core
use Rattle.form_parser.specs.declared.tokens.Place.{Place}
use Rattle.form_parser.specs.declared.surface.Expression.{Expression}
use Rattle.form_parser.specs.declared.surface.ExpressionKind.{ExpressionKind, fold-ExpressionKind}
use Rattle.form_parser.specs.declared.surface.ExpressionKind.TheOpen.{ExpressionKind-F}
use Rattle.form_elaboration.specs.declared.scope.Visible.{Visible}
use Rattle.form_elaboration.specs.Names.{found}
use Rattle.form_elaboration.specs.Nodes.{node, same_type, equality}

-- a node of this type
abbrev pub of_type : TypeTree → Option Core → Option Core
of_type ty o = option_and_then (λ (e : Core). if same_type e.ty ty then Some e else None) o

-- two nodes of one type
abbrev pub both : TypeTree → Option Core → Option Core → Option (Core × Core)
both ty a b = option_and_then (λ (x : Core). option_map (λ (y : Core). (x, y)) (of_type ty b)) (of_type ty a)

-- the value of a local
abbrev pub read : ℕ → Place → Visible → Core
read file p v = node file p v.ty (core.LocalRead v.local)

-- an expression at a place, where its operands are elaborated
abbrev pub expression_layer : ℕ → List ℕ → List Visible → ExpressionKind-F (Place → Option Core) (Option Core) → Place → Option Core
expression_layer file text visible (ExpressionKind-F.Number n) p = Some (node file p type_is.Int (core.IntLit n))
expression_layer file text visible (ExpressionKind-F.Truth b) p = Some (node file p type_is.Boolean (core.BoolLit b))
expression_layer file text visible (ExpressionKind-F.Name n) p = option_map (read file p) (found text visible n)
expression_layer file text visible (ExpressionKind-F.Negation a) p = option_map (λ x. node file p type_is.Int (core.NumUnary unary.Minus x)) (of_type type_is.Int a)
expression_layer file text visible (ExpressionKind-F.Not a) p = option_map (λ x. node file p type_is.Boolean (core.Not x)) (of_type type_is.Boolean a)
expression_layer file text visible (ExpressionKind-F.Binary op a b) p = option_map (λ s. node file p type_is.Int (core.NumBinary op s.0 s.1)) (both type_is.Int a b)
expression_layer file text visible (ExpressionKind-F.Compare order a b) p = option_map (λ s. node file p type_is.Boolean (core.NumCompare order s.0 s.1)) (both type_is.Int a b)
expression_layer file text visible (ExpressionKind-F.Equality equal a b) p = option_map (λ s. equality file p equal s.0 s.1) (both type_is.Int a b)
expression_layer file text visible (ExpressionKind-F.And a b) p = option_map (λ s. node file p type_is.Boolean (core.And s.0 s.1)) (both type_is.Boolean a b)
expression_layer file text visible (ExpressionKind-F.Or a b) p = option_map (λ s. node file p type_is.Boolean (core.Or s.0 s.1)) (both type_is.Boolean a b)

abbrev pub value_of : ℕ → List ℕ → List Visible → ExpressionKind → Place → Option Core
value_of file text visible k p = fold-ExpressionKind (Place → Option Core) (Option Core) (expression_layer file text visible) (λ e. e.kind e.place) k p

abbrev pub expression_of : ℕ → List ℕ → List Visible → Expression → Option Core
expression_of file text visible e = value_of file text visible e.kind e.place

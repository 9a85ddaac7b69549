-- Nodes of properties, from their parts.
use Rattle.std.specs.Prelude.{Bool, ◌||◌, Option, Some, None}
use Rattle.kc_tree.specs.declared.decl.Prop.{Prop}
use Rattle.kc_tree.specs.declared.expr.Expr.{Expr}
use Rattle.kc_tree.specs.declared.types.Word.{Word}
use Rattle.kc_tree.specs.declared.types.«Type».{«Type»}
use Rattle.kt_lexer.specs.declared.token.Token.{Token}
use Rattle.kt_lexer.specs.declared.token.Operator.TheVariants as operator
use Rattle.kt_members.specs.declared.getters.AccessorPair.{AccessorPair}
use Rattle.kt_grammar.specs.Tokens.{is_op, is_get}

-- what may stand behind the type of a property in a class begins with it
abbrev pub begins_value : Token → Bool
begins_value t = is_op operator.Assign t || is_get t

abbrev pub bare : Bool → Word → Option «Type» → Prop
bare var n ty = record { is_var = var; name = n; ty = ty; value = None; getter = None; setter = None }

abbrev pub with_value : Bool → Word → Option «Type» → Expr → Prop
with_value var n ty x = record { is_var = var; name = n; ty = ty; value = Some x; getter = None; setter = None }

abbrev pub with_accessors : Bool → Word → Option «Type» → AccessorPair → Prop
with_accessors var n ty a = record { is_var = var; name = n; ty = ty; value = None; getter = a.getter; setter = a.setter }

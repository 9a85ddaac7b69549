-- Nodes of elaborated trees that have no names in them.
use Rattle.std.specs.Prelude.{ℕ, Bool, true, false, [], ◌∷◌}
use Rattle.kc_core.specs.declared.tree.Span.{Span}
use Rattle.kc_core.specs.declared.tree.TypeTree.{TypeTree}
use Rattle.kc_core.specs.declared.tree.TypeTree.TheVariants as type_is
use Rattle.kc_core.specs.declared.tree.Native.TheVariants as native_is
use Rattle.kc_core.specs.declared.tree.Core.{Core}
use Rattle.kc_core.specs.declared.tree.Kind.{Kind}
use Rattle.kc_core.specs.declared.tree.Kind.TheVariants as core
use Rattle.form_parser.specs.declared.tokens.Place.{Place}

abbrev pub span : ℕ → Place → Span
span file p = record { file = file; start = p.start; end = p.end }

abbrev pub node : ℕ → Place → TypeTree → Kind → Core
node file p ty k = record { span = span file p; ty = ty; kind = k }

abbrev pub same_type : TypeTree → TypeTree → Bool
same_type type_is.Int type_is.Int = true
same_type type_is.Boolean type_is.Boolean = true
same_type type_is.String type_is.String = true
same_type type_is.Unit type_is.Unit = true
same_type _ _ = false

-- whether two Ints are equal, or whether they are not
abbrev pub equality : ℕ → Place → Bool → Core → Core → Core
equality file p true a b = node file p type_is.Boolean (core.Equal a b)
equality file p false a b = node file p type_is.Boolean (core.Not (node file p type_is.Boolean (core.Equal a b)))

abbrev pub line_feed : ℕ → Place → Core
line_feed file p = node file p type_is.String (core.StrLit (10 ∷ []))

-- the value's text and a line feed
abbrev pub line : ℕ → Place → Core → Core
line file p value = node file p type_is.String (core.Concat (value ∷ line_feed file p ∷ []))

-- the line, written
abbrev pub printing : ℕ → Place → Core → Core
printing file p value = node file p type_is.Unit (core.CallNative native_is.ConsoleWrite (line file p value ∷ []))

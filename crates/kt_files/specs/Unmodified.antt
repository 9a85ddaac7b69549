-- What stands behind the modifiers of a declaration, and what is built of it.
use Rattle.std.specs.Prelude.{Bool, List, ◌++◌}
use Rattle.grammars.specs.Grammar.{Part, next, row, choose, Cst, left, right}
use Rattle.kc_tree.specs.declared.decl.DeclKind.{DeclKind}
use Rattle.kc_tree.specs.declared.decl.DeclKind.TheVariants as decl_kind
use Rattle.kc_tree.specs.declared.types.Mod.{Mod}
use Rattle.kt_files.specs.declared.modified.Modified.{Modified}
use Rattle.kt_lexer.specs.declared.token.Token.{Token}
use Rattle.kt_lexer.specs.declared.token.Keyword.TheVariants as keyword
use Rattle.kt_grammar.specs.DeclarationsBuilt as built
use Rattle.kt_grammar.specs.Rows as rows
use Rattle.kt_grammar.specs.Rows.{Row}
use Rattle.kt_grammar.specs.Tokens.{is_word}

abbrev pub class_kind : Cst Token → DeclKind
class_kind x = decl_kind.Class (built.class_of_node x)

abbrev pub interface_kind : Cst Token → DeclKind
interface_kind x = decl_kind.Class (built.interface_of x)

abbrev pub object_kind : Cst Token → DeclKind
object_kind x = decl_kind.Class (built.object_of x)

abbrev pub function_kind : Cst Token → DeclKind
function_kind x = decl_kind.Fun (built.function_of x)

abbrev pub property_kind : Cst Token → DeclKind
property_kind x = decl_kind.Prop (built.property_of x)

-- neither a class nor an interface
abbrev pub no_interface : Bool → Part Row Token
no_interface abstract = choose (next (is_word keyword.Object)) (row rows.object_) (rows.function_or_property abstract)

abbrev pub no_interface_of : Cst Token → DeclKind
no_interface_of (left x) = object_kind x
no_interface_of (right x) = built.function_or_property_of x
no_interface_of _ = decl_kind.Fun built.no_function

-- no class
abbrev pub no_class : Bool → Part Row Token
no_class abstract = choose (next (is_word keyword.Interface)) (row rows.interface_) (no_interface abstract)

abbrev pub no_class_of : Cst Token → DeclKind
no_class_of (left x) = interface_kind x
no_class_of (right x) = no_interface_of x
no_class_of _ = decl_kind.Fun built.no_function

-- all that stands behind the modifiers: whether `abstract` is one of them, and whether `enum` is
abbrev pub unmodified : Bool → Bool → Part Row Token
unmodified abstract enum = choose (next (is_word keyword.Class)) (row (rows.class_ enum)) (no_class abstract)

abbrev pub unmodified_of : Cst Token → DeclKind
unmodified_of (left x) = class_kind x
unmodified_of (right x) = no_class_of x
unmodified_of _ = decl_kind.Fun built.no_function

abbrev pub with_mods : List Mod → Cst Token → Modified
with_mods ms x = record { mods = ms; kind = unmodified_of x }

-- a declaration behind the modifiers that are read already
abbrev pub modified_behind : List Mod → Cst Token → Modified
modified_behind ms x = record { mods = ms ++ built.declaration_mods x; kind = built.declaration_kind x }

-- Parts of members, and what is built of them.
use Rattle.std.specs.Prelude.{Bool, false, ◌||◌, List, [], ◌++◌}
use Rattle.grammars.specs.Grammar.{Part, next, one, row, both, choose, Cst, node, pair, left, right}
use Rattle.kc_tree.specs.declared.decl.Member.{Member}
use Rattle.kc_tree.specs.declared.decl.MemberKind.{MemberKind}
use Rattle.kc_tree.specs.declared.decl.MemberKind.TheVariants as member_kind
use Rattle.kc_tree.specs.declared.types.Mod.{Mod}
use Rattle.kt_lexer.specs.declared.token.Token.{Token}
use Rattle.kt_lexer.specs.declared.token.Keyword.TheVariants as keyword
use Rattle.kt_members.specs.declared.modified.Modified.{Modified}
use Rattle.kt_grammar.specs.DeclarationsBuilt as built
use Rattle.kt_grammar.specs.Rows as rows
use Rattle.kt_grammar.specs.Rows.{Row, op}
use Rattle.kt_grammar.specs.Tokens.{is_modifier, is_init, is_word, is_local}
use Rattle.kt_lexer.specs.declared.token.Operator.TheVariants as operator

-- a function or a property, with its modifiers
abbrev pub begins_modified : Token → Bool
begins_modified t = is_modifier t || (is_word keyword.Fun t || is_local t)

-- an interface has no `init` block
abbrev pub begins_init : rows.Site → Token → Bool
begins_init rows.in_interface t = false
begins_init site t = is_init t

-- what stands behind the modifiers of a member
abbrev pub unmodified : Bool → rows.Site → Part Row Token
unmodified abstract site = choose (next (is_word keyword.Fun)) (row (rows.function abstract site)) (row (rows.property abstract site))

abbrev pub unmodified_of : Cst Token → MemberKind
unmodified_of (left x) = member_kind.Fun (built.function_of x)
unmodified_of (right x) = member_kind.Prop (built.property_of x)
unmodified_of _ = member_kind.Init []

abbrev pub function_kind : Cst Token → MemberKind
function_kind x = member_kind.Fun (built.function_of x)

abbrev pub property_kind : Cst Token → MemberKind
property_kind x = member_kind.Prop (built.property_of x)

abbrev pub with_mods : List Mod → Cst Token → Modified
with_mods ms x = record { mods = ms; kind = unmodified_of x }

-- a member behind the modifiers that are read already
abbrev pub modified_behind : List Mod → Cst Token → Modified
modified_behind ms x = record { mods = ms ++ built.modified_mods x; kind = built.modified_kind x }

abbrev pub init_block : Part Row Token
init_block = both (one is_init) (row rows.block)

abbrev pub init_of : Cst Token → Member
init_of x = built.member_of (node (left x))

-- members up to the brace that closes them
abbrev pub to_brace : rows.Site → Part Row Token
to_brace site = both (row (rows.members site)) (op operator.CloseBrace)

abbrev pub before_brace : Cst Token → List Member
before_brace (pair x brace) = built.members_of x
before_brace _ = []

-- the members in the body of a class
abbrev pub members_in : Cst Token → List Member
members_in (node (pair brace x)) = before_brace x
members_in _ = []

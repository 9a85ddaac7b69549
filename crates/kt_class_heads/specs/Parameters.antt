-- Parts of the parameters of constructors, and what is built of them.
use Rattle.std.specs.Prelude.{Bool, false, ◌||◌, [], Option, Some, None}
use Rattle.grammars.specs.Grammar.{Part, one, both, Cst, leaf, pair, left}
use Rattle.kt_class_heads.specs.declared.parameters.Keeping.{Keeping}
use Rattle.kt_class_heads.specs.declared.parameters.TypedName.{TypedName}
use Rattle.kt_class_heads.specs.declared.parameters.ParamParts.{ParamParts}
use Rattle.kt_functions.specs.Parameters as functions
use Rattle.kt_lexer.specs.declared.token.Token.{Token}
use Rattle.kt_lexer.specs.declared.token.TokenKind.{TokenKind}
use Rattle.kt_grammar.specs.Built.{is_val, is_var}
use Rattle.kt_grammar.specs.DeclarationsBuilt as built
use Rattle.kt_grammar.specs.Rows as rows
use Rattle.kt_grammar.specs.Rows.{Row, maybe}
use Rattle.kt_grammar.specs.Tokens.{is_local, begins_parameter}
use Rattle.kt_grammar.specs.TypesBuilt.{no_type, word_of}

-- `val` or `var` before the name of a parameter
abbrev pub kept : Part Row Token
kept = maybe is_local (one is_local)

abbrev pub no_word : Keeping
no_word = record { is_val = false; is_var = false }

abbrev pub by_kind : TokenKind → Keeping
by_kind k = record { is_val = is_val k; is_var = is_var k }

abbrev pub by_token : Option Token → Keeping
by_token (Some t) = by_kind t.kind
by_token None = no_word

abbrev pub kept_of : Cst Token → Keeping
kept_of (left (leaf w)) = by_kind w.kind
kept_of _ = no_word

-- a name with a type, and perhaps a default value
abbrev pub typed_of : Cst Token → TypedName
typed_of (pair (leaf t) (pair colon x)) = record { name = word_of t; ty = (functions.typed_value_of x).0; default = (functions.typed_value_of x).1 }
typed_of _ = record { name = built.no_word; ty = no_type; default = None }

abbrev pub parts : Part Row Token
parts = both rows.modifiers (both kept functions.typed)

abbrev pub parts_of : Cst Token → ParamParts
parts_of (pair ms (pair w x)) = record { mods = built.modifiers_of ms; keeping = kept_of w; typed = typed_of x }
parts_of x = record { mods = []; keeping = no_word; typed = typed_of x }

abbrev pub begins : Token → Bool
begins t = is_local t || begins_parameter t

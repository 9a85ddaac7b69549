-- Parts of the names of functions, and what is built of them.
use Rattle.std.specs.Prelude.{Bool, true, false, [], ◌∷◌, Option, Some, None}
use Rattle.grammars.specs.Grammar.{Part, one, row, both, Cst, leaf, pair, left}
use Rattle.kc_tree.specs.declared.types.Word.{Word}
use Rattle.kc_tree.specs.declared.types.«Type».{«Type»}
use Rattle.kc_tree.specs.declared.types.TypeKind.TheVariants as type_kind
use Rattle.kt_functions.specs.declared.receivers.FunName.{FunName}
use Rattle.kt_functions.specs.declared.sites.Site.{Site}
use Rattle.kt_functions.specs.declared.sites.Site.TheVariants as site
use Rattle.kt_lexer.specs.declared.token.Token.{Token}
use Rattle.kt_lexer.specs.declared.token.TokenKind.{TokenKind}
use Rattle.kt_lexer.specs.declared.token.TokenKind.TheVariants as kind
use Rattle.kt_lexer.specs.declared.token.Operator.TheVariants as operator
use Rattle.kt_grammar.specs.DeclarationsBuilt as built
use Rattle.kt_grammar.specs.Rows as rows
use Rattle.kt_grammar.specs.Rows.{Row, op, maybe, in_brackets, question_marks}
use Rattle.kt_grammar.specs.Tokens.{is_op, is_name, is_dot}
use Rattle.kt_grammar.specs.TypesBuilt.{between, last_of, no_type, nullables, type_arguments_of, type_of, word_of}

abbrev pub is_top_level : Site → Bool
is_top_level site.TopLevel = true
is_top_level site.InClass = false
is_top_level site.InInterface = false

-- a name with its receiver
abbrev pub name_of : Cst Token → FunName
name_of c = record { receiver = built.receiver_of c; name = built.function_name_of c }

abbrev pub no_name : FunName
no_name = record { receiver = None; name = built.no_word }

-- a name alone
abbrev pub only_name_of : Cst Token → FunName
only_name_of (leaf t) = record { receiver = None; name = word_of t }
only_name_of _ = no_name

-- ---- a receiver in brackets

abbrev pub bracketed : Part Row Token
bracketed = in_brackets (row rows.type_)

abbrev pub bracketed_of : Cst Token → «Type»
bracketed_of (pair o (pair x c)) = type_of x
bracketed_of _ = no_type

abbrev pub after_brackets : Part Row Token
after_brackets = both bracketed (both (op operator.Dot) (one is_name))

abbrev pub after_brackets_of : Cst Token → FunName
after_brackets_of (pair x (pair dot (leaf t))) = record { receiver = Some (bracketed_of x); name = word_of t }
after_brackets_of _ = no_name

-- ---- a receiver that is a name with perhaps type arguments and `?`, from the token at which it begins

abbrev pub type_arguments : Part Row Token
type_arguments = maybe (is_op operator.Less) (row rows.type_arguments)

abbrev pub type_with : Option Token → Word → Cst Token → «Type»
type_with t w (left x) = record { span = between t (last_of x); kind = type_kind.Named (w ∷ []) (type_arguments_of x) }
type_with t w _ = record { span = w.span; kind = type_kind.Named (w ∷ []) [] }

-- a dot and a name
abbrev pub dot_name : Part Row Token
dot_name = both (one is_dot) (one is_name)

abbrev pub dot_name_of : Option Token → «Type» → Cst Token → FunName
dot_name_of t x (pair (leaf d) (leaf n)) = record { receiver = Some (built.before_dot t x d.kind d.span); name = word_of n }
dot_name_of t x _ = no_name

abbrev pub behind_arguments : Part Row Token
behind_arguments = both question_marks dot_name

abbrev pub behind_arguments_of : Option Token → «Type» → Cst Token → FunName
behind_arguments_of t x (pair qs y) = dot_name_of t (nullables t x qs) y
behind_arguments_of t x _ = no_name

abbrev pub behind_name : Part Row Token
behind_name = both type_arguments behind_arguments

abbrev pub behind_name_of : Option Token → Word → Cst Token → FunName
behind_name_of t w (pair ts y) = behind_arguments_of t (type_with t w ts) y
behind_name_of t w _ = no_name

-- a name, or the receiver that begins with it
abbrev pub maybe_receiver : Part Row Token
maybe_receiver = maybe rows.behind_receiver behind_name

abbrev pub maybe_receiver_of : Option Token → Word → Cst Token → FunName
maybe_receiver_of t w (left x) = behind_name_of t w x
maybe_receiver_of t w _ = record { receiver = None; name = w }

abbrev pub from_name : Part Row Token
from_name = both (one is_name) maybe_receiver

abbrev pub from_name_of : Cst Token → FunName
from_name_of (pair (leaf t) x) = maybe_receiver_of (Some t) (word_of t) x
from_name_of _ = no_name

-- ---- `?.`

abbrev pub is_safe : TokenKind → Bool
is_safe (kind.Op operator.SafeDot) = true
is_safe _ = false

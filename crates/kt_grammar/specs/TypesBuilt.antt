-- The written type of a derivation.
use Rattle.std.specs.Prelude.{ℕ, List, [], ◌∷◌, Option, Some, None}
use Rattle.grammars.specs.Grammar.{Cst, none, leaf, node, pair, left, right}
use Rattle.kc_tree.specs.declared.fault.Span.{Span}
use Rattle.kc_tree.specs.declared.types.Word.{Word}
use Rattle.kc_tree.specs.declared.types.«Type».{«Type»}
use Rattle.kc_tree.specs.declared.types.TypeKind.TheVariants as type_kind
use Rattle.kc_tree.specs.declared.types.TypeArg.{TypeArg}
use Rattle.kc_tree.specs.declared.types.TypeArgKind.TheVariants as argument_kind
use Rattle.kt_lexer.specs.declared.token.Token.{Token}
use Rattle.kt_lexer.specs.declared.token.TokenKind.{TokenKind}
use Rattle.kt_lexer.specs.declared.token.TokenKind.TheVariants as kind

-- ---- places

abbrev pub or_else : Option Token → Option Token → Option Token
or_else None x = x
or_else (Some t) x = Some t

-- the first and the last token of a derivation
abbrev pub first_of : Cst Token → Option Token
first_of none = None
first_of (leaf t) = Some t
first_of (node x) = first_of x
first_of (pair x y) = or_else (first_of x) (first_of y)
first_of (left x) = first_of x
first_of (right x) = first_of x

abbrev pub last_of : Cst Token → Option Token
last_of none = None
last_of (leaf t) = Some t
last_of (node x) = last_of x
last_of (pair x y) = or_else (last_of y) (last_of x)
last_of (left x) = last_of x
last_of (right x) = last_of x

abbrev pub no_span : Span
no_span = record { file = 0; start = 0; end = 0 }

abbrev pub between : Option Token → Option Token → Span
between (Some t) (Some u) = record { file = t.span.file; start = t.span.start; end = u.span.end }
between _ _ = no_span

-- from the start of the first token to the end of the last
abbrev pub span_of : Cst Token → Span
span_of x = between (first_of x) (last_of x)

-- ---- names

abbrev pub number_of : TokenKind → ℕ
number_of (kind.Name n) = n
number_of (kind.Label n) = n
number_of (kind.LabelUse n) = n
number_of (kind.StringName n) = n
number_of _ = 0

abbrev pub word_of : Token → Word
word_of t = record { span = t.span; name = number_of t.kind }

abbrev pub words_behind : Cst Token → List Word
words_behind (pair (pair dot (leaf t)) more) = word_of t ∷ words_behind more
words_behind _ = []

abbrev pub words_of : Cst Token → List Word
words_of (node (pair (leaf t) more)) = word_of t ∷ words_behind more
words_of _ = []

-- ---- types

-- what no derivation has
abbrev pub no_type : «Type»
no_type = record { span = no_span; kind = type_kind.Named [] [] }

abbrev pub no_argument : TypeArg
no_argument = record { span = no_span; kind = argument_kind.Star }

-- a type from the token at which it begins, with one `?` behind it
abbrev pub nullable : Option Token → Token → «Type» → «Type»
nullable t q x = record { span = between t (Some q); kind = type_kind.Nullable x }

abbrev pub nullables : Option Token → «Type» → Cst Token → «Type»
nullables t x (pair (leaf q) more) = nullables t (nullable t q x) more
nullables t x _ = x

abbrev mutual
  pub type_of : Cst Token → «Type»
  type_of (node (pair x more)) = nullables (first_of x) (core_of x) more
  type_of _ = no_type

  -- a type without the `?` behind it
  pub core_of : Cst Token → «Type»
  core_of (left x) = in_brackets_of x
  core_of (right x) = named_of x
  core_of _ = no_type

  pub named_of : Cst Token → «Type»
  named_of (pair x (left y)) = record { span = between (first_of x) (last_of y); kind = type_kind.Named (words_of x) (type_arguments_of y) }
  named_of (pair x y) = record { span = span_of x; kind = type_kind.Named (words_of x) [] }
  named_of _ = no_type

  pub in_brackets_of : Cst Token → «Type»
  in_brackets_of (node (pair open_ (left x))) = record { span = between (first_of open_) (last_of x); kind = type_kind.Fun [] (result_of x) }
  in_brackets_of (node (pair open_ (right (pair x y)))) = behind_first_of (first_of open_) (type_of x) y
  in_brackets_of _ = no_type

  -- with the token that the brackets begin with and the first type in them: the types of parameters and a result, or the one type
  pub behind_first_of : Option Token → «Type» → Cst Token → «Type»
  behind_first_of t x (left (pair comma (pair more y))) = record { span = between t (last_of y); kind = type_kind.Fun (x ∷ types_of more) (result_of y) }
  behind_first_of t x (right (pair close (left (pair arrow y)))) = record { span = between t (last_of y); kind = type_kind.Fun (x ∷ []) (type_of y) }
  behind_first_of t x _ = x

  -- behind `)` and `->`
  pub result_of : Cst Token → «Type»
  result_of (pair close (pair arrow x)) = type_of x
  result_of _ = no_type

  pub types_of : Cst Token → List «Type»
  types_of (node (left (pair x (left (pair comma more))))) = type_of x ∷ types_of more
  types_of (node (left (pair x y))) = type_of x ∷ []
  types_of _ = []

  pub type_arguments_of : Cst Token → List TypeArg
  type_arguments_of (node (pair less (pair x (pair more greater)))) = type_argument_of x ∷ more_type_arguments_of more
  type_arguments_of _ = []

  pub more_type_arguments_of : Cst Token → List TypeArg
  more_type_arguments_of (node (left (pair comma (left (pair x more))))) = type_argument_of x ∷ more_type_arguments_of more
  more_type_arguments_of _ = []

  pub type_argument_of : Cst Token → TypeArg
  type_argument_of (node (left x)) = record { span = span_of x; kind = argument_kind.Star }
  type_argument_of (node (right (left (pair x y)))) = record { span = between (first_of x) (last_of y); kind = argument_kind.In (type_of y) }
  type_argument_of (node (right (right (left (pair x y))))) = record { span = between (first_of x) (last_of y); kind = argument_kind.Out (type_of y) }
  type_argument_of (node (right (right (right x)))) = record { span = span_of x; kind = argument_kind.Exact (type_of x) }
  type_argument_of _ = no_argument

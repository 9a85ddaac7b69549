-- Parts of declarations of local variables, and what is built of them.
use Rattle.std.specs.Prelude.{Bool, true, false, List, [], ◌∷◌, ◌++◌, Option, Some, None}
use Rattle.grammars.specs.Grammar.{Part, next, one, row, both, choose, Cst, leaf, pair, left, right}
use Rattle.kc_tree.specs.declared.fault.Span.{Span}
use Rattle.kc_tree.specs.declared.types.Word.{Word}
use Rattle.kc_tree.specs.declared.types.«Type».{«Type»}
use Rattle.kc_tree.specs.declared.expr.Expr.{Expr}
use Rattle.kc_tree.specs.declared.expr.LocalName.{LocalName}
use Rattle.kt_control.specs.declared.locals.Declared.{Declared}
use Rattle.kt_lexer.specs.declared.token.Token.{Token}
use Rattle.kt_lexer.specs.declared.token.Operator.TheVariants as operator
use Rattle.kt_grammar.specs.Built as built
use Rattle.kt_grammar.specs.Rows as rows
use Rattle.kt_grammar.specs.Rows.{Row, op, maybe, in_brackets}
use Rattle.kt_grammar.specs.Tokens.{is_op, is_name}
use Rattle.kt_grammar.specs.TypesBuilt.{no_span, word_of, type_of, span_of}

abbrev pub value_of : Cst Token → Expr
value_of (pair assign x) = built.expression_of x
value_of _ = built.no_expression

-- the names behind the first in brackets
abbrev pub more_names : Part Row Token
more_names = maybe (is_op operator.Comma) (both (op operator.Comma) (row rows.names))

abbrev pub named : Part Row Token
named = both (row rows.typed_name) more_names

abbrev pub named_of : Cst Token → List LocalName
named_of (pair x more) = built.typed_name_of x ++ built.names_behind more
named_of _ = []

abbrev pub listed : Part Row Token
listed = in_brackets named

abbrev pub listed_of : Cst Token → List LocalName
listed_of (pair o (pair x c)) = named_of x
listed_of _ = []

abbrev pub nothing_declared : Declared
nothing_declared = record { names = []; brackets = false; value = None; last = no_span }

-- names with their value
abbrev pub valued : List LocalName → Bool → Expr → Declared
valued ns b x = record { names = ns; brackets = b; value = Some x; last = x.span }

abbrev pub in_round : Part Row Token
in_round = both listed rows.value

abbrev pub in_round_of : Cst Token → Declared
in_round_of (pair x y) = valued (listed_of x) true (value_of y)
in_round_of _ = nothing_declared

abbrev pub only_one : Word → Option «Type» → List LocalName
only_one w ty = record { name = w; ty = ty } ∷ []

-- behind a name and its type, which stands at the last place unless there is a value
abbrev pub type_end : Part Row Token
type_end = maybe (is_op operator.Assign) rows.value

abbrev pub type_end_of : Word → «Type» → Span → Cst Token → Declared
type_end_of w ty s (left x) = valued (only_one w (Some ty)) false (value_of x)
type_end_of w ty s _ = record { names = only_one w (Some ty); brackets = false; value = None; last = s }

abbrev pub with_type : Part Row Token
with_type = both (op operator.Colon) (both (row rows.type_) type_end)

abbrev pub with_type_of : Word → Cst Token → Declared
with_type_of w (pair colon (pair x y)) = type_end_of w (type_of x) (span_of x) y
with_type_of w _ = nothing_declared

abbrev pub behind_name : Part Row Token
behind_name = choose (next (is_op operator.Colon)) with_type rows.value

abbrev pub behind_name_of : Word → Cst Token → Declared
behind_name_of w (left x) = with_type_of w x
behind_name_of w (right x) = valued (only_one w None) false (value_of x)
behind_name_of w _ = nothing_declared

abbrev pub one_name : Part Row Token
one_name = both (one is_name) behind_name

abbrev pub one_name_of : Cst Token → Declared
one_name_of (pair (leaf n) x) = behind_name_of (word_of n) x
one_name_of _ = nothing_declared

-- all that stands behind `val` or `var`
abbrev pub behind_word : Part Row Token
behind_word = choose (next (is_op operator.OpenRound)) in_round one_name

abbrev pub declared_of : Cst Token → Declared
declared_of (left x) = in_round_of x
declared_of (right x) = one_name_of x
declared_of _ = nothing_declared

-- whether the word is `var`
abbrev pub var_at : Option Token → Bool
var_at None = false
var_at (Some t) = built.is_var t.kind

-- Parts of loops, and what is built of them.
use Rattle.std.specs.Prelude.{true, false, List, [], ◌∷◌, Option, None}
use Rattle.grammars.specs.Grammar.{Part, next, one, row, both, choose, Cst, leaf, pair, left, right}
use Rattle.kc_tree.specs.declared.types.Word.{Word}
use Rattle.kc_tree.specs.declared.expr.Expr.{Expr}
use Rattle.kc_tree.specs.declared.expr.ExprKind.TheVariants as e
use Rattle.kc_tree.specs.declared.expr.LocalName.{LocalName}
use Rattle.kt_control.specs.declared.loops.Head.{Head}
use Rattle.kt_control.specs.declared.loops.Variables.{Variables}
use Rattle.kt_control.specs.Conditionals.{bracketed_of, body_of}
use Rattle.kt_lexer.specs.declared.token.Token.{Token}
use Rattle.kt_lexer.specs.declared.token.Keyword.TheVariants as keyword
use Rattle.kt_lexer.specs.declared.token.Operator.TheVariants as operator
use Rattle.kt_grammar.specs.Built as built
use Rattle.kt_grammar.specs.Rows as rows
use Rattle.kt_grammar.specs.Rows.{Row, word, in_brackets}
use Rattle.kt_grammar.specs.Tokens.{is_op, is_word, is_name}
use Rattle.kt_grammar.specs.TypesBuilt.{no_span, word_of, between, last_of}

-- ---- the variables of a `for`

abbrev pub bare_inside : Part Row Token
bare_inside = both (one is_name) (row rows.bare_names)

abbrev pub bare_of : Cst Token → List LocalName
bare_of (pair (leaf n) x) = record { name = word_of n; ty = None } ∷ built.bare_names_of x
bare_of _ = []

abbrev pub bare : Part Row Token
bare = in_brackets bare_inside

abbrev pub no_variables : Variables
no_variables = record { names = []; brackets = false }

abbrev pub in_round_of : Cst Token → Variables
in_round_of (pair o (pair x c)) = record { names = bare_of x; brackets = true }
in_round_of _ = no_variables

-- names in brackets, or one name with a type where one is written
abbrev pub variables : Part Row Token
variables = choose (next (is_op operator.OpenRound)) bare (row rows.typed_name)

abbrev pub variables_of : Cst Token → Variables
variables_of (left x) = in_round_of x
variables_of (right x) = record { names = built.typed_name_of x; brackets = false }
variables_of _ = no_variables

-- ---- what a `for` goes over

abbrev pub over : Part Row Token
over = both (word keyword.In) (row rows.expression)

abbrev pub over_of : Cst Token → Expr
over_of (pair word x) = built.expression_of x
over_of _ = built.no_expression

abbrev pub no_head : Head
no_head = record { names = []; brackets = false; token = no_span; range = built.no_expression }

abbrev pub head_with : Variables → Cst Token → Head
head_with v (pair (leaf i) x) = record { names = v.names; brackets = v.brackets; token = i.span; range = built.expression_of x }
head_with v _ = no_head

abbrev pub inside : Part Row Token
inside = both variables over

abbrev pub inside_of : Cst Token → Head
inside_of (pair x y) = head_with (variables_of x) y
inside_of _ = no_head

abbrev pub head : Part Row Token
head = in_brackets inside

abbrev pub head_of : Cst Token → Head
head_of (pair o (pair x c)) = inside_of x
head_of _ = no_head

-- ---- loops behind their labels, from the token at which the whole begins

abbrev pub for_ : Part Row Token
for_ = both (word keyword.For) (both head (row rows.statement))

abbrev pub for_of : Option Token → Option Word → Cst Token → Expr
for_of o l (pair w (pair x y)) = record { span = between o (last_of y); kind = e.For l (head_of x).names (head_of x).brackets (head_of x).token (head_of x).range (body_of y) }
for_of o l _ = built.no_expression

abbrev pub while_ : Part Row Token
while_ = both (word keyword.While) (both (in_brackets (row rows.expression)) (row rows.statement))

abbrev pub while_of : Option Token → Option Word → Cst Token → Expr
while_of o l (pair w (pair x y)) = record { span = between o (last_of y); kind = e.While l (bracketed_of x) (body_of y) }
while_of o l _ = built.no_expression

-- the condition behind the body
abbrev pub while_test : Part Row Token
while_test = both (word keyword.While) (in_brackets (row rows.expression))

abbrev pub while_test_of : Cst Token → Expr
while_test_of (pair w x) = bracketed_of x
while_test_of _ = built.no_expression

abbrev pub do_ : Part Row Token
do_ = both (word keyword.Do) (both (row rows.statement) while_test)

abbrev pub do_of : Option Token → Option Word → Cst Token → Expr
do_of o l (pair w (pair x y)) = record { span = between o (last_of y); kind = e.DoWhile l (body_of x) (while_test_of y) }
do_of o l _ = built.no_expression

abbrev pub turns : Part Row Token
turns = choose (next (is_word keyword.For)) for_ (choose (next (is_word keyword.While)) while_ do_)

abbrev pub turns_of : Option Token → Option Word → Cst Token → Expr
turns_of o l (left x) = for_of o l x
turns_of o l (right (left x)) = while_of o l x
turns_of o l (right (right x)) = do_of o l x
turns_of o l _ = built.no_expression

-- Parts of calls, and what is built of them.
use Rattle.std.specs.Prelude.{List, [], ◌++◌}
use Rattle.grammars.specs.Grammar.{Part, one, row, both, Cst, node, pair, left}
use Rattle.kc_tree.specs.declared.expr.Arg.{Arg}
use Rattle.kt_lexer.specs.declared.token.Token.{Token}
use Rattle.kt_lexer.specs.declared.token.Operator.TheVariants as operator
use Rattle.kt_grammar.specs.Built as built
use Rattle.kt_grammar.specs.Rows as rows
use Rattle.kt_grammar.specs.Rows.{Row, op, maybe}
use Rattle.kt_grammar.specs.Tokens.{is_op, is_label, unmarked, begins_trailing}

abbrev pub label_before : Part Row Token
label_before = maybe is_label (one is_label)

-- a lambda on the same line
abbrev pub on_line_of : Cst Token → List Arg
on_line_of (node x) = built.trailing_of x
on_line_of _ = []

abbrev pub maybe_on_line : Part Row Token
maybe_on_line = maybe (unmarked begins_trailing) rows.a_trailing

abbrev pub maybe_on_line_of : Cst Token → List Arg
maybe_on_line_of (left x) = on_line_of x
maybe_on_line_of _ = []

-- arguments in brackets
abbrev pub in_brackets : Part Row Token
in_brackets = both (one (unmarked (is_op operator.OpenRound))) (both (row rows.arguments) (op operator.CloseRound))

abbrev pub in_brackets_of : Cst Token → List Arg
in_brackets_of (pair o (pair x c)) = built.arguments_of x
in_brackets_of _ = []

abbrev pub with_brackets : Part Row Token
with_brackets = both in_brackets maybe_on_line

abbrev pub with_brackets_of : Cst Token → List Arg
with_brackets_of (pair x y) = in_brackets_of x ++ maybe_on_line_of y
with_brackets_of _ = []

-- What stands behind an operand: its parts, and what is built of them.
use Rattle.std.specs.Prelude.{List, [], ◌∷◌}
use Rattle.grammars.specs.Grammar.{Part, next, one, row, both, choose, many, guard, Cst, leaf, node, pair, left, right}
use Rattle.kc_tree.specs.declared.expr.Expr.{Expr}
use Rattle.kc_tree.specs.declared.expr.ExprKind.{ExprKind}
use Rattle.kc_tree.specs.declared.expr.ExprKind.TheVariants as e
use Rattle.kc_tree.specs.declared.expr.PostfixOp.TheVariants as postfix_op
use Rattle.kc_tree.specs.declared.types.TypeArg.{TypeArg}
use Rattle.kt_calls.specs.declared.nodes.Ending.{Ending}
use Rattle.kt_calls.specs.declared.nodes.EndingKind.{EndingKind}
use Rattle.kt_calls.specs.declared.nodes.EndingKind.TheVariants as ending
use Rattle.kt_lexer.specs.declared.token.Token.{Token}
use Rattle.kt_lexer.specs.declared.token.Operator.TheVariants as operator
use Rattle.kt_grammar.specs.Built as built
use Rattle.kt_grammar.specs.Lookahead.{suffix_follows}
use Rattle.kt_grammar.specs.Rows as rows
use Rattle.kt_grammar.specs.Rows.{Row, op, maybe}
use Rattle.kt_grammar.specs.Tokens.{is_op, is_name, is_dot, is_postfix, unmarked}
use Rattle.kt_grammar.specs.TypesBuilt.{no_span, span_of, word_of, first_of, between, type_arguments_of}

-- ---- the operand with what stands behind it

abbrev pub kind_of : Expr → EndingKind → ExprKind
kind_of x (ending.Operator o) = e.Postfix o x
kind_of x (ending.Member safe name) = e.Member x safe name
kind_of x (ending.Index token at) = e.Index x token at
kind_of x (ending.Call token types args) = e.Call x token types args

abbrev pub ended : Expr → Ending → Expr
ended x k = record { span = built.across x.span k.span; kind = kind_of x k.kind }

-- what no derivation has
abbrev pub no_ending : Ending
no_ending = record { span = no_span; kind = ending.Operator postfix_op.NotNull }

-- ---- parts

abbrev pub postfix_operator : Part Row Token
postfix_operator = one (unmarked is_postfix)

abbrev pub operator_of : Cst Token → Ending
operator_of (leaf t) = record { span = t.span; kind = ending.Operator (built.postfix_of_token t.kind) }
operator_of _ = no_ending

abbrev pub member : Part Row Token
member = both (one is_dot) (one is_name)

abbrev pub member_of : Cst Token → Ending
member_of (pair (leaf d) (leaf n)) = record { span = n.span; kind = ending.Member (built.is_safe d.kind) (word_of n) }
member_of _ = no_ending

abbrev pub more_indexes : Part Row Token
more_indexes = maybe (is_op operator.Comma) (both (op operator.Comma) (row rows.expressions))

abbrev pub indexes : Part Row Token
indexes = both (row rows.expression) (both more_indexes (op operator.CloseSquare))

abbrev pub indexes_of : Cst Token → List Expr
indexes_of (pair x (pair more c)) = built.expression_of x ∷ built.expressions_behind more
indexes_of _ = []

abbrev pub index : Part Row Token
index = both (one (unmarked (is_op operator.OpenSquare))) indexes

abbrev pub index_of : Cst Token → Ending
index_of (pair (leaf o) x) = record { span = span_of (pair (leaf o) x); kind = ending.Index o.span (indexes_of x) }
index_of _ = no_ending

-- a call with the type arguments that are written
abbrev pub called : List TypeArg → Cst Token → Ending
called ts x = record { span = span_of x; kind = ending.Call (between (first_of x) (first_of x)) ts (built.call_of x) }

abbrev pub typed_call : Part Row Token
typed_call = both (row rows.type_arguments) (row rows.call)

abbrev pub typed_call_of : Cst Token → Ending
typed_call_of (pair ts x) = called (type_arguments_of ts) x
typed_call_of _ = no_ending

abbrev pub typed_call_on_line : Part Row Token
typed_call_on_line = guard (next (unmarked (is_op operator.Less))) typed_call

abbrev pub any_call : Part Row Token
any_call = choose (next (unmarked (is_op operator.Less))) typed_call_on_line (row rows.call)

abbrev pub any_call_of : Cst Token → Ending
any_call_of (left (node x)) = typed_call_of x
any_call_of (right x) = called [] x
any_call_of _ = no_ending

abbrev pub index_or_call : Part Row Token
index_or_call = choose (next (unmarked (is_op operator.OpenSquare))) index any_call

abbrev pub index_or_call_of : Cst Token → Ending
index_or_call_of (left x) = index_of x
index_or_call_of (right x) = any_call_of x
index_or_call_of _ = no_ending

abbrev pub member_or_more : Part Row Token
member_or_more = choose (next is_dot) member index_or_call

abbrev pub member_or_more_of : Cst Token → Ending
member_or_more_of (left x) = member_of x
member_or_more_of (right x) = index_or_call_of x
member_or_more_of _ = no_ending

-- all of the row
abbrev pub suffix : Part Row Token
suffix = choose (next (unmarked is_postfix)) postfix_operator member_or_more

abbrev pub ending_of : Cst Token → Ending
ending_of (left x) = operator_of x
ending_of (right x) = member_or_more_of x
ending_of _ = no_ending

-- any number of them
abbrev pub suffixes : Part Row Token
suffixes = many suffix_follows (row rows.suffix)

-- Statements behind the tests of what they may be, and what is built of them.
use Rattle.grammars.specs.Grammar.{Part, next, one, row, both, choose, guard, Cst, leaf, node, pair, left, right}
use Rattle.kc_tree.specs.declared.expr.Expr.{Expr}
use Rattle.kc_tree.specs.declared.expr.ExprKind.TheVariants as e
use Rattle.kt_lexer.specs.declared.token.Token.{Token}
use Rattle.kt_grammar.specs.Built as built
use Rattle.kt_grammar.specs.Rows as rows
use Rattle.kt_grammar.specs.Rows.{Row}
use Rattle.kt_grammar.specs.Tokens.{is_loop, is_prefix, is_assignment, unmarked}

-- what may follow a postfix expression that begins a statement: an assignment, or operators
abbrev pub placed : Part Row Token
placed = choose (next (unmarked is_assignment)) (both (one (unmarked is_assignment)) (row rows.expression)) rows.operator_turns

abbrev pub no_prefix : Part Row Token
no_prefix = both (row rows.postfix) placed

abbrev pub no_loop : Part Row Token
no_loop = choose (next is_prefix) (guard (next is_prefix) (row rows.expression)) no_prefix

abbrev pub no_local : Part Row Token
no_local = choose (next is_loop) (row rows.loop) no_loop

-- ---- what is built of them

abbrev pub assigned : Expr → Token → Expr → Expr
assigned x t y = record { span = built.across x.span y.span; kind = e.Assign (built.assign_of_token t.kind) t.span x y }

abbrev pub placed_of : Expr → Cst Token → Expr
placed_of x (left (pair (leaf t) y)) = assigned x t (built.expression_of y)
placed_of x (right y) = built.operator_turns_of x y
placed_of x _ = built.no_expression

abbrev pub no_local_of : Cst Token → Expr
no_local_of c = built.statement_of (node (right c))

abbrev pub no_loop_of : Cst Token → Expr
no_loop_of c = no_local_of (right c)

abbrev pub no_prefix_of : Cst Token → Expr
no_prefix_of c = no_loop_of (right c)

-- an expression that begins with a prefix operator
abbrev pub signed_of : Cst Token → Expr
signed_of c = no_loop_of (left c)

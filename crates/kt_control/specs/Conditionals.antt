-- Parts of conditionals, and what is built of them.
use Rattle.std.specs.Prelude.{◌≡◌, ℕ, ◌+◌, ◌≤◌, Bool, List, length, drop, Option, Some, None}
use Rattle.grammars.specs.Automata.{accepts, goes}
use Rattle.grammars.specs.Grammar.{Part, nothing, row, both, choose, Cst, pair, left, Begun}
use Rattle.kc_tree.specs.declared.fault.Span.{Span}
use Rattle.kc_tree.specs.declared.expr.Expr.{Expr}
use Rattle.kt_control.specs.declared.conditionals.Arms.{Arms}
use Rattle.kt_lexer.specs.declared.token.Token.{Token}
use Rattle.kt_lexer.specs.declared.token.Keyword.TheVariants as keyword
use Rattle.kt_lexer.specs.declared.token.Operator.TheVariants as operator
use Rattle.kt_grammar.specs.declared.cursor.Cursor.{Cursor}
use Rattle.kt_grammar.specs.Built as built
use Rattle.kt_grammar.specs.Lookahead as tests
use Rattle.kt_grammar.specs.Parsed.{Read}
use Rattle.kt_grammar.specs.Rows as rows
use Rattle.kt_grammar.specs.Rows.{Row, grammar, op, word, maybe}
use Rattle.kt_grammar.specs.Tokens.{is_op}

abbrev pub bracketed_of : Cst Token → Expr
bracketed_of (pair o (pair x c)) = built.expression_of x
bracketed_of _ = built.no_expression

-- a statement that stands as a body
abbrev pub body_of : Cst Token → Expr
body_of x = built.as_body (built.statement_of x)

-- a `;`, or nothing
abbrev pub semicolon : Part Row Token
semicolon = maybe (is_op operator.Semicolon) (op operator.Semicolon)

-- `else` and its body
abbrev pub else_word : Part Row Token
else_word = both (word keyword.Else) (row rows.statement)

abbrev pub else_part : Part Row Token
else_part = both semicolon else_word

abbrev pub else_of : Cst Token → Expr
else_of (pair semi (pair word x)) = body_of x
else_of _ = built.no_expression

abbrev pub maybe_else : Part Row Token
maybe_else = choose tests.else_follows else_part nothing

abbrev pub failed_of : Cst Token → Option Expr
failed_of (left x) = Some (else_of x)
failed_of _ = None

-- all that stands behind the condition
abbrev pub behind_test : Part Row Token
behind_test = both (row rows.statement) maybe_else

abbrev pub arms_of : Cst Token → Arms
arms_of (pair x y) = record { held = body_of x; failed = failed_of y }
arms_of _ = record { held = built.no_expression; failed = None }

-- of the last body
abbrev pub last_place : Expr → Option Expr → Span
last_place x None = x.span
last_place x (Some y) = y.span

-- a part, from one place to another, with no test that looked on
pub record Passed (a : Part Row Token) (ts : List Token) (start end : Cursor) : Type 0 where
  pub tree : Cst Token
  pub read : Read a ts start.at end.at 0 tree
  pub so_far : end.looked ≡ start.looked

-- whether `else` with no `->` behind it stands at the place, and how far that is looked for
pub record ElseAt (ts : List Token) (at : ℕ) (holds : Bool) (end : ℕ) : Type 0 where
  pub is : holds ≡ accepts tests.else_step tests.else_at_end (drop at ts) tests.semicolon
  pub far : end ≡ at + goes tests.else_step tests.else_at_end (drop at ts) tests.semicolon
  pub within : end ≤ length ts
  pub begun : Begun grammar else_word (drop at ts) (drop end ts)

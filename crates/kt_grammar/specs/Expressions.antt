-- A function value that reads expressions, and what may stand before one that is an argument.
use Rattle.std.specs.Prelude.{◌≡◌, ℕ, ◌≤◌, List, length, Result}
use Rattle.std.specs.declared.alloc.Global.{Global}
use denote.Ref.{Bor}
use Rattle.grammars.specs.Grammar.{Part, nothing, one, row, both, choose}
use Rattle.kc_text.specs.declared.errors.Fail.{Fail}
use Rattle.kc_tree.specs.declared.expr.Expr.{Expr}
use Rattle.kt_lexer.specs.declared.token.Token.{Token}
use Rattle.kt_lexer.specs.declared.token.Operator.TheVariants as operator
use Rattle.kt_grammar.specs.declared.cursor.Cursor.{Cursor}
use Rattle.kt_grammar.specs.Built as built
use Rattle.kt_grammar.specs.Lookahead.{argument_name}
use Rattle.kt_grammar.specs.Parsed.{Advances}
use Rattle.kt_grammar.specs.Rows as rows
use Rattle.kt_grammar.specs.Rows.{Row, op, maybe}
use Rattle.kt_grammar.specs.Tokens.{is_op, is_name}

-- it reads one at each place from one on
pub record ReadsExpression (ts : List Token) (from : ℕ) (pre : Global → Bor (List Token) → Cursor → Type 0)
    (post : Global → Bor (List Token) → Cursor → Result (Expr × Cursor) (Fail ℕ) → Type 0) : Type 0 where
  pub callable : (alloc : Global) (s : Bor (List Token)) (at : Cursor) → s.now ≡ ts → from ≤ at.at → at.at ≤ length ts → pre alloc s at
  pub reads : (alloc : Global) (s : Bor (List Token)) (at : Cursor) (r : Result (Expr × Cursor) (Fail ℕ)) → s.now ≡ ts → from ≤ at.at → at.at ≤ length ts
      → post alloc s at r → Advances (row rows.expression) built.expression_of ts at r

-- `NAME =`
abbrev pub name_before : Part Row Token
name_before = choose argument_name (both (one is_name) (op operator.Assign)) nothing

abbrev pub star_before : Part Row Token
star_before = maybe (is_op operator.Times) (op operator.Times)

-- Function values that read expressions of a row.
use Rattle.std.specs.Prelude.{◌≡◌, ℕ, ◌≤◌, List, length, Result}
use Rattle.std.specs.declared.alloc.Global.{Global}
use denote.Ref.{Bor}
use Rattle.grammars.specs.Grammar.{Cst, row}
use Rattle.kc_text.specs.declared.errors.Fail.{Fail}
use Rattle.kc_tree.specs.declared.expr.Expr.{Expr}
use Rattle.kt_lexer.specs.declared.token.Token.{Token}
use Rattle.kt_grammar.specs.declared.cursor.Cursor.{Cursor}
use Rattle.kt_grammar.specs.Built as built
use Rattle.kt_grammar.specs.Parsed.{Advances}
use Rattle.kt_grammar.specs.Rows as rows
use Rattle.kt_grammar.specs.Rows.{Row}

-- it reads one of the row at each place from one on
pub record ReadsFrom (n : Row) (build : Cst Token → Expr) (ts : List Token) (from : ℕ) (pre : Cursor → Type 0) (post : Cursor → Result (Expr × Cursor) (Fail ℕ) → Type 0) : Type 0 where
  pub callable : (at : Cursor) → from ≤ at.at → at.at ≤ length ts → pre at
  pub reads : (at : Cursor) (r : Result (Expr × Cursor) (Fail ℕ)) → from ≤ at.at → at.at ≤ length ts → post at r → Advances (row n) build ts at r

-- the same of one that is handed the tokens
pub record ReadsPostfix (ts : List Token) (from : ℕ) (pre : Global → Bor (List Token) → Cursor → Type 0)
    (post : Global → Bor (List Token) → Cursor → Result (Expr × Cursor) (Fail ℕ) → Type 0) : Type 0 where
  pub callable : (alloc : Global) (s : Bor (List Token)) (at : Cursor) → s.now ≡ ts → from ≤ at.at → at.at ≤ length ts → pre alloc s at
  pub reads : (alloc : Global) (s : Bor (List Token)) (at : Cursor) (r : Result (Expr × Cursor) (Fail ℕ)) → s.now ≡ ts → from ≤ at.at → at.at ≤ length ts
      → post alloc s at r → Advances (row rows.postfix) built.postfix_of ts at r

-- What is read from a place on, where no test has looked before.
use Rattle.std.specs.Prelude.{◌≡◌, ℕ, List, Result, Ok, Err}
use Rattle.grammars.specs.Grammar.{row}
use Rattle.kc_text.specs.declared.errors.Fail.{Fail}
use Rattle.kc_tree.specs.declared.expr.Expr.{Expr}
use Rattle.kt_lexer.specs.declared.token.Token.{Token}
use Rattle.kt_grammar.specs.declared.cursor.Cursor.{Cursor}
use Rattle.kt_grammar.specs.Built as built
use Rattle.kt_grammar.specs.Parsed.{Advanced, Halts}
use Rattle.kt_grammar.specs.Rows as rows

abbrev pub begin : ℕ → Cursor
begin at = record { at = at; looked = 0 }

-- the one reading of an expression, up to a place
pub record Expressed (ts : List Token) (start end : ℕ) (x : Expr) : Type 0 where
  pub last : Cursor
  pub ends : end ≡ last.at
  pub advanced : Advanced (row rows.expression) built.expression_of ts (begin start) last x

abbrev pub Expresses : List Token → ℕ → Result (Expr × ℕ) (Fail ℕ) → Type 0
Expresses ts start (Ok p) = Expressed ts start p.1 p.0
Expresses ts start (Err e) = Halts (row rows.expression) ts (begin start) e

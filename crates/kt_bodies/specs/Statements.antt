-- A function value that reads statements, and how they follow one another.
use Rattle.std.specs.Prelude.{◌≡◌, ℕ, ◌≤◌, Bool, false, List, [], length, drop, Result}
use Rattle.std.specs.declared.alloc.Global.{Global}
use denote.Ref.{Bor}
use Rattle.grammars.specs.Grammar.{Part, row, both, Cst, pair, first, test}
use Rattle.kc_text.specs.declared.errors.Fail.{Fail}
use Rattle.kc_tree.specs.declared.expr.Expr.{Expr}
use Rattle.kt_lexer.specs.declared.token.Token.{Token}
use Rattle.kt_lexer.specs.declared.token.Operator.TheVariants as operator
use Rattle.kt_grammar.specs.declared.cursor.Cursor.{Cursor}
use Rattle.kt_grammar.specs.Built as built
use Rattle.kt_grammar.specs.Moves.{Moved}
use Rattle.kt_grammar.specs.Parsed.{Advances}
use Rattle.kt_grammar.specs.Rows as rows
use Rattle.kt_grammar.specs.Rows.{Row, op}
use Rattle.kt_grammar.specs.Tokens.{is_op}

-- it reads one at each place from one on
pub record ReadsStatement (ts : List Token) (from : ℕ) (pre : Global → Bor (List Token) → Cursor → Type 0)
    (post : Global → Bor (List Token) → Cursor → Result (Expr × Cursor) (Fail ℕ) → Type 0) : Type 0 where
  pub callable : (alloc : Global) (s : Bor (List Token)) (at : Cursor) → s.now ≡ ts → from ≤ at.at → at.at ≤ length ts → pre alloc s at
  pub reads : (alloc : Global) (s : Bor (List Token)) (at : Cursor) (r : Result (Expr × Cursor) (Fail ℕ)) → s.now ≡ ts → from ≤ at.at → at.at ≤ length ts
      → post alloc s at r → Advances (row rows.statement) built.statement_of ts at r

-- any number of `;`
pub data Semicolons (ts : List Token) : Cursor → Cursor → Type 0 where
  no_more : {at : Cursor} → at.at ≤ length ts → Semicolons ts at at
  one_more : {start mid end : Cursor} → Moved (is_op operator.Semicolon) ts start mid → Semicolons ts mid end → Semicolons ts start end

-- all that stand there
pub record AllSemicolons (ts : List Token) (start end : Cursor) : Type 0 where
  pub all : Semicolons ts start end
  pub last : test (is_op operator.Semicolon) (first (drop end.at ts)) ≡ false

-- Whether one more follows in a list, and where it begins: at once, with a token that `g` holds of, or behind `;`, with one that `f` holds of.
pub data Follows (f g : Token → Bool) (ts : List Token) : Cursor → Cursor → Bool → Type 0 where
  at_once : {at : Cursor} {b : Bool} → at.at ≤ length ts → test (is_op operator.Semicolon) (first (drop at.at ts)) ≡ false → b ≡ test g (first (drop at.at ts)) → Follows f g ts at at b
  behind_semicolon : {start mid end : Cursor} {b : Bool} → Moved (is_op operator.Semicolon) ts start mid → AllSemicolons ts mid end → b ≡ test f (first (drop end.at ts))
      → Follows f g ts start end b

-- statements up to the brace that closes them
abbrev pub to_brace : Part Row Token
to_brace = both (row rows.statements) (op operator.CloseBrace)

abbrev pub before_brace : Cst Token → List Expr
before_brace (pair x brace) = built.statements_of x
before_brace _ = []

-- Prefix operators, one behind another.
use Rattle.std.specs.Prelude.{◌≡◌, ℕ, ◌≤◌, false, List, length, drop}
use Rattle.grammars.specs.Grammar.{row, first, test}
use Rattle.kc_text.specs.declared.errors.Fail.{Fail}
use Rattle.kt_lexer.specs.declared.token.Token.{Token}
use Rattle.kt_grammar.specs.declared.cursor.Cursor.{Cursor}
use Rattle.kt_grammar.specs.Parsed.{Halts}
use Rattle.kt_grammar.specs.Rows as rows
use Rattle.kt_grammar.specs.Tokens.{is_prefix}

-- another place, where no further test has looked on
abbrev pub moved_to : Cursor → ℕ → Cursor
moved_to at n = record { at = n; looked = at.looked }

-- All that stand from one place on, up to another. An operand that is refused behind them is refused with them.
pub record PrefixRun (ts : List Token) (start : Cursor) (last : ℕ) : Type 0 where
  pub ahead : start.at ≤ last
  pub within : last ≤ length ts
  pub no_more : test is_prefix (first (drop last ts)) ≡ false
  pub halts : (e : Fail ℕ) → Halts (row rows.prefix) ts (moved_to start last) e → Halts (row rows.prefix) ts start e

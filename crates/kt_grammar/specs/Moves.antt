-- Single tokens, with how far tests have looked.
use Rattle.std.specs.Prelude.{◌≡◌, ℕ, Bool, false, List, drop, Option, Some, None, Result, Ok, Err}
use Rattle.grammars.specs.Grammar.{one, first, test}
use Rattle.kc_text.specs.declared.errors.Fail.{Fail}
use Rattle.kt_lexer.specs.declared.token.Token.{Token}
use Rattle.kt_grammar.specs.declared.cursor.Cursor.{Cursor}
use Rattle.kt_grammar.specs.Parsed.{Taken, Halts}

-- a token that the test holds of, from one place to the next
pub record Moved (f : Token → Bool) (ts : List Token) (start end : Cursor) : Type 0 where
  pub taken : Taken f ts start.at end.at
  pub so_far : end.looked ≡ start.looked

abbrev pub EatsOn : (Token → Bool) → List Token → Cursor → Option Cursor → Type 0
EatsOn f ts start (Some end) = Moved f ts start end
EatsOn f ts start None = test f (first (drop start.at ts)) ≡ false

abbrev pub ExpectsOn : (Token → Bool) → List Token → Cursor → Result Cursor (Fail ℕ) → Type 0
ExpectsOn f ts start (Ok end) = Moved f ts start end
ExpectsOn f ts start (Err e) = Halts (one f) ts start e

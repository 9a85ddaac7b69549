-- Tests that look farther than the next token.
use Rattle.std.specs.Prelude.{◌≡◌, ◌+◌, ◌≤◌, max, Bool, List, length, drop}
use Rattle.grammars.specs.Grammar.{Test, Part, Begun}
use Rattle.kt_lexer.specs.declared.token.Token.{Token}
use Rattle.kt_grammar.specs.declared.cursor.Cursor.{Cursor}
use Rattle.kt_grammar.specs.Rows.{Row, grammar}

-- What a test says at a place, and the same place with how far it looks. What it has gone over begins a list with a derivation of the part.
pub record Looked (f : Test Token) (a : Part Row Token) (ts : List Token) (start mid : Cursor) (holds : Bool) : Type 0 where
  pub says : holds ≡ f.holds (drop start.at ts)
  pub same : mid.at ≡ start.at
  pub so_far : mid.looked ≡ max start.looked (start.at + f.far (drop start.at ts))
  pub within : start.at + f.far (drop start.at ts) ≤ length ts
  pub begun : Begun grammar a (drop start.at ts) (drop (start.at + f.far (drop start.at ts)) ts)

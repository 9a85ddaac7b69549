-- Single tokens, with how far tests have looked.
use Rattle.std.specs.Prelude.{◌≡◌, ℕ, Bool, List, Result, Ok, Err}
use Rattle.grammars.specs.Grammar.{one}
use Rattle.kc_text.specs.declared.errors.Fail.{Fail}
use Rattle.kc_tree.specs.declared.types.Word.{Word}
use Rattle.kt_bodies.specs.declared.terminals.Terminal.{Terminal}
use Rattle.kt_bodies.specs.declared.terminals.Terminal.TheVariants as terminal
use Rattle.kt_lexer.specs.declared.token.Token.{Token}
use Rattle.kt_grammar.specs.declared.cursor.Cursor.{Cursor}
use Rattle.kt_grammar.specs.Parsed.{Taken, Halts}
use Rattle.kt_grammar.specs.Tokens.{is_of, is_name, keyword_class}
use Rattle.kt_grammar.specs.TypesBuilt.{word_of}

abbrev pub terminal_class : Terminal → ℕ
terminal_class (terminal.Word k) = keyword_class k
terminal_class terminal.Catch = 84
terminal_class terminal.Finally = 85

abbrev pub is_terminal : Terminal → Token → Bool
is_terminal w = is_of (terminal_class w)

-- a name, from one place to the next
pub record NameMoved (ts : List Token) (start end : Cursor) (w : Word) : Type 0 where
  pub taken : Taken is_name ts start.at end.at
  pub so_far : end.looked ≡ start.looked
  pub word : w ≡ word_of taken.token

abbrev pub ExpectsNameOn : List Token → Cursor → Result (Word × Cursor) (Fail ℕ) → Type 0
ExpectsNameOn ts start (Ok p) = NameMoved ts start p.1 p.0
ExpectsNameOn ts start (Err e) = Halts (one is_name) ts start e

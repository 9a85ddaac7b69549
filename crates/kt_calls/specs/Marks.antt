-- Tokens behind an operand and in strings.
use Rattle.std.specs.Prelude.{ℕ, Bool, List, Result, Ok, Err}
use denote.Ref.{Bor}
use Rattle.grammars.specs.Grammar.{one}
use Rattle.kc_text.specs.declared.errors.Fail.{Fail}
use Rattle.kt_calls.specs.declared.marks.Mark.{Mark}
use Rattle.kt_calls.specs.declared.marks.Mark.TheVariants as mark
use Rattle.kt_lexer.specs.declared.token.Token.{Token}
use Rattle.kt_lexer.specs.declared.token.Operator.TheVariants as operator
use Rattle.kt_grammar.specs.declared.cursor.Cursor.{Cursor}
use Rattle.kt_grammar.specs.Parsed.{Halts}
use Rattle.kt_grammar.specs.Signs.{TokenTaken}
use Rattle.kt_grammar.specs.Tokens.{is_op, is_label, is_dot, is_postfix, unmarked, is_string_open, is_string_text, is_string_name, is_hole_open, is_hole_close, is_string_close, is_piece}

abbrev pub is_mark : Mark → Token → Bool
is_mark mark.Label = is_label
is_mark mark.Round = unmarked (is_op operator.OpenRound)
is_mark mark.Square = unmarked (is_op operator.OpenSquare)
is_mark mark.Less = unmarked (is_op operator.Less)
is_mark mark.Dot = is_dot
is_mark mark.Postfix = unmarked is_postfix
is_mark mark.StringOpen = is_string_open
is_mark mark.Piece = is_piece
is_mark mark.StringText = is_string_text
is_mark mark.StringName = is_string_name
is_mark mark.HoleOpen = is_hole_open
is_mark mark.HoleClose = is_hole_close
is_mark mark.StringClose = is_string_close

abbrev pub ExpectsMark : (Token → Bool) → List Token → Cursor → Result (Bor Token × Cursor) (Fail ℕ) → Type 0
ExpectsMark f ts start (Ok p) = TokenTaken f ts start p.1 p.0.now
ExpectsMark f ts start (Err e) = Halts (one f) ts start e

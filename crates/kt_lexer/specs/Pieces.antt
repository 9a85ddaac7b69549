-- What stands in front of a text: white space, a comment, a line's end, a token or a fault. It depends on the innermost open
-- bracket and on the token before.
use Rattle.std.specs.Prelude.{ℕ, ◌≤◌, ◌+◌, ◌==◌, nat_le, Bool, true, false, ◌&&◌, ◌||◌, if◌then◌else◌, List, drop, Option, Some, None, codes}
use Rattle.kc_tree.specs.declared.fault.Code.{Code}
use Rattle.kc_tree.specs.declared.fault.Code.TheVariants as code
use Rattle.kt_lexer.specs.declared.token.Keyword.{Keyword}
use Rattle.kt_lexer.specs.declared.token.Keyword.TheVariants as keyword
use Rattle.kt_lexer.specs.declared.token.Operator.{Operator}
use Rattle.kt_lexer.specs.declared.token.Operator.TheVariants as operator
use Rattle.kt_lexer.specs.declared.token.LexFault.{LexFault}
use Rattle.kt_lexer.specs.declared.numbers.Number.{Number}
use Rattle.kt_lexer.specs.declared.numbers.Number.TheVariants as number
use Rattle.kt_lexer.specs.declared.strings.Element.{Element}
use Rattle.kt_lexer.specs.declared.pieces.Shape.{Shape}
use Rattle.kt_lexer.specs.declared.pieces.Shape.TheVariants as shape
use Rattle.kt_lexer.specs.declared.pieces.Piece.{Piece}
use Rattle.kt_lexer.specs.declared.pieces.Piece.TheVariants as piece
use Rattle.kt_lexer.specs.declared.pieces.Open.{Open}
use Rattle.kt_lexer.specs.declared.pieces.Open.TheVariants as bracket
use Rattle.kt_lexer.specs.declared.pieces.Lead.{Lead}
use Rattle.kt_lexer.specs.declared.pieces.Lead.TheVariants as lead
use Rattle.kt_lexer.specs.Characters.{unit_at, is_empty, is_front, is_blank, is_line_end, is_digit, starts_word, part_length, word_length}
use Rattle.kt_lexer.specs.Words.{keyword_of, word_of}
use Rattle.kt_lexer.specs.Operators.{operator_of}
use Rattle.kt_lexer.specs.Numbers.{number_of}
use Rattle.kt_lexer.specs.Strings.{escape_of, name_behind, text_length}
use Rattle.kt_lexer.specs.Comments.{line_length, close}

abbrev pub bad : ℕ → Code → Piece
bad at c = piece.Bad (record { at = at; code = c })

-- ---- words: `as?` is one token, and so is a name with `@` directly behind it

abbrev pub of_word : Option Keyword → ℕ → ℕ → Piece
of_word (Some keyword.As) n next = if next == 63 then piece.Token (shape.Word keyword.AsSafe) (n + 1) else piece.Token (shape.Word keyword.As) n
of_word (Some k) n next = piece.Token (shape.Word k) n
of_word None n next = if next == 64 then piece.Token shape.Label (n + 1) else piece.Token shape.Name n

abbrev pub word_piece : List ℕ → Piece
word_piece text = of_word (keyword_of (word_of text)) (word_length text) (unit_at text (word_length text))

-- ---- numbers

abbrev pub is_minus : Lead → Bool
is_minus lead.Minus = true
is_minus _ = false

abbrev pub of_number : Number → ℕ → ℕ → Piece
of_number number.No n at = bad at code.BadNumber
of_number number.TooWide n at = bad at code.LiteralTooWide
of_number (number.Value value long) n at = piece.Token (shape.Number value long) n

abbrev pub number_piece : Lead → ℕ → List ℕ → Piece
number_piece before at text = of_number (number_of (is_minus before) (word_of text)) (word_length text) at

-- ---- character literals

abbrev pub closed_character : Bool → ℕ → ℕ → ℕ → Piece
closed_character is_closed unit n at = if is_closed then piece.Token (shape.CharLiteral unit) n else bad at code.BadCharLiteral

-- an escape behind the opening quote
abbrev pub of_escape : Option Element → ℕ → List ℕ → Piece
of_escape None at text = bad (at + 1) code.BadEscape
of_escape (Some e) at text = closed_character (unit_at text (e.length + 1) == 39) e.unit (e.length + 2) at

abbrev pub character_piece : ℕ → List ℕ → Piece
character_piece at text =
    if unit_at text 1 == 92 then of_escape (escape_of (drop 1 text)) at text else
    if unit_at text 1 == 39 || is_line_end (unit_at text 1) then bad at code.BadCharLiteral else
    closed_character (unit_at text 2 == 39) (unit_at text 1) 3 at

-- ---- operators, and what begins like one

-- the token before is `break`, `continue` or `return`, and ends here
abbrev pub is_jump : Lead → ℕ → Bool
is_jump (lead.Jump end) at = end == at
is_jump _ at = false

abbrev pub is_dot : Lead → Bool
is_dot lead.Dot = true
is_dot _ = false

abbrev pub is_hole : Option Open → Bool
is_hole (Some bracket.Hole) = true
is_hole _ = false

abbrev pub of_operator : Option (Operator × ℕ) → Lead → ℕ → Piece
of_operator None before at = bad at code.BadChar
of_operator (Some (operator.Times, n)) before at = if is_dot before then piece.Token (shape.Op operator.TimesBehindDot) n else piece.Token (shape.Op operator.Times) n
of_operator (Some (k, n)) before at = piece.Token (shape.Op k) n

-- `!in` or `!is`, with no identifier character behind
abbrev pub is_negated : List ℕ → List ℕ → Bool
is_negated spelling text = is_front spelling text && part_length (drop 3 text) == 0

-- `@` and a name directly behind `break`, `continue` or `return`
abbrev pub is_label_use : Lead → ℕ → List ℕ → Bool
is_label_use before at text = unit_at text 0 == 64 && is_jump before at && nat_le 1 (name_behind text)

abbrev pub is_hole_end : Option Open → List ℕ → Bool
is_hole_end inside text = unit_at text 0 == 125 && is_hole inside

abbrev pub operator_piece : Option Open → Lead → ℕ → List ℕ → Piece
operator_piece inside before at text =
    if is_label_use before at text then piece.Token shape.LabelUse (name_behind text + 1) else
    if is_negated (codes "!in") text then piece.Token (shape.Word keyword.NotIn) 3 else
    if is_negated (codes "!is") text then piece.Token (shape.Word keyword.NotIs) 3 else
    if is_hole_end inside text then piece.Token shape.HoleClose 1 else
    of_operator (operator_of text) before at

-- ---- comments

abbrev pub of_comment : Option ℕ → ℕ → Piece
of_comment None at = bad at code.UnclosedComment
of_comment (Some n) at = piece.Gap (n + 2)

-- a comment that may hold comments, with its `/*` in front
abbrev pub comment_piece : ℕ → List ℕ → Piece
comment_piece at text = of_comment (close 0 (drop 2 text)) at

-- ---- outside of strings

-- the token in front of a text that begins with no white space and no comment
abbrev pub token_piece : Option Open → Lead → ℕ → List ℕ → Piece
token_piece inside before at text =
    if starts_word text then word_piece text else
    if is_digit (unit_at text 0) then number_piece before at text else
    if unit_at text 0 == 39 then character_piece at text else
    if unit_at text 0 == 34 then piece.Token shape.StringOpen 1 else
    operator_piece inside before at text

abbrev pub code_piece : Option Open → Lead → ℕ → List ℕ → Piece
code_piece inside before at text =
    if is_empty text then piece.End else
    if is_blank (unit_at text 0) then piece.Gap 1 else
    if is_line_end (unit_at text 0) then piece.LineEnd else
    if is_front (codes "//") text then piece.Gap (line_length text) else
    if is_front (codes "/*") text then comment_piece at text else
    token_piece inside before at text

-- ---- within the string whose opening quote stands at `quote`

abbrev pub is_string_name : List ℕ → Bool
is_string_name text = unit_at text 0 == 36 && nat_le 1 (name_behind text)

abbrev pub string_piece : ℕ → ℕ → List ℕ → Piece
string_piece quote at text =
    if is_empty text then bad quote code.UnclosedString else
    if is_line_end (unit_at text 0) then bad quote code.UnclosedString else
    if unit_at text 0 == 34 then piece.Token shape.StringClose 1 else
    if is_front (codes "${") text then piece.Token shape.HoleOpen 2 else
    if is_string_name text then piece.Token shape.StringName (name_behind text + 1) else
    if text_length text == 0 then bad at code.BadEscape else
    piece.Token shape.StringText (text_length text)

abbrev pub piece_of : Option Open → Lead → ℕ → List ℕ → Piece
piece_of (Some (bracket.Quote quote)) before at text = string_piece quote at text
piece_of inside before at text = code_piece inside before at text

-- a piece takes some units of a text, and no more than there are
pub data Fits : Piece → ℕ → Type 0 where
  gap_fits : {n size : ℕ} → 1 ≤ n → n ≤ size → Fits (piece.Gap n) size
  line_fits : {size : ℕ} → 1 ≤ size → Fits piece.LineEnd size
  token_fits : {s : Shape} {n size : ℕ} → 1 ≤ n → n ≤ size → Fits (piece.Token s n) size
  bad_fits : {f : LexFault} {size : ℕ} → Fits (piece.Bad f) size
  end_fits : {size : ℕ} → Fits piece.End size

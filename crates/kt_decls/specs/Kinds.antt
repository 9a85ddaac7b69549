-- What tokens are to the nesting of others.
use Rattle.std.specs.Prelude.{Bool, true, false, not, ◌&&◌, ◌||◌, is_some, Option, Some, None}
use Rattle.kt_lexer.specs.declared.token.Token.{Token}
use Rattle.kt_lexer.specs.declared.token.TokenKind.{TokenKind}
use Rattle.kt_lexer.specs.declared.token.TokenKind.TheVariants as kind
use Rattle.kt_lexer.specs.declared.token.Keyword.{Keyword}
use Rattle.kt_lexer.specs.declared.token.Keyword.TheVariants as keyword
use Rattle.kt_lexer.specs.declared.token.Operator.{Operator}
use Rattle.kt_lexer.specs.declared.token.Operator.TheVariants as operator
use Rattle.kt_decls.specs.declared.kinds.Bracket.{Bracket}
use Rattle.kt_decls.specs.declared.kinds.Bracket.TheVariants as bracket

abbrev pub is_same : Bracket → Bracket → Bool
is_same bracket.Round bracket.Round = true
is_same bracket.Square bracket.Square = true
is_same bracket.Brace bracket.Brace = true
is_same bracket.Hole bracket.Hole = true
is_same _ _ = false

abbrev pub opened_by : Operator → Option Bracket
opened_by operator.OpenRound = Some bracket.Round
opened_by operator.OpenSquare = Some bracket.Square
opened_by operator.OpenBrace = Some bracket.Brace
opened_by _ = None

abbrev pub opens : TokenKind → Option Bracket
opens (kind.Op k) = opened_by k
opens kind.HoleOpen = Some bracket.Hole
opens _ = None

abbrev pub closed_by : Operator → Option Bracket
closed_by operator.CloseRound = Some bracket.Round
closed_by operator.CloseSquare = Some bracket.Square
closed_by operator.CloseBrace = Some bracket.Brace
closed_by _ = None

abbrev pub closes : TokenKind → Option Bracket
closes (kind.Op k) = closed_by k
closes kind.HoleClose = Some bracket.Hole
closes _ = None

abbrev pub is_literal_word : Keyword → Bool
is_literal_word keyword.True = true
is_literal_word keyword.False = true
is_literal_word keyword.Null = true
is_literal_word _ = false

-- a name, a literal or a closing bracket
abbrev pub is_operand_end : TokenKind → Bool
is_operand_end (kind.Name n) = true
is_operand_end (kind.Number value long) = true
is_operand_end (kind.CharLiteral u) = true
is_operand_end kind.StringClose = true
is_operand_end kind.HoleClose = true
is_operand_end (kind.Word w) = is_literal_word w
is_operand_end (kind.Op k) = is_some (closed_by k)
is_operand_end _ = false

abbrev pub ends_operand : Token → Bool
ends_operand t = is_operand_end t.kind && not t.marked

-- + - * / % .. ..< && || ?: = == != === !== . ?. -> as as? in !in is !is
abbrev pub joins_operator : Operator → Bool
joins_operator operator.Plus = true
joins_operator operator.Minus = true
joins_operator operator.Times = true
joins_operator operator.Divide = true
joins_operator operator.Remainder = true
joins_operator operator.Range = true
joins_operator operator.RangeUntil = true
joins_operator operator.And = true
joins_operator operator.Or = true
joins_operator operator.Elvis = true
joins_operator operator.Assign = true
joins_operator operator.EqualEqual = true
joins_operator operator.NotEqual = true
joins_operator operator.Identical = true
joins_operator operator.NotIdentical = true
joins_operator operator.Dot = true
joins_operator operator.SafeDot = true
joins_operator operator.Arrow = true
joins_operator _ = false

abbrev pub joins_word : Keyword → Bool
joins_word keyword.As = true
joins_word keyword.AsSafe = true
joins_word keyword.In = true
joins_word keyword.NotIn = true
joins_word keyword.Is = true
joins_word keyword.NotIs = true
joins_word _ = false

abbrev pub joins : TokenKind → Bool
joins (kind.Op k) = joins_operator k
joins (kind.Word w) = joins_word w
joins _ = false

abbrev pub operator_counts : Operator → Bool
operator_counts operator.CloseRound = false
operator_counts operator.CloseSquare = false
operator_counts operator.CloseBrace = false
operator_counts operator.Comma = false
operator_counts operator.Semicolon = false
operator_counts _ = true

-- keywords, operators but `,`, `;` and closing brackets, and names behind an operand
abbrev pub counts : Bool → TokenKind → Bool
counts behind_operand (kind.Word w) = true
counts behind_operand kind.HoleOpen = true
counts behind_operand (kind.Op k) = operator_counts k
counts behind_operand (kind.Name n) = behind_operand
counts behind_operand _ = false

abbrev pub is_separator : Operator → Bool
is_separator operator.Comma = true
is_separator operator.Semicolon = true
is_separator _ = false

abbrev pub is_list_mark : TokenKind → Bool
is_list_mark (kind.Op k) = is_separator k
is_list_mark _ = false

-- `,`, `;`, and what stands on a new line, but behind a token that joins lines
abbrev pub separates : Bool → Token → Bool
separates joined t = is_list_mark t.kind || (t.marked && not joined)

-- Between two pieces: which brackets are open, and what the token before and the line ends since say of the next one.
use Rattle.std.specs.Prelude.{ℕ, ◌+◌, Bool, true, false, not, ◌&&◌, ◌||◌, if◌then◌else◌, List, ◌∷◌, Option, Some, codes}
use Rattle.kt_lexer.specs.declared.token.Keyword.TheVariants as keyword
use Rattle.kt_lexer.specs.declared.token.Operator.TheVariants as operator
use Rattle.kt_lexer.specs.declared.pieces.Shape.{Shape}
use Rattle.kt_lexer.specs.declared.pieces.Shape.TheVariants as shape
use Rattle.kt_lexer.specs.declared.pieces.Open.{Open}
use Rattle.kt_lexer.specs.declared.pieces.Open.TheVariants as bracket
use Rattle.kt_lexer.specs.declared.pieces.Lead.{Lead}
use Rattle.kt_lexer.specs.declared.pieces.Lead.TheVariants as lead
use Rattle.kt_lexer.specs.declared.places.Place.{Place}
use Rattle.kt_lexer.specs.Openings.{innermost, outer}
use Rattle.kt_lexer.specs.Words.{is_spelled}

-- a closing bracket closes the innermost open one where that is of its kind, and none elsewhere
abbrev pub is_round : Option Open → Bool
is_round (Some bracket.Round) = true
is_round _ = false

abbrev pub is_square : Option Open → Bool
is_square (Some bracket.Square) = true
is_square _ = false

abbrev pub is_brace : Option Open → Bool
is_brace (Some bracket.Brace) = true
is_brace _ = false

abbrev pub closes : Bool → List Open → List Open
closes fits os = if fits then outer os else os

-- the brackets that are open behind a token that begins at this unit
abbrev pub open_behind : Shape → ℕ → List Open → List Open
open_behind (shape.Op operator.OpenRound) at os = bracket.Round ∷ os
open_behind (shape.Op operator.OpenSquare) at os = bracket.Square ∷ os
open_behind (shape.Op operator.OpenBrace) at os = bracket.Brace ∷ os
open_behind shape.StringOpen at os = bracket.Quote at ∷ os
open_behind shape.HoleOpen at os = bracket.Hole ∷ os
open_behind (shape.Op operator.CloseRound) at os = closes (is_round (innermost os)) os
open_behind (shape.Op operator.CloseSquare) at os = closes (is_square (innermost os)) os
open_behind (shape.Op operator.CloseBrace) at os = closes (is_brace (innermost os)) os
open_behind shape.HoleClose at os = outer os
open_behind shape.StringClose at os = outer os
open_behind _ at os = os

-- what a token that ends at this unit says of the next one
abbrev pub lead_of : Shape → ℕ → Lead
lead_of (shape.Op operator.Minus) end = lead.Minus
lead_of (shape.Op operator.Dot) end = lead.Dot
lead_of (shape.Word keyword.Break) end = lead.Jump end
lead_of (shape.Word keyword.Continue) end = lead.Jump end
lead_of (shape.Word keyword.Return) end = lead.Jump end
lead_of _ end = lead.Other

-- ---- marks

-- `catch` and `finally`
abbrev pub follows_block : List ℕ → Bool
follows_block word = is_spelled word (codes "catch") || is_spelled word (codes "finally")

-- before these tokens a line's end is no mark: && || ?: . ?. else catch finally ) ] } and the } of a hole
abbrev pub joins_lines : Shape → List ℕ → Bool
joins_lines (shape.Op operator.And) spelling = true
joins_lines (shape.Op operator.Or) spelling = true
joins_lines (shape.Op operator.Elvis) spelling = true
joins_lines (shape.Op operator.Dot) spelling = true
joins_lines (shape.Op operator.SafeDot) spelling = true
joins_lines (shape.Op operator.CloseRound) spelling = true
joins_lines (shape.Op operator.CloseSquare) spelling = true
joins_lines (shape.Op operator.CloseBrace) spelling = true
joins_lines shape.HoleClose spelling = true
joins_lines (shape.Word keyword.Else) spelling = true
joins_lines shape.Name spelling = follows_block spelling
joins_lines _ spelling = false

-- within round and square brackets no line's end is a mark
abbrev pub in_line : Option Open → Bool
in_line inside = is_round inside || is_square inside

abbrev pub is_marked : Place → Shape → List ℕ → Bool
is_marked p s spelling = p.on_new_line && not (in_line (innermost p.openings) || joins_lines s spelling)

-- ---- from place to place

abbrev pub behind_gap : Place → ℕ → Place
behind_gap p n = record p { at = p.at + n }

abbrev pub behind_line : Place → Place
behind_line p = record p { at = p.at + 1; on_new_line = true }

abbrev pub behind_token : Place → Shape → ℕ → Place
behind_token p s n = record { at = p.at + n; openings = open_behind s p.at p.openings; before = lead_of s (p.at + n); on_new_line = false }

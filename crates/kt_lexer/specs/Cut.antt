-- The one cut of a text into tokens.
use Rattle.std.specs.Prelude.{◌≡◌, ℕ, ◌+◌, ◌-◌, ◌==◌, Bool, false, if◌then◌else◌, List, [], ◌∷◌, take, drop, Option, Some, None, slice_get}
use Rattle.kc_tree.specs.declared.fault.Code.TheVariants as code
use Rattle.kt_lexer.specs.declared.token.Token.{Token}
use Rattle.kt_lexer.specs.declared.token.TokenKind.{TokenKind}
use Rattle.kt_lexer.specs.declared.token.TokenKind.TheVariants as kind
use Rattle.kt_lexer.specs.declared.token.LexFault.{LexFault}
use Rattle.kt_lexer.specs.declared.token.Keyword.{Keyword}
use Rattle.kt_lexer.specs.declared.token.Operator.{Operator}
use Rattle.kt_lexer.specs.declared.pieces.Shape.{Shape}
use Rattle.kt_lexer.specs.declared.pieces.Shape.TheVariants as shape
use Rattle.kt_lexer.specs.declared.pieces.Piece.{Piece}
use Rattle.kt_lexer.specs.declared.pieces.Piece.TheVariants as piece
use Rattle.kt_lexer.specs.declared.pieces.Lead.TheVariants as lead
use Rattle.kt_lexer.specs.Characters.{unit_at}
use Rattle.kt_lexer.specs.Strings.{text_units}
use Rattle.kt_lexer.specs.Pieces.{piece_of}
use Rattle.kt_lexer.specs.declared.places.Place.{Place}
use Rattle.kt_lexer.specs.Openings.{innermost, open_quote}
use Rattle.kt_lexer.specs.Places.{is_marked, behind_gap, behind_line, behind_token}

-- this number is that of the name
abbrev pub Numbers : List (List ℕ) → ℕ → List ℕ → Type 0
Numbers names n name = slice_get names n ≡ Some name

-- A token of this shape, so many units long in front of a text, is of this kind. A name is its number.
pub data IsKind (names : List (List ℕ)) (text : List ℕ) (n : ℕ) : Shape → TokenKind → Type 0 where
  a_word : {k : Keyword} → IsKind names text n (shape.Word k) (kind.Word k)
  a_name : {m : ℕ} → Numbers names m (take n text) → IsKind names text n shape.Name (kind.Name m)
  a_label : {m : ℕ} → Numbers names m (take (n - 1) text) → IsKind names text n shape.Label (kind.Label m)
  a_label_use : {m : ℕ} → Numbers names m (take (n - 1) (drop 1 text)) → IsKind names text n shape.LabelUse (kind.LabelUse m)
  a_number : {v : ℕ} {long : Bool} → IsKind names text n (shape.Number v long) (kind.Number v long)
  a_character : {u : ℕ} → IsKind names text n (shape.CharLiteral u) (kind.CharLiteral u)
  a_string_open : IsKind names text n shape.StringOpen kind.StringOpen
  a_string_text : IsKind names text n shape.StringText (kind.StringText (text_units text))
  a_string_name : {m : ℕ} → Numbers names m (take (n - 1) (drop 1 text)) → IsKind names text n shape.StringName (kind.StringName m)
  a_hole_open : IsKind names text n shape.HoleOpen kind.HoleOpen
  a_hole_close : IsKind names text n shape.HoleClose kind.HoleClose
  a_string_close : IsKind names text n shape.StringClose kind.StringClose
  an_operator : {k : Operator} → IsKind names text n (shape.Op k) (kind.Op k)

-- the piece in front of the text that goes on at a place
abbrev pub front : Place → List ℕ → Piece
front p text = piece_of (innermost p.openings) p.before p.at text

-- a token of this shape, so many units long in front of the text that goes on at a place
pub record IsToken (names : List (List ℕ)) (file : ℕ) (p : Place) (text : List ℕ) (s : Shape) (n : ℕ) (t : Token) : Type 0 where
  pub kind : IsKind names text n s t.kind
  pub span : t.span ≡ record { file = file; start = p.at; end = p.at + n }
  pub marked : t.marked ≡ is_marked p s (take n text)

-- the fault of a text that ends at a place outside of strings
abbrev pub unclosed_string : Option ℕ → Option LexFault
unclosed_string None = None
unclosed_string (Some quote) = Some (record { at = quote; code = code.UnclosedString })

abbrev pub fault_at_end : Place → Option LexFault
fault_at_end p = unclosed_string (open_quote p.openings)

-- The text from a place on is cut into these tokens, in order.
pub data Cut (names : List (List ℕ)) (file : ℕ) : Place → List ℕ → List Token → Type 0 where
  the_end : {p : Place} {text : List ℕ} → front p text ≡ piece.End → fault_at_end p ≡ None → Cut names file p text []
  gap : {p : Place} {text : List ℕ} {n : ℕ} {ts : List Token}
      → front p text ≡ piece.Gap n → Cut names file (behind_gap p n) (drop n text) ts → Cut names file p text ts
  line_end : {p : Place} {text : List ℕ} {ts : List Token}
      → front p text ≡ piece.LineEnd → Cut names file (behind_line p) (drop 1 text) ts → Cut names file p text ts
  one_more : {p : Place} {text : List ℕ} {s : Shape} {n : ℕ} {t : Token} {ts : List Token}
      → front p text ≡ piece.Token s n → IsToken names file p text s n t
      → Cut names file (behind_token p s n) (drop n text) ts → Cut names file p text (t ∷ ts)

-- From a place on, pieces lead to this fault: where no piece begins, or at the end the string that stays unclosed.
pub data Stops : Place → List ℕ → LexFault → Type 0 where
  here : {p : Place} {text : List ℕ} {f : LexFault} → front p text ≡ piece.Bad f → Stops p text f
  unclosed : {p : Place} {text : List ℕ} {f : LexFault} → front p text ≡ piece.End → fault_at_end p ≡ Some f → Stops p text f
  past_gap : {p : Place} {text : List ℕ} {n : ℕ} {f : LexFault}
      → front p text ≡ piece.Gap n → Stops (behind_gap p n) (drop n text) f → Stops p text f
  past_line : {p : Place} {text : List ℕ} {f : LexFault}
      → front p text ≡ piece.LineEnd → Stops (behind_line p) (drop 1 text) f → Stops p text f
  past_token : {p : Place} {text : List ℕ} {s : Shape} {n : ℕ} {f : LexFault}
      → front p text ≡ piece.Token s n → Stops (behind_token p s n) (drop n text) f → Stops p text f

-- A byte order mark that stands first is skipped. It counts as a unit.
abbrev pub start_of : List ℕ → ℕ
start_of text = if unit_at text 0 == 65279 then 1 else 0

abbrev pub beginning : List ℕ → Place
beginning text = record { at = start_of text; openings = []; before = lead.Other; on_new_line = false }

-- the text of the file with this number is cut into these tokens
abbrev pub IsCut : List (List ℕ) → ℕ → List ℕ → List Token → Type 0
IsCut names file text ts = Cut names file (beginning text) (drop (start_of text) text) ts

-- the text has no cut, for this fault
abbrev pub HasFault : List ℕ → LexFault → Type 0
HasFault text f = Stops (beginning text) (drop (start_of text) text) f

-- no tokens are a cut of the text, however names are numbered
abbrev pub HasNoCut : List ℕ → Type 0
HasNoCut text = (names : List (List ℕ)) (file : ℕ) (ts : List Token) → IsCut names file text ts → ⊥

-- The cut of a text into tokens, in the words of spellings alone.
use Rattle.std.specs.Prelude.{◌≡◌, ℕ, ◌+◌, ◌≤◌, Bool, true, false, List, [], ◌∷◌, length, take, drop, Option, Some, None, codes}
use Rattle.kt_lexer.specs.declared.token.Token.{Token}
use Rattle.kt_lexer.specs.declared.pieces.Shape.{Shape}
use Rattle.kt_lexer.specs.declared.pieces.Open.{Open}
use Rattle.kt_lexer.specs.declared.pieces.Open.TheVariants as bracket
use Rattle.kt_lexer.specs.declared.places.Place.{Place}
use Rattle.kt_lexer.specs.Characters.{unit_at, is_front, is_blank, is_line_end}
use Rattle.kt_lexer.specs.Comments.{line_length, close}
use Rattle.kt_lexer.specs.Openings.{innermost}
use Rattle.kt_lexer.specs.Places.{behind_gap, behind_line, behind_token}
use Rattle.kt_lexer.specs.Cut.{Cut, IsToken, fault_at_end}
use Rattle.kt_spellings.specs.Spellings.{Spells}
use Rattle.kt_spellings.specs.Laws.{NoLongerSpells, begins_comment}

abbrev pub in_string : Option Open → Bool
in_string (Some (bracket.Quote quote)) = true
in_string _ = false

-- so many units in front of a text are white space or a comment
pub data IsGap (text : List ℕ) : ℕ → Type 0 where
  white_space : is_blank (unit_at text 0) ≡ true → IsGap text 1
  line_comment : is_front (codes "//") text ≡ true → IsGap text (line_length text)
  comment : {n : ℕ} → is_front (codes "/*") text ≡ true → close 0 (drop 2 text) ≡ Some n → IsGap text (n + 2)

-- From a place on the text is white space, line ends, comments and these tokens, each of them the longest spelling at its place.
pub data SpelledCut (names : List (List ℕ)) (file : ℕ) : Place → List ℕ → List Token → Type 0 where
  the_end : {p : Place} → fault_at_end p ≡ None → SpelledCut names file p [] []
  gap : {p : Place} {text : List ℕ} {n : ℕ} {ts : List Token} → in_string (innermost p.openings) ≡ false → IsGap text n
      → SpelledCut names file (behind_gap p n) (drop n text) ts → SpelledCut names file p text ts
  line_end : {p : Place} {text : List ℕ} {ts : List Token} → in_string (innermost p.openings) ≡ false → is_line_end (unit_at text 0) ≡ true
      → SpelledCut names file (behind_line p) (drop 1 text) ts → SpelledCut names file p text ts
  a_token : {p : Place} {text : List ℕ} {s : Shape} {n : ℕ} {t : Token} {ts : List Token}
      → begins_comment (innermost p.openings) text ≡ false → n ≤ length text
      → Spells (innermost p.openings) p.before p.at (take n text) (drop n text) s → NoLongerSpells (innermost p.openings) p.before p.at text n
      → IsToken names file p text s n t → SpelledCut names file (behind_token p s n) (drop n text) ts → SpelledCut names file p text (t ∷ ts)

-- the cut of a text is its cut by spellings
abbrev pub CutIsSpelled : Type 0
CutIsSpelled = (names : List (List ℕ)) (file : ℕ) (p : Place) (text : List ℕ) (ts : List Token) → Cut names file p text ts → SpelledCut names file p text ts

-- and the other way round
abbrev pub SpelledIsCut : Type 0
SpelledIsCut = (names : List (List ℕ)) (file : ℕ) (p : Place) (text : List ℕ) (ts : List Token) → SpelledCut names file p text ts → Cut names file p text ts

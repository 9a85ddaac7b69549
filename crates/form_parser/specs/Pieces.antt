-- What the scanner's functions answer.
use Rattle.std.specs.Prelude.{◌≡◌, ℕ, Bool, List, [], ◌∷◌, ◌++◌, length, Option, Some, None, Result, Ok, Err}
use Rattle.kc_text.specs.declared.errors.Fail.{Fail}
use Rattle.kc_text.specs.Fail.{IfCause}
use Rattle.form_parser.specs.declared.tokens.NotBuilt.{NotBuilt}
use Rattle.form_parser.specs.declared.tokens.TokenKind.{TokenKind}
use Rattle.form_parser.specs.declared.tokens.UnitClass.TheVariants as class
use Rattle.form_parser.specs.declared.tokens.Sign.{Sign}
use Rattle.form_parser.specs.declared.tokens.Token.{Token}
use Rattle.form_parser.specs.declared.tokens.Piece.{Piece}
use Rattle.form_parser.specs.declared.tokens.Piece.TheVariants as piece
use Rattle.form_parser.specs.Cut.{unit_class, sign_of, word_of, word_kind, Cut}

-- the token that a word is, and its length
abbrev pub ReadsWord : List ℕ → Option (TokenKind × ℕ) → Type 0
ReadsWord text None = word_kind (word_of text) ≡ None
ReadsWord text (Some p) = (word_kind (word_of text) ≡ Some p.0) × (p.1 ≡ length (word_of text))

pub data IsToken (k : TokenKind) (count : ℕ) : List ℕ → Type 0 where
  a_word : {u : ℕ} {us : List ℕ} → unit_class u ≡ class.Word → word_kind (word_of (u ∷ us)) ≡ Some k
      → count ≡ length (word_of (u ∷ us)) → IsToken k count (u ∷ us)
  a_sign : {u : ℕ} {us : List ℕ} {s : Sign} → unit_class u ≡ class.Sign → sign_of u us ≡ Some s → k ≡ s.kind → count ≡ s.length
      → IsToken k count (u ∷ us)

pub data IsNothing : List ℕ → Type 0 where
  no_word : {u : ℕ} {us : List ℕ} → unit_class u ≡ class.Word → word_kind (word_of (u ∷ us)) ≡ None → IsNothing (u ∷ us)
  no_sign : {u : ℕ} {us : List ℕ} → unit_class u ≡ class.Sign → sign_of u us ≡ None → IsNothing (u ∷ us)

abbrev pub PieceIs : Piece → List ℕ → Type 0
PieceIs piece.Blank text = (u : ℕ) × (us : List ℕ) × (text ≡ u ∷ us) × (unit_class u ≡ class.Blank)
PieceIs piece.LineEnd text = (u : ℕ) × (us : List ℕ) × (text ≡ u ∷ us) × (unit_class u ≡ class.LineEnd)
PieceIs (piece.Token k count) text = IsToken k count text
PieceIs piece.Nothing text = IsNothing text
PieceIs piece.End text = text ≡ []

-- the tokens of a text from a place on, put behind those before it
pub record Scanned (at : ℕ) (marked : Bool) (text : List ℕ) (before all : List Token) : Type 0 where
  pub tokens : List Token
  pub cut : Cut at marked text tokens
  pub whole : all ≡ before ++ tokens

abbrev pub Scans : ℕ → Bool → List ℕ → List Token → Result (List Token) (Fail NotBuilt) → Type 0
Scans at marked text before (Ok all) = Scanned at marked text before all
Scans at marked text before (Err cause) = IfCause cause (λ _. (ts : List Token) → ¬ Cut at marked text ts)

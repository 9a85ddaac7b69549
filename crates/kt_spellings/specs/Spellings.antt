-- How each kind of token is spelled. Nothing here depends on the order in which a scanner tries the kinds.
use Rattle.std.specs.Prelude.{◌≡◌, ℕ, ◌==◌, ◌||◌, Bool, true, false, List, [], ◌∷◌, ◌++◌, length, Option, Some, None, codes}
use Rattle.kt_lexer.specs.declared.token.Keyword.{Keyword}
use Rattle.kt_lexer.specs.declared.token.Keyword.TheVariants as keyword
use Rattle.kt_lexer.specs.declared.token.Operator.{Operator}
use Rattle.kt_lexer.specs.declared.token.Operator.TheVariants as operator
use Rattle.kt_lexer.specs.declared.numbers.Number.TheVariants as number
use Rattle.kt_lexer.specs.declared.pieces.Shape.{Shape}
use Rattle.kt_lexer.specs.declared.pieces.Shape.TheVariants as shape
use Rattle.kt_lexer.specs.declared.pieces.Open.{Open}
use Rattle.kt_lexer.specs.declared.pieces.Open.TheVariants as bracket
use Rattle.kt_lexer.specs.declared.pieces.Lead.{Lead}
use Rattle.kt_lexer.specs.declared.pieces.Lead.TheVariants as lead
use Rattle.kt_lexer.specs.Characters.{unit_at, is_line_end, is_digit, starts_word, part_length, word_length}
use Rattle.kt_lexer.specs.Words.{keyword_of}
use Rattle.kt_lexer.specs.Operators.{of_three, assignments, other_pairs, signs, brackets}
use Rattle.kt_lexer.specs.Numbers.{number_of}
use Rattle.kt_lexer.specs.Strings.{letter_escape, is_hex, four_digits, begins_template}
use Rattle.kt_lexer.specs.Pieces.{is_minus, is_hole_end}

-- ---- parts of spellings

-- all of it is identifier characters, and the first one begins an identifier
pub record IsWord (w : List ℕ) : Type 0 where
  pub begins : starts_word w ≡ true
  pub whole : word_length w ≡ length w

-- a word that is no keyword
pub record IsName (w : List ℕ) : Type 0 where
  pub word : IsWord w
  pub free : keyword_of w ≡ None

-- `\` and what is behind it spell a unit
pub data Escape : List ℕ → ℕ → Type 0 where
  by_letter : {c u : ℕ} → letter_escape c ≡ Some u → Escape (92 ∷ c ∷ []) u
  by_digits : {a b c d : ℕ} → is_hex a ≡ true → is_hex b ≡ true → is_hex c ≡ true → is_hex d ≡ true
      → Escape (92 ∷ 117 ∷ a ∷ b ∷ c ∷ d ∷ []) (four_digits a b c d)

-- a unit that stands for itself in a string, with this behind it
pub record IsPlain (u : ℕ) (rest : List ℕ) : Type 0 where
  pub no_quote : (u == 34) ≡ false
  pub no_escape : (u == 92) ≡ false
  pub no_line_end : is_line_end u ≡ false
  pub no_template : begins_template (u ∷ rest) ≡ false

-- text of a string, with this behind it: escapes and units that stand for themselves, one at least
pub data IsText : List ℕ → List ℕ → Type 0 where
  one_unit : {u : ℕ} {rest : List ℕ} → IsPlain u rest → IsText (u ∷ []) rest
  one_escape : {e rest : List ℕ} {u : ℕ} → Escape e u → IsText e rest
  unit_and_more : {u : ℕ} {more rest : List ℕ} → IsPlain u (more ++ rest) → IsText more rest → IsText (u ∷ more) rest
  escape_and_more : {e more rest : List ℕ} {u : ℕ} → Escape e u → IsText more rest → IsText (e ++ more) rest

-- a row of the table has this spelling
pub data Spelled (w : List ℕ) (k : Operator) : List (List ℕ × Operator) → Type 0 where
  here : {row : List ℕ × Operator} {rows : List (List ℕ × Operator)} → row.0 ≡ w → row.1 ≡ k → Spelled w k (row ∷ rows)
  there : {row : List ℕ × Operator} {rows : List (List ℕ × Operator)} → Spelled w k rows → Spelled w k (row ∷ rows)

abbrev pub operators : List (List ℕ × Operator)
operators = of_three ++ (assignments ++ (other_pairs ++ (signs ++ brackets)))

-- `*` directly behind a dot is an operator of its own
abbrev pub read_behind : Operator → Lead → Operator
read_behind operator.Times lead.Dot = operator.TimesBehindDot
read_behind k _ = k

-- ---- tokens

-- Outside of strings: the spelling, with this behind it, is a token of this shape, inside this bracket and behind a token of this sort.
pub data CodeSpells (inside : Option Open) (before : Lead) (at : ℕ) : List ℕ → List ℕ → Shape → Type 0 where
  a_keyword : {w rest : List ℕ} {k : Keyword} → IsWord w → keyword_of w ≡ Some k → CodeSpells inside before at w rest (shape.Word k)
  as_safe : {w rest : List ℕ} → IsWord w → keyword_of w ≡ Some keyword.As → CodeSpells inside before at (w ++ codes "?") rest (shape.Word keyword.AsSafe)
  not_in : {rest : List ℕ} → part_length rest ≡ 0 → CodeSpells inside before at (codes "!in") rest (shape.Word keyword.NotIn)
  not_is : {rest : List ℕ} → part_length rest ≡ 0 → CodeSpells inside before at (codes "!is") rest (shape.Word keyword.NotIs)
  a_name : {w rest : List ℕ} → IsName w → CodeSpells inside before at w rest shape.Name
  a_label : {w rest : List ℕ} → IsName w → CodeSpells inside before at (w ++ codes "@") rest shape.Label
  -- directly behind `break`, `continue` or `return`; the name is whole, as no front of a keyword is one
  a_label_use : {w rest : List ℕ} → before ≡ lead.Jump at → IsName w → part_length rest ≡ 0 → CodeSpells inside before at (64 ∷ w) rest shape.LabelUse
  -- a number is a whole run of identifier characters, as no front of `12ab` is one
  a_number : {w rest : List ℕ} {v : ℕ} {long : Bool} → is_digit (unit_at w 0) ≡ true → word_length w ≡ length w → part_length rest ≡ 0
      → number_of (is_minus before) w ≡ number.Value v long → CodeSpells inside before at w rest (shape.Number v long)
  a_character : {u : ℕ} {rest : List ℕ} → (u == 92) ≡ false → (u == 39 || is_line_end u) ≡ false
      → CodeSpells inside before at (39 ∷ u ∷ 39 ∷ []) rest (shape.CharLiteral u)
  an_escaped_character : {e rest : List ℕ} {u : ℕ} → Escape e u → CodeSpells inside before at (39 ∷ e ++ 39 ∷ []) rest (shape.CharLiteral u)
  a_string_open : {rest : List ℕ} → CodeSpells inside before at (34 ∷ []) rest shape.StringOpen
  a_hole_close : {rest : List ℕ} → inside ≡ Some bracket.Hole → CodeSpells inside before at (codes "}") rest shape.HoleClose
  -- the brace that ends the hole of a string is no operator
  an_operator : {w rest : List ℕ} {k : Operator} → Spelled w k operators → is_hole_end inside w ≡ false
      → CodeSpells inside before at w rest (shape.Op (read_behind k before))

-- Within a string: the spelling, with this behind it, is a token of this shape.
pub data StringSpells : List ℕ → List ℕ → Shape → Type 0 where
  a_string_close : {rest : List ℕ} → StringSpells (34 ∷ []) rest shape.StringClose
  a_hole_open : {rest : List ℕ} → StringSpells (codes "${") rest shape.HoleOpen
  -- the name is whole, as no front of a keyword is one
  a_string_name : {w rest : List ℕ} → IsName w → part_length rest ≡ 0 → StringSpells (36 ∷ w) rest shape.StringName
  a_string_text : {w rest : List ℕ} → IsText w rest → StringSpells w rest shape.StringText

abbrev pub Spells : Option Open → Lead → ℕ → List ℕ → List ℕ → Shape → Type 0
Spells (Some (bracket.Quote quote)) before at = StringSpells
Spells inside before at = CodeSpells inside before at

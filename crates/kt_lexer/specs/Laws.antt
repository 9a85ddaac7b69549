-- What holds of every cut.
use Rattle.std.specs.Prelude.{◌≡◌, ℕ, ◌+◌, ◌<◌, ◌≤◌, ◌==◌, ◌||◌, true, List, [], ◌∷◌, ◌++◌, length, drop, Some, ⊤, codes}
use Rattle.unicode.specs.GeneralCategory.{general_category}
use Rattle.kc_text.specs.NameList.{AllDifferent}
use Rattle.kt_lexer.specs.declared.token.Token.{Token}
use Rattle.kt_lexer.specs.declared.token.LexFault.{LexFault}
use Rattle.kt_lexer.specs.Characters.{is_front, is_blank, is_line_end, starts, continues, is_letter, is_decimal, part_length, word_length}
use Rattle.kt_lexer.specs.Comments.{line_length, close}
use Rattle.kt_lexer.specs.declared.token.Operator.{Operator}
use Rattle.kt_lexer.specs.Operators.{operator_of, of_three, assignments, other_pairs, signs, brackets}
use Rattle.kt_lexer.specs.Cut.{IsCut, HasFault, start_of}

-- a text has one cut at most
abbrev pub OneCut : Type 0
OneCut = (names : List (List ℕ)) (file : ℕ) (text : List ℕ) (ts us : List Token) → AllDifferent names → IsCut names file text ts → IsCut names file text us → ts ≡ us

-- no text has both a cut and a fault
abbrev pub CutOrFault : Type 0
CutOrFault = (names : List (List ℕ)) (file : ℕ) (text : List ℕ) (ts : List Token) (f : LexFault) → HasFault text f → IsCut names file text ts → ⊥

-- a text has one fault at most
abbrev pub OneFault : Type 0
OneFault = (text : List ℕ) (f g : LexFault) → HasFault text f → HasFault text g → f ≡ g

-- ---- the spellings of the tokens, with what is skipped between them, are the text

-- from one text to a rest of it there are white space, line ends and comments alone
pub data Skips : List ℕ → List ℕ → Type 0 where
  nothing : {text : List ℕ} → Skips text text
  white_space : {u : ℕ} {text rest : List ℕ} → is_blank u ≡ true → Skips text rest → Skips (u ∷ text) rest
  line_end : {u : ℕ} {text rest : List ℕ} → is_line_end u ≡ true → Skips text rest → Skips (u ∷ text) rest
  line_comment : {text rest : List ℕ} → is_front (codes "//") text ≡ true → Skips (drop (line_length text) text) rest → Skips text rest
  comment : {n : ℕ} {text rest : List ℕ}
      → is_front (codes "/*") text ≡ true → close 0 (drop 2 text) ≡ Some n → Skips (drop (n + 2) text) rest → Skips text rest

-- Between this unit and the end of the text there are units that are skipped, a token's spelling, and so on. A token's span is
-- that of its spelling, which has some units.
pub data Woven : ℕ → List ℕ → List Token → Type 0 where
  all_skipped : {at : ℕ} {text : List ℕ} → Skips text [] → Woven at text []
  a_token : {at : ℕ} {text : List ℕ} (skipped spelling rest : List ℕ) {t : Token} {ts : List Token}
      → text ≡ skipped ++ spelling ++ rest → Skips text (spelling ++ rest) → 1 ≤ length spelling
      → t.span.start ≡ at + length skipped → t.span.end ≡ t.span.start + length spelling
      → Woven t.span.end rest ts → Woven at text (t ∷ ts)

-- the spellings of a cut's tokens, with what is skipped between them, give the text back, but for a byte order mark that stands first
abbrev pub GivesBack : Type 0
GivesBack = (names : List (List ℕ)) (file : ℕ) (text : List ℕ) (ts : List Token) → IsCut names file text ts → Woven (start_of text) (drop (start_of text) text) ts

-- ---- below 128 the characters of identifiers are those of the categories Lu, Ll, Lt, Lm, Lo, Nl and Nd, and `_`

abbrev pub AsciiByCategory : Type 0
AsciiByCategory = (c : ℕ) → c < 128 → (starts c ≡ (is_letter (general_category c) || c == 95)) × (continues c ≡ (is_letter (general_category c) || c == 95 || is_decimal (general_category c)))

-- ---- each word and each operator is the longest possible

-- identifier characters, one after the other, that have so many units
pub data Run : List ℕ → ℕ → Type 0 where
  no_more : {text : List ℕ} → Run text 0
  one_more : {text : List ℕ} {k n : ℕ} → 1 ≤ k → part_length text ≡ k → Run (drop k text) n → Run text (k + n)

-- so many units are such a run, and no identifier character follows
pub record IsLongestRun (text : List ℕ) (n : ℕ) : Type 0 where
  pub run : Run text n
  pub ends : part_length (drop n text) ≡ 0

abbrev pub LongestWord : Type 0
LongestWord = (text : List ℕ) → IsLongestRun text (word_length text)

-- no spelling of the table that stands in front of the text is longer
abbrev pub NoLonger : List ℕ → ℕ → List (List ℕ × Operator) → Type 0
NoLonger text n [] = ⊤
NoLonger text n (e ∷ es) = (is_front e.0 text ≡ true → length e.0 ≤ n) × NoLonger text n es

abbrev pub LongestOperator : Type 0
LongestOperator = (text : List ℕ) (k : Operator) (n : ℕ)
    → operator_of text ≡ Some (k, n) → NoLonger text n (of_three ++ (assignments ++ (other_pairs ++ (signs ++ brackets))))

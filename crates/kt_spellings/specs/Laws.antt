-- What holds of the spellings of tokens.
use Rattle.std.specs.Prelude.{◌≡◌, ℕ, ◌<◌, ◌≤◌, ◌||◌, Bool, false, List, length, take, drop, Option, Some, codes}
use Rattle.kt_lexer.specs.declared.pieces.Shape.{Shape}
use Rattle.kt_lexer.specs.declared.pieces.Piece.TheVariants as piece
use Rattle.kt_lexer.specs.declared.pieces.Open.{Open}
use Rattle.kt_lexer.specs.declared.pieces.Open.TheVariants as bracket
use Rattle.kt_lexer.specs.declared.pieces.Lead.{Lead}
use Rattle.kt_lexer.specs.Characters.{is_front}
use Rattle.kt_lexer.specs.Pieces.{piece_of}
use Rattle.kt_spellings.specs.Spellings.{Spells}

-- a token is spelled by the units that it takes
abbrev pub TokenIsSpelled : Type 0
TokenIsSpelled = (inside : Option Open) (before : Lead) (at : ℕ) (text : List ℕ) (s : Shape) (n : ℕ)
    → piece_of inside before at text ≡ piece.Token s n → Spells inside before at (take n text) (drop n text) s

-- no more units than these in front of the text spell any token
abbrev pub NoLongerSpells : Option Open → Lead → ℕ → List ℕ → ℕ → Type 0
NoLongerSpells inside before at text n = (t : Shape) (m : ℕ) → n < m → m ≤ length text → Spells inside before at (take m text) (drop m text) t → ⊥

-- a token is the longest spelling in front
abbrev pub TokenIsLongest : Type 0
TokenIsLongest = (inside : Option Open) (before : Lead) (at : ℕ) (text : List ℕ) (s : Shape) (n : ℕ)
    → piece_of inside before at text ≡ piece.Token s n → NoLongerSpells inside before at text n

-- in front of the text stands a comment, which begins like an operator; within a string there is none
abbrev pub begins_comment : Option Open → List ℕ → Bool
begins_comment (Some (bracket.Quote quote)) text = false
begins_comment inside text = is_front (codes "//") text || is_front (codes "/*") text

-- where no comment begins, the longest spelling in front is the token, of that shape
abbrev pub SpelledIsToken : Type 0
SpelledIsToken = (inside : Option Open) (before : Lead) (at : ℕ) (text : List ℕ) (s : Shape) (n : ℕ)
    → begins_comment inside text ≡ false → n ≤ length text
    → Spells inside before at (take n text) (drop n text) s → NoLongerSpells inside before at text n
    → piece_of inside before at text ≡ piece.Token s n

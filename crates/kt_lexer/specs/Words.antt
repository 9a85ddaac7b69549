-- Keywords, and the names that are none.
use Rattle.std.specs.Prelude.{ℕ, Bool, ◌==◌, ◌&&◌, if◌then◌else◌, List, [], ◌∷◌, length, take, Option, Some, None, codes}
use Rattle.std.specs.Option.{is_none}
use Rattle.kt_lexer.specs.Characters.{is_front, starts_word, word_length}
use Rattle.kt_lexer.specs.declared.token.Keyword.{Keyword}
use Rattle.kt_lexer.specs.declared.token.Keyword.TheVariants as keyword

abbrev pub first_keywords : List (List ℕ × Keyword)
first_keywords =
    (codes "as", keyword.As) ∷ (codes "break", keyword.Break) ∷ (codes "class", keyword.Class)
    ∷ (codes "continue", keyword.Continue) ∷ (codes "do", keyword.Do) ∷ (codes "else", keyword.Else)
    ∷ (codes "false", keyword.False) ∷ (codes "for", keyword.For) ∷ (codes "fun", keyword.Fun)
    ∷ (codes "if", keyword.If) ∷ []

abbrev pub middle_keywords : List (List ℕ × Keyword)
middle_keywords =
    (codes "in", keyword.In) ∷ (codes "interface", keyword.Interface) ∷ (codes "is", keyword.Is)
    ∷ (codes "null", keyword.Null) ∷ (codes "object", keyword.Object) ∷ (codes "package", keyword.Package)
    ∷ (codes "return", keyword.Return) ∷ (codes "super", keyword.Super) ∷ (codes "this", keyword.This)
    ∷ (codes "throw", keyword.Throw) ∷ []

abbrev pub last_keywords : List (List ℕ × Keyword)
last_keywords =
    (codes "true", keyword.True) ∷ (codes "try", keyword.Try) ∷ (codes "typealias", keyword.Typealias)
    ∷ (codes "typeof", keyword.Typeof) ∷ (codes "val", keyword.Val) ∷ (codes "var", keyword.Var)
    ∷ (codes "when", keyword.When) ∷ (codes "while", keyword.While) ∷ []

abbrev pub is_spelled : List ℕ → List ℕ → Bool
is_spelled word letters = length word == length letters && is_front letters word

abbrev pub find_spelled : {K : Type 0} → List ℕ → List (List ℕ × K) → Option K
find_spelled word [] = None
find_spelled word (e ∷ es) = if is_spelled word e.0 then Some e.1 else find_spelled word es

-- the first, or else the second
abbrev pub option_or : {K : Type 0} → Option K → Option K → Option K
option_or (Some k) other = Some k
option_or None other = other

-- the keyword that a whole word is; all other words are names
abbrev pub keyword_of : List ℕ → Option Keyword
keyword_of word =
    option_or (find_spelled word first_keywords) (option_or (find_spelled word middle_keywords) (find_spelled word last_keywords))

-- the word in front
abbrev pub word_of : List ℕ → List ℕ
word_of text = take (word_length text) text

-- how many units the name in front has, 0 where no name stands there
abbrev pub name_length : List ℕ → ℕ
name_length text = if starts_word text && is_none (keyword_of (word_of text)) then word_length text else 0

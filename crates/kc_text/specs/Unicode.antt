-- Characters, which are Unicode scalar values, as UTF-8 bytes and as UTF-16 units.
-- A byte list is UTF-8 where it is the encoding of some characters: the shortest form of each, no surrogates, up to U+10FFFF
-- (RFC 3629; The Unicode Standard, tables 3-5 to 3-7).
use Rattle.std.specs.Prelude.{◌≡◌, ℕ, List, [], ◌∷◌, ◌++◌, true, map, unwrap_or}
pub use Rattle.std.specs.Char.{IsScalar}
pub use Rattle.std.specs.Str.{IsUtf8, IsValidUpTo, all_scalars, encode_utf8_all}
pub use Rattle.std.specs.Char.Escape.{encode_utf16}
pub use Rattle.std.specs.Char.Utf16.{utf16_chars}

-- the UTF-16 of these characters
abbrev pub encode_utf16_all : List ℕ → List ℕ
encode_utf16_all [] = []
encode_utf16_all (c ∷ cs) = encode_utf16 c ++ encode_utf16_all cs

-- some characters have these bytes as their UTF-8 and these units as their UTF-16
pub record IsTranscoded (bytes units : List ℕ) : Type 0 where
  pub characters : List ℕ
  pub scalars : all_scalars characters ≡ true
  pub in_utf8 : encode_utf8_all characters ≡ bytes
  pub in_utf16 : encode_utf16_all characters ≡ units

-- `?`
abbrev pub question_mark : ℕ
question_mark = 63

-- the characters that the units spell, with `?` for each surrogate without its partner
abbrev pub characters_of : List ℕ → List ℕ
characters_of units = map (λ c. unwrap_or c question_mark) (utf16_chars units)

-- the units do not begin with the UTF-16 of a character
abbrev pub StartsWithNoCharacter : List ℕ → Type 0
StartsWithNoCharacter units = (c : ℕ) (rest : List ℕ) → IsScalar c → units ≡ encode_utf16 c ++ rest → ⊥

-- the units stand for these characters: where a character's UTF-16 begins, for that character, and elsewhere one unit for `?`
pub data StandsFor : List ℕ → List ℕ → Type 0 where
  nothing : StandsFor [] []
  character : {c : ℕ} {units cs : List ℕ} → IsScalar c → StandsFor units cs → StandsFor (encode_utf16 c ++ units) (c ∷ cs)
  alone : {unit : ℕ} {units cs : List ℕ} → StartsWithNoCharacter (unit ∷ units) → StandsFor units cs → StandsFor (unit ∷ units) (question_mark ∷ cs)

-- the UTF-8 of these characters
abbrev pub utf8_of : List ℕ → List ℕ
utf8_of units = encode_utf8_all (characters_of units)

-- the units stand for these characters and no others
pub record IsReading (units characters : List ℕ) : Type 0 where
  pub stands : StandsFor units characters
  pub only : (others : List ℕ) → StandsFor units others → others ≡ characters

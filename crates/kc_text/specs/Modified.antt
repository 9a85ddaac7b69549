-- Texts as modified UTF-8, the encoding of texts in class files (JVM Specification SE 8, 4.4.7). Each UTF-16 unit is spelled by
-- itself, so a surrogate stands alone in three bytes, and no byte is 0.
use Rattle.std.specs.Prelude.{◌≡◌, ℕ, ◌+◌, ◌/◌, ◌%◌, ◌^◌, ◌<◌, List, [], ◌∷◌, ◌++◌, ◌&&◌, length, take, nat_lt, if◌then◌else◌}
use Rattle.std.specs.List.{All, flat_map}

-- the bytes of one unit: one byte from U+0001 to U+007F, two for U+0000 and from U+0080 to U+07FF, three for the others
abbrev pub modified_of_unit : ℕ → List ℕ
modified_of_unit unit =
    if nat_lt 0 unit && nat_lt unit 0x80
    then unit ∷ []
    else (if nat_lt unit 0x800
    then (0xC0 + unit / 0x40) ∷ (0x80 + unit % 0x40) ∷ []
    else (0xE0 + unit / 0x1000) ∷ (0x80 + unit / 0x40 % 0x40) ∷ (0x80 + unit % 0x40) ∷ [])

-- the bytes of a text
abbrev pub modified_of : List ℕ → List ℕ
modified_of units = flat_map modified_of_unit units

-- the list is one of UTF-16 units
abbrev pub AreUnits : List ℕ → Type 0
AreUnits units = All (λ unit. unit < 2 ^ 16) units

-- some text has these bytes
abbrev pub IsModified : List ℕ → Type 0
IsModified bytes = (units : List ℕ) × AreUnits units × (modified_of units ≡ bytes)

-- the first n bytes are the longest front of the bytes that is some text's, and more bytes follow
pub record IsModifiedUpTo (bytes : List ℕ) (n : ℕ) : Type 0 where
  pub short : n < length bytes
  pub front : IsModified (take n bytes)
  pub longest : (m : ℕ) → n < m → ¬ (IsModified (take m bytes))

-- no unit's bytes begin the bytes
abbrev pub StartsWithNoUnit : List ℕ → Type 0
StartsWithNoUnit bytes = (unit : ℕ) (rest : List ℕ) → unit < 2 ^ 16 → bytes ≡ modified_of_unit unit ++ rest → ⊥

-- the bytes do not begin with one whose high two bits are 10
abbrev pub StartsWithNoLowBits : List ℕ → Type 0
StartsWithNoLowBits bytes = (bits : ℕ) (rest : List ℕ) → bits < 0x40 → bytes ≡ (0x80 + bits) ∷ rest → ⊥

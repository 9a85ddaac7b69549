-- Units and characters of a text. A text is a list of UTF-16 units. A high surrogate with a low one behind it is one character,
-- a surrogate without its partner is none.
use Rattle.std.specs.Prelude.{ℕ, ◌+◌, ◌-◌, ◌*◌, ◌==◌, nat_le, Bool, true, false, ◌&&◌, ◌||◌, if◌then◌else◌, List, [], ◌∷◌, length, slice_index_or, Option, Some, None}
use Rattle.unicode.specs.GeneralCategory.{general_category}
use Rattle.ucd_category.specs.declared.GeneralCategory.{GeneralCategory}
use Rattle.ucd_category.specs.declared.GeneralCategory.TheVariants as category

-- the unit so many places on, or 0, which begins nothing, behind the end
abbrev pub unit_at : List ℕ → ℕ → ℕ
unit_at text n = slice_index_or text n 0

abbrev pub is_empty : List ℕ → Bool
is_empty text = length text == 0

-- the text begins with this spelling
abbrev pub is_front : List ℕ → List ℕ → Bool
is_front [] text = true
is_front (s ∷ spelling) [] = false
is_front (s ∷ spelling) (u ∷ text) = s == u && is_front spelling text

-- space, tab, form feed
abbrev pub is_blank : ℕ → Bool
is_blank u = u == 32 || u == 9 || u == 12

-- line feed, carriage return
abbrev pub is_line_end : ℕ → Bool
is_line_end u = u == 10 || u == 13

-- 0 to 9
abbrev pub is_digit : ℕ → Bool
is_digit u = nat_le 48 u && nat_le u 57

abbrev pub is_ascii_letter : ℕ → Bool
is_ascii_letter u = (nat_le 97 u && nat_le u 122) || (nat_le 65 u && nat_le u 90)

-- Lu, Ll, Lt, Lm, Lo, Nl
abbrev pub is_letter : GeneralCategory → Bool
is_letter category.UppercaseLetter = true
is_letter category.LowercaseLetter = true
is_letter category.TitlecaseLetter = true
is_letter category.ModifierLetter = true
is_letter category.OtherLetter = true
is_letter category.LetterNumber = true
is_letter _ = false

-- Nd
abbrev pub is_decimal : GeneralCategory → Bool
is_decimal category.DecimalNumber = true
is_decimal _ = false

-- A character begins an identifier: a letter or `_`. Below 128 the letters are A to Z and a to z.
abbrev pub starts : ℕ → Bool
starts c = if nat_le 128 c then is_letter (general_category c) else (is_ascii_letter c || c == 95)

-- a character goes on with an identifier: one that begins one, or a decimal digit
abbrev pub continues : ℕ → Bool
continues c = if nat_le 128 c then (is_letter (general_category c) || is_decimal (general_category c)) else (is_ascii_letter c || c == 95 || is_digit c)

abbrev pub is_high : ℕ → Bool
is_high u = nat_le 55296 u && nat_le u 56319

abbrev pub is_low : ℕ → Bool
is_low u = nat_le 56320 u && nat_le u 57343

abbrev pub is_surrogate : ℕ → Bool
is_surrogate u = nat_le 55296 u && nat_le u 57343

abbrev pub is_pair : ℕ → ℕ → Bool
is_pair u v = is_high u && is_low v

-- the character of a surrogate pair
abbrev pub pair_code : ℕ → ℕ → ℕ
pair_code u v = 65536 + (u - 55296) * 1024 + (v - 56320)

-- the character that the first of these two units begins, and how many units it has
abbrev pub character_of : ℕ → ℕ → Option (ℕ × ℕ)
character_of u v =
    if is_pair u v then Some (pair_code u v, 2) else
    if is_surrogate u then None else Some (u, 1)

abbrev pub length_if : (ℕ → Bool) → Option (ℕ × ℕ) → ℕ
length_if test None = 0
length_if test (Some p) = if test p.0 then p.1 else 0

-- how many of these two units are one character that passes the test: 0, 1 or 2
abbrev pub character_length : (ℕ → Bool) → ℕ → ℕ → ℕ
character_length test u v = length_if test (character_of u v)

-- how many units the identifier character in front has, 0 where none stands there
abbrev pub part_length : List ℕ → ℕ
part_length text = character_length continues (unit_at text 0) (unit_at text 1)

-- an identifier begins here
abbrev pub starts_word : List ℕ → Bool
starts_word text = nat_le 1 (character_length starts (unit_at text 0) (unit_at text 1))

-- how many units the longest run of identifier characters in front has
abbrev pub word_length : List ℕ → ℕ
word_length [] = 0
word_length (u ∷ []) = character_length continues u 0
word_length (u ∷ v ∷ text) =
    if is_pair u v then (if continues (pair_code u v) then 2 + word_length text else 0) else
    if is_surrogate u then 0 else
    if continues u then 1 + word_length (v ∷ text) else 0

-- What stands within quotes.
use Rattle.std.specs.Prelude.{ℕ, zero, suc, ◌+◌, ◌-◌, ◌*◌, ◌==◌, nat_le, nat_lt, Bool, ◌&&◌, ◌||◌, if◌then◌else◌, List, [], ◌∷◌, drop, Option, Some, None}
use Rattle.kt_lexer.specs.Characters.{unit_at, is_empty, is_line_end}
use Rattle.kt_lexer.specs.Words.{name_length}
use Rattle.kt_lexer.specs.Numbers.{digit_value}
use Rattle.kt_lexer.specs.declared.strings.Element.{Element}

-- one unit, and how many units spell it
abbrev pub element : ℕ → ℕ → Element
element unit count = record { unit = unit; length = count }

-- the unit that a letter behind `\` stands for
abbrev pub letter_escape : ℕ → Option ℕ
letter_escape u =
    if u == 116 then Some 9 else
    if u == 98 then Some 8 else
    if u == 110 then Some 10 else
    if u == 114 then Some 13 else
    if u == 39 then Some 39 else
    if u == 34 then Some 34 else
    if u == 92 then Some 92 else
    if u == 36 then Some 36 else None

-- four hexadecimal digits
abbrev pub is_hex : ℕ → Bool
is_hex u = nat_lt (digit_value u) 16

abbrev pub four_digits : ℕ → ℕ → ℕ → ℕ → ℕ
four_digits a b c d = digit_value a * 4096 + digit_value b * 256 + digit_value c * 16 + digit_value d

abbrev pub unit_escape : ℕ → ℕ → ℕ → ℕ → Option Element
unit_escape a b c d =
    if is_hex a && is_hex b && is_hex c && is_hex d then Some (element (four_digits a b c d) 6) else None

abbrev pub of_letter : Option ℕ → Option Element
of_letter (Some unit) = Some (element unit 2)
of_letter None = None

-- the escape that begins with the `\` in front
abbrev pub escape_of : List ℕ → Option Element
escape_of text =
    if unit_at text 1 == 117 then unit_escape (unit_at text 2) (unit_at text 3) (unit_at text 4) (unit_at text 5)
    else of_letter (letter_escape (unit_at text 1))

-- how many units the name behind the first unit has, 0 where none stands there
abbrev pub name_behind : List ℕ → ℕ
name_behind text = name_length (drop 1 text)

-- a `$` in front begins `${` or a name
abbrev pub begins_template : List ℕ → Bool
begins_template text = unit_at text 0 == 36 && (unit_at text 1 == 123 || nat_le 1 (name_behind text))

-- the unit of a string's text in front: an escape, or a unit that does not end the text
abbrev pub element_of : List ℕ → Option Element
element_of text =
    if is_empty text then None else
    if is_line_end (unit_at text 0) then None else
    if unit_at text 0 == 34 then None else
    if unit_at text 0 == 92 then escape_of text else
    if begins_template text then None else Some (element (unit_at text 0) 1)

abbrev pub and_further : Option Element → (ℕ → ℕ) → ℕ
and_further None further = 0
and_further (Some e) further = suc (further (e.length - 1))

-- How many units the longest text of a string in front has. The first `skipped` of them belong to the element before.
abbrev pub length_within : ℕ → List ℕ → ℕ
length_within skipped [] = 0
length_within zero (u ∷ text) = and_further (element_of (u ∷ text)) (λ k. length_within k text)
length_within (suc skipped) (u ∷ text) = suc (length_within skipped text)

abbrev pub text_length : List ℕ → ℕ
text_length text = length_within 0 text

abbrev pub with_further : Option Element → (ℕ → List ℕ) → List ℕ
with_further None further = []
with_further (Some e) further = e.unit ∷ further (e.length - 1)

-- the units that the longest text of a string in front stands for
abbrev pub units_within : ℕ → List ℕ → List ℕ
units_within skipped [] = []
units_within zero (u ∷ text) = with_further (element_of (u ∷ text)) (λ k. units_within k text)
units_within (suc skipped) (u ∷ text) = units_within skipped text

abbrev pub text_units : List ℕ → List ℕ
text_units text = units_within 0 text

-- Numbers. A number is a whole run of identifier characters, as all such characters that follow its first digit are part of it.
use Rattle.std.specs.Prelude.{ℕ, ◌+◌, ◌-◌, ◌*◌, ◌==◌, nat_le, nat_lt, Bool, not, ◌&&◌, ◌||◌, if◌then◌else◌, List, length, take, drop, fold, codes}
use Rattle.std.specs.List.{list_all}
use Rattle.kt_lexer.specs.Characters.{unit_at, is_digit, is_front}
use Rattle.kt_lexer.specs.declared.numbers.Number.{Number}
use Rattle.kt_lexer.specs.declared.numbers.Number.TheVariants as number

-- the value of a digit: 0 to 9, a to f, A to F; 16 of any other unit
abbrev pub digit_value : ℕ → ℕ
digit_value u =
    if is_digit u then u - 48 else
    if nat_le 97 u && nat_le u 102 then u - 87 else
    if nat_le 65 u && nat_le u 70 then u - 55 else 16

abbrev pub is_separator : ℕ → Bool
is_separator u = u == 95

-- digits of a base with any number of `_` between them
abbrev pub is_digit_of : ℕ → ℕ → Bool
is_digit_of base u = nat_lt (digit_value u) base

-- the last unit, or 0 of no unit
abbrev pub last_unit : List ℕ → ℕ
last_unit word = unit_at word (length word - 1)

abbrev pub is_digits : ℕ → List ℕ → Bool
is_digits base digits =
    is_digit_of base (unit_at digits 0) && is_digit_of base (last_unit digits)
    && list_all (λ u. is_digit_of base u || is_separator u) digits

abbrev pub one_more : ℕ → ℕ → ℕ → ℕ
one_more base value u = if is_separator u then value else value * base + digit_value u

-- what the digits are worth
abbrev pub digits_value : ℕ → List ℕ → ℕ
digits_value base digits = fold (one_more base) 0 digits

-- `L` stands last
abbrev pub is_long : List ℕ → Bool
is_long word = last_unit word == 76

abbrev pub without_suffix : List ℕ → List ℕ
without_suffix word = if is_long word then take (length word - 1) word else word

abbrev pub base_of : List ℕ → ℕ
base_of word = if is_front (codes "0x") word then 16 else if is_front (codes "0b") word then 2 else 10

abbrev pub digits_of : List ℕ → List ℕ
digits_of word = if base_of word == 10 then word else drop 2 word

-- a decimal number but 0 itself begins with another digit than 0
abbrev pub leads_with_zero : List ℕ → Bool
leads_with_zero word = unit_at word 0 == 48 && nat_le 2 (length word)

-- a number without its suffix
abbrev pub is_number : List ℕ → Bool
is_number word = is_digits (base_of word) (digits_of word) && not (base_of word == 10 && leads_with_zero word)

-- The greatest value that is taken: that of a `Long`, and one more for a decimal number behind a minus.
abbrev pub limit : ℕ → Bool → ℕ
limit base behind_minus = if base == 10 && behind_minus then 9223372036854775808 else 9223372036854775807

abbrev pub within_limit : ℕ → ℕ → Bool → Number
within_limit most value long = if nat_le value most then number.Value value long else number.TooWide

-- what a run of identifier characters that begins with a digit is
abbrev pub number_of : Bool → List ℕ → Number
number_of behind_minus word =
    let body = without_suffix word in
    if is_number body then within_limit (limit (base_of body) behind_minus) (digits_value (base_of body) (digits_of body)) (is_long word)
    else number.No

-- What the text of a file is cut into: white space, line ends and tokens, in order, each token the longest possible at its place.
-- These are the tokens of the form alone. A text with another one has no cut here, such as one with a quote, a comment, another operator
-- or keyword, a number with `_`, `L`, `0x` or `0b`, or a unit that is no ASCII.
use Rattle.std.specs.Prelude.{◌≡◌, ℕ, suc, ◌+◌, ◌-◌, ◌*◌, ◌==◌, nat_eq, nat_le, Bool, true, false, ◌&&◌, ◌||◌, if◌then◌else◌, List, [], ◌∷◌, length, drop, take_while, fold, Option, Some, None, codes}
use Rattle.std.specs.List.{list_any, list_all}
use Rattle.std.specs.Cmp.Lexicographic.{pointwise}
use Rattle.form_parser.specs.declared.tokens.TokenKind.{TokenKind}
use Rattle.form_parser.specs.declared.tokens.TokenKind.TheVariants as kind
use Rattle.form_parser.specs.declared.tokens.UnitClass.{UnitClass}
use Rattle.form_parser.specs.declared.tokens.UnitClass.TheVariants as class
use Rattle.form_parser.specs.declared.tokens.Sign.{Sign}
use Rattle.form_parser.specs.declared.tokens.Token.{Token}

-- 0 to 9
abbrev pub is_digit : ℕ → Bool
is_digit u = nat_le 48 u && nat_le u 57

-- a to z, A to Z, and _
abbrev pub is_letter : ℕ → Bool
is_letter u = (nat_le 97 u && nat_le u 122) || (nat_le 65 u && nat_le u 90) || u == 95

abbrev pub is_word_unit : ℕ → Bool
is_word_unit u = is_letter u || is_digit u

-- space, tab, form feed
abbrev pub is_blank : ℕ → Bool
is_blank u = u == 32 || u == 9 || u == 12

-- line feed, carriage return
abbrev pub is_line_end : ℕ → Bool
is_line_end u = u == 10 || u == 13

abbrev pub unit_class : ℕ → UnitClass
unit_class u =
    if is_blank u then class.Blank else
    if is_line_end u then class.LineEnd else
    if is_word_unit u then class.Word else class.Sign

-- the operators and brackets of one unit: ( ) { } ; = + - * / % < > !
abbrev pub single_kind : ℕ → Option TokenKind
single_kind u =
    if u == 40 then Some kind.OpenRound else
    if u == 41 then Some kind.CloseRound else
    if u == 123 then Some kind.OpenBrace else
    if u == 125 then Some kind.CloseBrace else
    if u == 59 then Some kind.Semicolon else
    if u == 61 then Some kind.Assign else
    if u == 43 then Some kind.Plus else
    if u == 45 then Some kind.Minus else
    if u == 42 then Some kind.Times else
    if u == 47 then Some kind.Divide else
    if u == 37 then Some kind.Remainder else
    if u == 60 then Some kind.Less else
    if u == 62 then Some kind.Greater else
    if u == 33 then Some kind.Not else None

-- == != <= >=, by the unit before the last =
abbrev pub with_equals : ℕ → Option TokenKind
with_equals u =
    if u == 61 then Some kind.Equal else
    if u == 33 then Some kind.NotEqual else
    if u == 60 then Some kind.LessEqual else
    if u == 62 then Some kind.GreaterEqual else None

-- the operators of two units: == != <= >= && ||
abbrev pub double_kind : ℕ → ℕ → Option TokenKind
double_kind u v =
    if v == 61 then with_equals u else
    if u == 38 && v == 38 then Some kind.And else
    if u == 124 && v == 124 then Some kind.Or else None

-- The two units begin an operator of the language that the form does not have, or a comment: *= %= += ++ -= -- -> /= // /* !!
abbrev pub is_foreign : ℕ → ℕ → Bool
is_foreign u v =
    if u == 42 || u == 37 then v == 61 else
    if u == 43 then v == 61 || v == 43 else
    if u == 45 then v == 61 || v == 45 || v == 62 else
    if u == 47 then v == 61 || v == 47 || v == 42 else
    if u == 33 then v == 33 else false

-- === and !==
abbrev pub is_identity : ℕ → ℕ → List ℕ → Bool
is_identity u v [] = false
is_identity u v (w ∷ _) = (u == 61 || u == 33) && v == 61 && w == 61

abbrev pub sized : Option TokenKind → ℕ → Option Sign
sized (Some k) n = Some (record { kind = k; length = n })
sized None n = None

-- the token of two units, and else that of the first one
abbrev pub or_single : ℕ → Option TokenKind → Option Sign
or_single u (Some k) = sized (Some k) 2
or_single u None = sized (single_kind u) 1

abbrev pub long_sign : ℕ → ℕ → List ℕ → Option Sign
long_sign u v rest = if is_foreign u v || is_identity u v rest then None else or_single u (double_kind u v)

-- The longest operator or bracket of the language at the front, where the form has it, and its length. (`!in` and `!is` have no
-- cut either, since `in` and `is` have none.)
abbrev pub sign_of : ℕ → List ℕ → Option Sign
sign_of u [] = sized (single_kind u) 1
sign_of u (v ∷ rest) = long_sign u v rest

-- the longest word at the front
abbrev pub word_of : List ℕ → List ℕ
word_of text = take_while is_word_unit text

abbrev pub is_spelled : List ℕ → List ℕ → Bool
is_spelled word letters = pointwise nat_eq word letters

-- the keywords that the form does not have
abbrev pub keywords : List (List ℕ)
keywords =
    codes "as" ∷ codes "break" ∷ codes "class" ∷ codes "continue" ∷ codes "do" ∷ codes "for" ∷ codes "in" ∷ codes "interface"
    ∷ codes "is" ∷ codes "null" ∷ codes "object" ∷ codes "package" ∷ codes "return" ∷ codes "super" ∷ codes "this"
    ∷ codes "throw" ∷ codes "try" ∷ codes "typealias" ∷ codes "typeof" ∷ codes "when" ∷ []

abbrev pub is_keyword : List ℕ → Bool
is_keyword word = list_any (is_spelled word) keywords

-- the words of the form, each a token of its own
abbrev pub reserved_kind : List ℕ → Option TokenKind
reserved_kind word =
    if is_spelled word (codes "fun") then Some kind.Fun else
    if is_spelled word (codes "main") then Some kind.Main else
    if is_spelled word (codes "println") then Some kind.Println else
    if is_spelled word (codes "val") then Some kind.Val else
    if is_spelled word (codes "var") then Some kind.Var else
    if is_spelled word (codes "if") then Some kind.If else
    if is_spelled word (codes "else") then Some kind.Else else
    if is_spelled word (codes "while") then Some kind.While else
    if is_spelled word (codes "true") then Some kind.True else
    if is_spelled word (codes "false") then Some kind.False else None

abbrev pub or_name : List ℕ → Option TokenKind → Option TokenKind
or_name word (Some k) = Some k
or_name word None = if is_keyword word then None else Some kind.Name

-- a word that begins with a letter
abbrev pub name_kind : List ℕ → Option TokenKind
name_kind word = or_name word (reserved_kind word)

-- the value of decimal digits
abbrev pub decimal : List ℕ → ℕ
decimal digits = fold (λ value digit. value * 10 + (digit - 48)) 0 digits

-- a zero before another digit
abbrev pub leads_with_zero : List ℕ → Bool
leads_with_zero [] = false
leads_with_zero (d ∷ []) = false
leads_with_zero (d ∷ _ ∷ _) = d == 48

-- A word that begins with a digit: a number, which no letter may follow.
abbrev pub number_kind : List ℕ → Option TokenKind
number_kind word =
    if leads_with_zero word then None else
    if list_all is_digit word && nat_le (decimal word) 2147483648 then Some (kind.Number (decimal word)) else None

abbrev pub word_kind : List ℕ → Option TokenKind
word_kind [] = None
word_kind (u ∷ us) = if is_digit u then number_kind (u ∷ us) else name_kind (u ∷ us)

-- the token of a kind from one place on, of this many units
abbrev pub token : TokenKind → Bool → ℕ → ℕ → Token
token k marked at count = record { kind = k; marked = marked; place = record { start = at; end = at + count } }

-- The text from a place on is cut into these tokens, in order. `marked` says that a line ends between the token before and this
-- place.
pub data Cut : (at : ℕ) → (marked : Bool) → (text : List ℕ) → List Token → Type 0 where
  the_end : {at : ℕ} {marked : Bool} → Cut at marked [] []
  blank : {at u : ℕ} {marked : Bool} {us : List ℕ} {ts : List Token}
      → unit_class u ≡ class.Blank → Cut (suc at) marked us ts → Cut at marked (u ∷ us) ts
  line_end : {at u : ℕ} {marked : Bool} {us : List ℕ} {ts : List Token}
      → unit_class u ≡ class.LineEnd → Cut (suc at) true us ts → Cut at marked (u ∷ us) ts
  word : {at u : ℕ} {marked : Bool} {us : List ℕ} {ts : List Token} {k : TokenKind}
      → unit_class u ≡ class.Word → word_kind (word_of (u ∷ us)) ≡ Some k
      → Cut (at + length (word_of (u ∷ us))) false (drop (length (word_of (u ∷ us))) (u ∷ us)) ts
      → Cut at marked (u ∷ us) (token k marked at (length (word_of (u ∷ us))) ∷ ts)
  sign : {at u : ℕ} {marked : Bool} {us : List ℕ} {ts : List Token} {s : Sign}
      → unit_class u ≡ class.Sign → sign_of u us ≡ Some s → Cut (at + s.length) false (drop s.length (u ∷ us)) ts
      → Cut at marked (u ∷ us) (token s.kind marked at s.length ∷ ts)

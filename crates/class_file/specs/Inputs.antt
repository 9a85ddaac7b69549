-- Reading bytes from left to right: numbers, declared lengths, counts, and texts in modified UTF-8.
use Rattle.std.specs.Prelude.{ℕ, zero, suc, ◌+◌, ◌-◌, ◌*◌, List, [], ◌∷◌, length, take, drop, Option, Some, None, Bool, not, ◌&&◌, ◌||◌, ◌==◌, nat_lt, if◌then◌else◌, Result, Ok, Err, ℤ}
use Rattle.std.specs.Int.{Width, w16, w32, byte_len, from_be_bytes, cast_signed}
use Rattle.class_file.specs.declared.format_fault.FormatFault.{FormatFault}
use Rattle.class_file.specs.declared.format_fault.FormatCode.{FormatCode}
use Rattle.class_file.specs.declared.format_fault.FormatCode.TheVariants.{Truncated, Trailing}

infixl 10 ◌>>=◌
abbrev pub ◌>>=◌ : {A B : Type 0} → Result A FormatFault → (A → Result B FormatFault) → Result B FormatFault
(Ok x) >>= f = f x
(Err e) >>= f = Err e

-- bytes that are still to be read, and the offset of the first of them
pub record Input : Type 0 where
  pub at : ℕ
  pub bytes : List ℕ

-- what was read, and what is left
pub record Read (A : Type 0) : Type 0 where
  pub value : A
  pub rest : Input

abbrev pub Reading : Type 0 → Type 0
Reading A = Result (Read A) FormatFault

abbrev pub read : {A : Type 0} → A → Input → Reading A
read x rest = Ok (record { value = x; rest = rest })

abbrev pub fault : {A : Type 0} → FormatCode → ℕ → Result A FormatFault
fault code at = Err (record { at = at; code = code })

abbrev pub refused : {A : Type 0} → ℕ → Option FormatCode → Result A FormatFault → Result A FormatFault
refused at None go = go
refused at (Some code) go = fault code at

abbrev pub behind : ℕ → Input → Input
behind n i = record { at = i.at + n; bytes = drop n i.bytes }

abbrev pub bytes_at : ℕ → Input → Reading (List ℕ)
bytes_at n i = if nat_lt (length i.bytes) n then fault Truncated i.at else read (take n i.bytes) (behind n i)

abbrev pub number_at : Width → Input → Reading ℕ
number_at w i = if nat_lt (length i.bytes) (byte_len w) then fault Truncated i.at else read (from_be_bytes w (take (byte_len w) i.bytes)) (behind (byte_len w) i)

abbrev pub signed_at : Width → Input → Reading ℤ
signed_at w i = do
  n ← number_at w i
  read (cast_signed w n.value) n.rest

-- a number that can only be one
abbrev pub expected : Width → ℕ → FormatCode → Input → Result Input FormatFault
expected w wanted code i = do
  n ← number_at w i
  if n.value == wanted then Ok n.rest else fault code i.at

-- a part of a declared length: its contents end with it
abbrev pub whole : {A : Type 0} → Input → Reading A → Reading A
whole rest (Err f) = Err f
whole rest (Ok x) = if length x.rest.bytes == 0 then read x.value rest else fault Trailing x.rest.at

unfoldable pub window : {A : Type 0} → ℕ → (Input → Reading A) → Input → Reading A
window n inside i = do
  b ← bytes_at n i
  whole b.rest (inside (record { at = i.at; bytes = b.value }))

unfoldable pub sized : {A : Type 0} → (Input → Reading A) → Input → Reading A
sized inside i = do
  n ← number_at w32 i
  window n.value inside n.rest

-- so many things of one kind
unfoldable pub each : {A : Type 0} → (Input → Reading A) → ℕ → Input → Reading (List A)
each one zero i = read [] i
each one (suc n) i = do
  first ← one i
  others ← each one n first.rest
  read (first.value ∷ others.value) others.rest

unfoldable pub table : {A : Type 0} → (Input → Reading A) → Input → Reading (List A)
table one i = do
  n ← number_at w16 i
  each one n.value n.rest

-- ---- modified UTF-8 (4.4.7)

abbrev is_low : ℕ → Bool
is_low c = not (nat_lt c 0x80) && nat_lt c 0xC0

abbrev is_one : ℕ → Bool
is_one b = nat_lt 0 b && nat_lt b 0x80

abbrev in_two : ℕ → ℕ → ℕ
in_two b c = (b - 0xC0) * 0x40 + (c - 0x80)

abbrev is_two : ℕ → ℕ → Bool
is_two b c = not (nat_lt b 0xC0) && nat_lt b 0xE0 && is_low c && (in_two b c == 0 || not (nat_lt (in_two b c) 0x80))

abbrev in_three : ℕ → ℕ → ℕ → ℕ
in_three b c d = (b - 0xE0) * 0x1000 + (c - 0x80) * 0x40 + (d - 0x80)

abbrev is_three : ℕ → ℕ → ℕ → Bool
is_three b c d = not (nat_lt b 0xE0) && nat_lt b 0xF0 && is_low c && is_low d && not (nat_lt (in_three b c d) 0x800)

abbrev put : ℕ → Option (List ℕ) → Option (List ℕ)
put u None = None
put u (Some us) = Some (u ∷ us)

-- the text of which the bytes are the modified UTF-8, if there is one
unfoldable pub text_of_modified : List ℕ → Option (List ℕ)
text_of_modified [] = Some []
text_of_modified (b ∷ []) = if is_one b then Some (b ∷ []) else None
text_of_modified (b ∷ c ∷ []) =
    if is_one b then put b (text_of_modified (c ∷ [])) else (if is_two b c then Some (in_two b c ∷ []) else None)
text_of_modified (b ∷ c ∷ d ∷ bs) =
    if is_one b then put b (text_of_modified (c ∷ d ∷ bs))
    else (if is_two b c then put (in_two b c) (text_of_modified (d ∷ bs))
    else (if is_three b c d then put (in_three b c d) (text_of_modified bs) else None))

-- Characters to UTF-16 and back.
use Rattle.std.proofs.Common.{arith, ◌≡◌, ℕ, ◌+◌, ◌-◌, ◌/◌, ◌%◌, ◌<◌, ◌≤◌, Bool, true, false, ◌&&◌, List, [], ◌∷◌, ◌++◌, Some, refl, sym, ap, ◌∙◌, append_assoc, append-nil, inl, inr, true≢false}
use Rattle.std.proofs.lemmas.Str.{utf16_chars-nil, utf16_chars_lone, utf16_chars_pair, encodes_same, encode_ascii}
use Rattle.std.proofs.lemmas.Bool.{cases_lt, ltb-true}
use Rattle.std.proofs.Math.Utf8.{scalar_cases}
use Rattle.std.proofs.str.Utf16.{IsPair, one_unit, two_units, lone_unit_char_low, lone_unit_char_high}
use Rattle.std.specs.Char.{IsScalar, is_ascii}
use Rattle.std.specs.List.{list_all}
use Rattle.std.specs.Char.Utf16.{lone_unit_char, surrogate_pair_char}
use Rattle.kc_text.specs.Unicode.{encode_utf16, encode_utf16_all, encode_utf8_all, all_scalars, utf16_chars, characters_of, utf8_of, IsTranscoded}

-- one character more
pub encode_utf16_all-push : (cs : List ℕ) (c : ℕ) → encode_utf16_all (cs ++ c ∷ []) ≡ encode_utf16_all cs ++ encode_utf16 c
encode_utf16_all-push [] c = append-nil (encode_utf16 c)
encode_utf16_all-push (d ∷ cs) c = ap (λ us. encode_utf16 d ++ us) (encode_utf16_all-push cs c) ∙ sym (append_assoc (encode_utf16 d) (encode_utf16_all cs) (encode_utf16 c))

both : (a b : Bool) → (a && b) ≡ true → (a ≡ true) × (b ≡ true)
both true b e = (refl, e)
both false b e = absurd (true≢false (sym e))

-- a character in one unit, and in two, is read back
lone_unit : (c : ℕ) → IsScalar c → c < 0x1_0000 → lone_unit_char c ≡ Some c
lone_unit c is below = elim (scalar_cases c is) [ inl low ↦ lone_unit_char_low c low | inr high ↦ lone_unit_char_high c high.0 ]

no_pair : (c v : ℕ) → IsScalar c → ¬ (IsPair c v)
no_pair c v is pair = elim (scalar_cases c is) [ inl low ↦ omega arith | inr high ↦ omega arith ]

pub utf16_chars-encode_utf16 : (c : ℕ) (us : List ℕ) → IsScalar c → utf16_chars (encode_utf16 c ++ us) ≡ Some c ∷ utf16_chars us
utf16_chars-encode_utf16 c us is = elim (cases_lt c 0x1_0000) [
  | inl below ↦ rw (one_unit c below) (utf16_chars_lone c us (no_pair c _ is) ∙ ap (λ o. o ∷ utf16_chars us) (lone_unit c is below))
  | inr above ↦ rw (two_units c above) (above_pair c us is above)
]
  where
    above_pair : (c : ℕ) (us : List ℕ) → IsScalar c → 0x1_0000 ≤ c → utf16_chars ((0xD800 + (c - 0x1_0000) / 0x400) ∷ (0xDC00 + (c - 0x1_0000) % 0x400) ∷ us) ≡ Some c ∷ utf16_chars us
    above_pair c us is above =
        let top : c < 0x11_0000 = elim (scalar_cases c is) [ inl low ↦ omega arith | inr high ↦ high.1 ] in
        let value : surrogate_pair_char (0xD800 + (c - 0x1_0000) / 0x400) (0xDC00 + (c - 0x1_0000) % 0x400) ≡ c = omega arith in
        utf16_chars_pair _ _ us (omega arith, omega arith, omega arith, omega arith) ∙ ap (λ d. Some d ∷ utf16_chars us) value

-- the UTF-16 of characters spells these characters
pub characters_of-encode_utf16_all : (cs : List ℕ) → all_scalars cs ≡ true → characters_of (encode_utf16_all cs) ≡ cs
characters_of-encode_utf16_all [] all = rw utf16_chars-nil
characters_of-encode_utf16_all (c ∷ cs) all =
    let parts = both _ _ all in
    rw (utf16_chars-encode_utf16 c (encode_utf16_all cs) parts.0) (ap (λ ds. c ∷ ds) (characters_of-encode_utf16_all cs parts.1))

-- so the UTF-8 of a text that stands for some bytes is these bytes
pub utf8_of-IsTranscoded : {bytes units : List ℕ} → IsTranscoded bytes units → utf8_of units ≡ bytes
utf8_of-IsTranscoded t = rw (← t.in_utf16) (ap encode_utf8_all (characters_of-encode_utf16_all t.characters t.scalars) ∙ t.in_utf8)

-- bytes determine the units
pub units-IsTranscoded : {bytes units other : List ℕ} → IsTranscoded bytes units → IsTranscoded bytes other → units ≡ other
units-IsTranscoded t s =
    sym t.in_utf16 ∙ ap encode_utf16_all (encodes_same t.characters s.characters (t.in_utf8 ∙ sym s.in_utf8)) ∙ s.in_utf16

-- ASCII has as many units as bytes, of the same values
ascii_units : (bs : List ℕ) → list_all is_ascii bs ≡ true → encode_utf16_all bs ≡ bs
ascii_units [] all = refl
ascii_units (b ∷ bs) all =
    let parts = both _ _ all in
    let below : b < 128 = ltb-true b 128 parts.0 in
    rw (one_unit b (omega arith)) (ap (λ cs. b ∷ cs) (ascii_units bs parts.1))

ascii_bytes : (bs : List ℕ) → list_all is_ascii bs ≡ true → encode_utf8_all bs ≡ bs
ascii_bytes [] all = refl
ascii_bytes (b ∷ bs) all =
    let parts = both _ _ all in
    rw (encode_ascii b (ltb-true b 128 parts.0)) (ap (λ cs. b ∷ cs) (ascii_bytes bs parts.1))

pub IsTranscoded-ascii : {bytes units : List ℕ} → list_all is_ascii bytes ≡ true → IsTranscoded bytes units → units ≡ bytes
IsTranscoded-ascii {bytes = bytes} all t =
    sym t.in_utf16 ∙ ap encode_utf16_all (encodes_same t.characters bytes (t.in_utf8 ∙ sym (ascii_bytes bytes all))) ∙ ascii_units bytes all

-- The characters that units stand for, by the encoding of characters alone.
use Rattle.std.proofs.Common.{arith, ◌≡◌, ℕ, suc, ◌+◌, ◌-◌, ◌/◌, ◌%◌, ◌*◌, ◌^◌, ◌<◌, ◌≤◌, List, [], ◌∷◌, ◌++◌, get_or, unwrap_or, sym, ap, subst, ◌∙◌, inl, inr, ◌⊎◌, Bool, true, false, ◌&&◌, refl, ap₂, length, drop, true≢false}
use Rattle.std.proofs.lemmas.Bool.{cases_lt}
use Rattle.std.proofs.lemmas.Bool.Decides.{nat_tests}
use Rattle.std.proofs.lemmas.Str.{utf16_chars-nil, utf16_chars_lone, utf16_chars_pair}
use Rattle.std.proofs.Math.Seq.{drop-append_seam}
use Rattle.std.proofs.Math.Utf8.{scalar, scalar_cases, low_scalar}
use Rattle.std.proofs.str.Utf16.{IsPair, one_unit, two_units, pair_units, lone_unit_char_low, lone_unit_char_high, lone_unit_char_surrogate}
use Rattle.std.specs.List.{All}
use Rattle.std.specs.Char.Utf16.{lone_unit_char, surrogate_pair_char}
use Rattle.kc_text.proofs.Transcoding.{utf16_chars-encode_utf16}
use Rattle.kc_text.specs.Unicode.{IsReading, IsScalar, IsUtf8, all_scalars, utf8_of, encode_utf16, characters_of, question_mark, StartsWithNoCharacter, StandsFor, nothing, character, alone, utf16_chars}

high_scalar : (c : ℕ) → 0xE000 ≤ c → c < 0x11_0000 → IsScalar c
high_scalar c from below = grind (arith, nat_tests)

-- a character in one unit
one : {u : ℕ} {us cs : List ℕ} → u < 0x1_0000 → IsScalar u → StandsFor us cs → StandsFor (u ∷ us) (u ∷ cs)
one {u = u} {us = us} {cs = cs} below is rest = subst (λ units. StandsFor (units ++ us) (u ∷ cs)) (one_unit u below) (character is rest)

-- a surrogate in no pair begins no character
lone_surrogate : (u : ℕ) (us : List ℕ) → 0xD800 ≤ u → u < 0xE000 → ¬ (IsPair u (get_or us 0 0)) → StartsWithNoCharacter (u ∷ us)
lone_surrogate u us from below apart c rest is e = elim (cases_lt c 0x1_0000) [
  | inl small ↦
      let same : u ≡ c = ap (λ l. get_or l 0 0) (e ∙ ap (λ l. l ++ rest) (one_unit c small)) in
      elim (scalar_cases c is) as (λ _. ⊥) [ inl low ↦ omega arith | inr high ↦ omega arith ]
  | inr large ↦
      let both = e ∙ ap (λ l. l ++ rest) (two_units c large) in
      let first : u ≡ 0xD800 + (c - 0x1_0000) / 0x400 = ap (λ l. get_or l 0 0) both in
      let second : get_or us 0 0 ≡ 0xDC00 + (c - 0x1_0000) % 0x400 = ap (λ l. get_or l 1 0) both in
      let top : c < 0x11_0000 = elim (scalar_cases c is) [ inl low ↦ omega arith | inr high ↦ high.1 ] in
      apart (omega arith, omega arith, omega arith, omega arith)
]

-- one unit in no pair
lone : (u : ℕ) (us cs : List ℕ) → u < 0x1_0000 → ¬ (IsPair u (get_or us 0 0)) → StandsFor us cs → StandsFor (u ∷ us) (unwrap_or (lone_unit_char u) question_mark ∷ cs)
lone u us cs fits apart rest = elim (cases_lt u 0xD800) [
  | inl low ↦ rw (lone_unit_char_low u low) (one fits (low_scalar u low) rest)
  | inr from ↦ elim (cases_lt u 0xE000) [
    | inl below ↦ rw (lone_unit_char_surrogate u from below) (alone (lone_surrogate u us from below apart) rest)
    | inr high ↦ rw (lone_unit_char_high u high) (one fits (high_scalar u high (omega arith)) rest)
  ]
]

-- two units that are a pair
pair : (u v : ℕ) (us cs : List ℕ) → IsPair u v → StandsFor us cs → StandsFor (u ∷ v ∷ us) (surrogate_pair_char u v ∷ cs)
pair u v us cs p rest =
    let c = surrogate_pair_char u v in
    let code : 0x1_0000 + ((u - 0xD800) * 0x400 + (v - 0xDC00)) ≡ c = omega arith in
    let units : encode_utf16 c ≡ u ∷ v ∷ [] = ap encode_utf16 (sym code) ∙ pair_units u v p.0 p.2 p.3 in
    subst (λ l. StandsFor (l ++ us) (c ∷ cs)) units (character (high_scalar c (omega arith) (omega arith)) rest)

-- whether two units are a pair
pair_or : (u v : ℕ) → IsPair u v ⊎ ¬ (IsPair u v)
pair_or u v = elim (cases_lt u 0xD800) [
  | inl low ↦ inr (λ p. omega arith)
  | inr a ↦ elim (cases_lt u 0xDC00) [
    | inr high ↦ inr (λ p. omega arith)
    | inl b ↦ elim (cases_lt v 0xDC00) [
      | inl low ↦ inr (λ p. omega arith)
      | inr d ↦ elim (cases_lt v 0xE000) [ inl e ↦ inl (a, b, d, e) | inr high ↦ inr (λ p. omega arith) ]
    ]
  ]
]

rest_of : (u : ℕ) (us : List ℕ) → All (λ v. v < 2 ^ 16) (u ∷ us) → All (λ v. v < 2 ^ 16) us
rest_of u us all k d within = all (suc k) d (omega arith)

-- units of 16 bits stand for the characters that they spell
StandsFor-characters_of : (us : List ℕ) → All (λ u. u < 2 ^ 16) us → StandsFor us (characters_of us)
StandsFor-characters_of [] fits = rw utf16_chars-nil nothing
StandsFor-characters_of (u ∷ []) fits =
    let apart : ¬ (IsPair u 0) = λ p. omega arith in
    rw (utf16_chars_lone u [] apart) (lone u [] _ (fits 0 0 (omega arith)) apart (rw utf16_chars-nil nothing))
StandsFor-characters_of (u ∷ v ∷ us) fits = elim (pair_or u v) [
  | inl p ↦ rw (utf16_chars_pair u v us p) (pair u v us _ p (StandsFor-characters_of us (rest_of v us (rest_of u (v ∷ us) fits))))
  | inr apart ↦ rw (utf16_chars_lone u (v ∷ us) apart) (lone u (v ∷ us) _ (fits 0 0 (omega arith)) apart (StandsFor-characters_of (v ∷ us) (rest_of u (v ∷ us) fits)))
]

-- what the units stand for are characters
joined : (a b : Bool) → a ≡ true → b ≡ true → (a && b) ≡ true
joined true b p q = q
joined false b p q = absurd (true≢false (sym p))

pub all_scalars-StandsFor : {us cs : List ℕ} → StandsFor us cs → all_scalars cs ≡ true
all_scalars-StandsFor nothing = refl
all_scalars-StandsFor (character {c = c} {cs = cs} is rest) = joined (scalar c) (all_scalars cs) is (all_scalars-StandsFor rest)
all_scalars-StandsFor (alone none rest) = all_scalars-StandsFor rest

-- and they are the only ones
some_unit : (c : ℕ) (us : List ℕ) → [] ≡ encode_utf16 c ++ us → ⊥
some_unit c us e = elim (cases_lt c 0x1_0000) as (λ _. ⊥) [
  | inl small ↦ let f = e ∙ ap (λ l. l ++ us) (one_unit c small) in cc
  | inr large ↦ let f = e ∙ ap (λ l. l ++ us) (two_units c large) in cc
]

module _ (c d : ℕ) (us vs : List ℕ) (is : IsScalar c) (was : IsScalar d) (e : encode_utf16 c ++ us ≡ encode_utf16 d ++ vs) where
  same_character : c ≡ d
  same_character = let f = sym (utf16_chars-encode_utf16 c us is) ∙ ap utf16_chars e ∙ utf16_chars-encode_utf16 d vs was in cc

  same_rest : us ≡ vs
  same_rest =
      let f : encode_utf16 c ++ us ≡ encode_utf16 c ++ vs = e ∙ ap (λ x. encode_utf16 x ++ vs) (sym same_character) in
      sym (drop-append_seam (encode_utf16 c) us) ∙ ap (drop (length (encode_utf16 c))) f ∙ drop-append_seam (encode_utf16 c) vs

one_reading : {us vs cs ds : List ℕ} → us ≡ vs → StandsFor us cs → StandsFor vs ds → cs ≡ ds
one_reading e nothing nothing = refl
one_reading e nothing (character {c = d} {units = vs} was s) = absurd (some_unit d vs e)
one_reading e nothing (alone none s) = absurd (cc)
one_reading e (character {c = c} {units = us} is r) nothing = absurd (some_unit c us (sym e))
one_reading e (character {c = c} {units = us} is r) (character {c = d} {units = vs} was s) =
    ap₂ (λ x xs. x ∷ xs) (same_character c d us vs is was e) (one_reading (same_rest c d us vs is was e) r s)
one_reading e (character {c = c} {units = us} is r) (alone none s) = absurd (none c us is (sym e))
one_reading e (alone none r) nothing = absurd (cc)
one_reading e (alone none r) (character {c = d} {units = vs} was s) = absurd (none d vs was e)
one_reading e (alone none r) (alone nor s) = ap (λ cs. question_mark ∷ cs) (one_reading (tail_same e) r s)
  where
    tail_same : {u v : ℕ} {us vs : List ℕ} → u ∷ us ≡ v ∷ vs → us ≡ vs
    tail_same f = cc

pub IsReading-characters_of : (us : List ℕ) → All (λ u. u < 2 ^ 16) us → IsReading us (characters_of us)
IsReading-characters_of us fits =
    let stands = StandsFor-characters_of us fits in record { stands = stands; only = λ others other. one_reading refl other stands }

pub IsUtf8-utf8_of : {us : List ℕ} → IsReading us (characters_of us) → IsUtf8 (utf8_of us)
IsUtf8-utf8_of {us = us} r = (characters_of us, (all_scalars-StandsFor r.stands, refl))

-- Modified UTF-8: the bytes of a text are read as that text.
use Rattle.std.proofs.Common.{◌≡◌, ℕ, ◌+◌, ◌-◌, ◌*◌, ◌/◌, ◌%◌, ◌^◌, ◌<◌, ◌≤◌, true, ltb, eqb, List, [], ◌∷◌, ◌++◌, Some, refl, sym, ap, subst, ◌∙◌, arith, inl, inr}
use Rattle.std.specs.Prelude.{◌||◌, not}
use Rattle.std.proofs.lemmas.Bool.{cases_lt, le-ltb, lt-ltb, ne_eqb}
use Rattle.std.proofs.lemmas.List.Elements.{All-head, All-tail}
use Rattle.kc_text.specs.Modified.{modified_of, modified_of_unit, AreUnits}
use Rattle.class_file.specs.Inputs.{text_of_modified}

one_again : (u : ℕ) (bytes us : List ℕ) → 0 < u → u < 0x80 → text_of_modified bytes ≡ Some us → text_of_modified (u ∷ bytes) ≡ Some (u ∷ us)
unfolding text_of_modified
one_again u [] us some low e = rw (lt-ltb 0 u some, lt-ltb u 0x80 low) cc
one_again u (c ∷ []) us some low e = rw (lt-ltb 0 u some, lt-ltb u 0x80 low, e) refl
one_again u (c ∷ d ∷ bytes) us some low e = rw (lt-ltb 0 u some, lt-ltb u 0x80 low, e) refl

two_again : (u b c : ℕ) (bytes us : List ℕ) → 0xC0 ≤ b → b < 0xE0 → 0x80 ≤ c → c < 0xC0 → (b - 0xC0) * 0x40 + (c - 0x80) ≡ u → (eqb u 0 || not (ltb u 0x80)) ≡ true → text_of_modified bytes ≡ Some us → text_of_modified (b ∷ c ∷ bytes) ≡ Some (u ∷ us)
unfolding text_of_modified
two_again u b c [] us h i j k is fits e = rw (lt-ltb 0 b (omega arith), le-ltb b 0x80 (omega arith), le-ltb b 0xC0 h, lt-ltb b 0xE0 i, le-ltb c 0x80 j, lt-ltb c 0xC0 k, is, fits) cc
two_again u b c (d ∷ bytes) us h i j k is fits e = rw (lt-ltb 0 b (omega arith), le-ltb b 0x80 (omega arith), le-ltb b 0xC0 h, lt-ltb b 0xE0 i, le-ltb c 0x80 j, lt-ltb c 0xC0 k, is, fits, e) refl

three_again : (u b c d : ℕ) (bytes us : List ℕ) → 0xE0 ≤ b → b < 0xF0 → 0x80 ≤ c → c < 0xC0 → 0x80 ≤ d → d < 0xC0 → (b - 0xE0) * 0x1000 + (c - 0x80) * 0x40 + (d - 0x80) ≡ u → 0x800 ≤ u → text_of_modified bytes ≡ Some us → text_of_modified (b ∷ c ∷ d ∷ bytes) ≡ Some (u ∷ us)
unfolding text_of_modified
three_again u b c d bytes us h i j k l m is fits e = rw (lt-ltb 0 b (omega arith), le-ltb b 0x80 (omega arith), le-ltb b 0xC0 (omega arith), le-ltb b 0xE0 h, lt-ltb b 0xF0 i, le-ltb c 0x80 j, lt-ltb c 0xC0 k, le-ltb d 0x80 l, lt-ltb d 0xC0 m, is, le-ltb u 0x800 fits, e) refl

pub one_byte : (u : ℕ) → 0 < u → u < 0x80 → modified_of_unit u ≡ u ∷ []
one_byte u some low = rw (lt-ltb 0 u some, lt-ltb u 0x80 low) refl

pub two_bytes : (u : ℕ) → 0x80 ≤ u → u < 0x800 → modified_of_unit u ≡ (0xC0 + u / 0x40) ∷ (0x80 + u % 0x40) ∷ []
two_bytes u high low = rw (lt-ltb 0 u (omega arith), le-ltb u 0x80 high, lt-ltb u 0x800 low) refl

pub three_bytes : (u : ℕ) → 0x800 ≤ u → modified_of_unit u ≡ (0xE0 + u / 0x1000) ∷ (0x80 + u / 0x40 % 0x40) ∷ (0x80 + u % 0x40) ∷ []
three_bytes u high = rw (lt-ltb 0 u (omega arith), le-ltb u 0x80 (omega arith), le-ltb u 0x800 high) refl

high_fits : (u : ℕ) → 0x80 ≤ u → (eqb u 0 || not (ltb u 0x80)) ≡ true
high_fits u high = rw (ne_eqb u 0 (λ e. omega arith), le-ltb u 0x80 high) refl

-- a unit's bytes in front
unit_again : (u : ℕ) (bytes us : List ℕ) → u < 2 ^ 16 → text_of_modified bytes ≡ Some us → text_of_modified (modified_of_unit u ++ bytes) ≡ Some (u ∷ us)
unit_again u bytes us small e = elim (cases_lt u 0x80) [
  | inl low ↦ elim (cases_lt 0 u) [
    | inl some ↦ ap (λ (w : List ℕ). text_of_modified (w ++ bytes)) (one_byte u some low) ∙ one_again u bytes us some low e
    | inr none ↦ let is : u ≡ 0 = omega arith in subst (λ (v : ℕ). text_of_modified (modified_of_unit v ++ bytes) ≡ Some (v ∷ us)) (sym is) (two_again 0 0xC0 0x80 bytes us (omega arith) (omega arith) (omega arith) (omega arith) refl refl e)
  ]
  | inr high ↦ elim (cases_lt u 0x800) [
    | inl low ↦ ap (λ (w : List ℕ). text_of_modified (w ++ bytes)) (two_bytes u high low) ∙ two_again u (0xC0 + u / 0x40) (0x80 + u % 0x40) bytes us (omega arith) (omega arith) (omega arith) (omega arith) (omega arith) (high_fits u high) e
    | inr more ↦ ap (λ (w : List ℕ). text_of_modified (w ++ bytes)) (three_bytes u more) ∙ three_again u (0xE0 + u / 0x1000) (0x80 + u / 0x40 % 0x40) (0x80 + u % 0x40) bytes us (omega arith) (omega arith) (omega arith) (omega arith) (omega arith) (omega arith) (omega arith) more e
  ]
]

pub text_again : (text : List ℕ) → AreUnits text → text_of_modified (modified_of text) ≡ Some text
unfolding text_of_modified
text_again [] all = refl
text_again (u ∷ us) all = unit_again u (modified_of us) us (All-head (λ (u : ℕ). u < 2 ^ 16) u us all) (text_again us (All-tail (λ (u : ℕ). u < 2 ^ 16) u us all))

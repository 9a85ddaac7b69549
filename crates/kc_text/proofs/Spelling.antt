-- The bytes of units, and what they begin.
use Rattle.std.proofs.Common.{arith, ◌≡◌, ℕ, ◌+◌, ◌-◌, ◌/◌, ◌%◌, ◌^◌, ◌<◌, ◌≤◌, List, [], ◌∷◌, ◌++◌, length, take, drop, refl, sym, ap, ◌∙◌, inl, inr, append_assoc, append-nil, length-append, length-take, ap₂, get_or, min}
use Rattle.std.proofs.lemmas.Bool.{cases_lt, lt-ltb, le-ltb}
use Rattle.std.proofs.lemmas.List.{take-append-drop}
use Rattle.std.proofs.lemmas.Grind.{flat_map-append}
use Rattle.std.proofs.lemmas.List.Elements.{All-head, All-tail, All-from_get_or}
use Rattle.std.proofs.Math.Seq.{take-append_seam}
use Rattle.kc_text.specs.Modified.{modified_of_unit, modified_of, AreUnits, IsModified, IsModifiedUpTo, StartsWithNoUnit}

-- the three forms
data Form (u : ℕ) : Type 0 where
  one : 0 < u → u < 0x80 → Form u
  zero_in_two : u ≡ 0 → Form u
  two : 0x80 ≤ u → u < 0x800 → Form u
  three : 0x800 ≤ u → Form u

form_of : (u : ℕ) → Form u
form_of u = elim (cases_lt u 0x80) [
  | inl low ↦ elim (cases_lt 0 u) [ inl some ↦ one some low | inr none ↦ zero_in_two (omega arith) ]
  | inr high ↦ elim (cases_lt u 0x800) [ inl low ↦ two high low | inr more ↦ three more ]
]

pub one_byte : (u : ℕ) → 0 < u → u < 0x80 → modified_of_unit u ≡ u ∷ []
one_byte u some low = rw (lt-ltb 0 u some, lt-ltb u 0x80 low) refl

pub zero_bytes : (u : ℕ) → u ≡ 0 → modified_of_unit u ≡ 0xC0 ∷ 0x80 ∷ []
zero_bytes u e = ap modified_of_unit e

pub two_bytes : (u : ℕ) → 0x80 ≤ u → u < 0x800 → modified_of_unit u ≡ (0xC0 + u / 0x40) ∷ (0x80 + u % 0x40) ∷ []
two_bytes u high low = rw (lt-ltb 0 u (omega arith), le-ltb u 0x80 high, lt-ltb u 0x800 low) refl

pub three_bytes : (u : ℕ) → 0x800 ≤ u → modified_of_unit u ≡ (0xE0 + u / 0x1000) ∷ (0x80 + u / 0x40 % 0x40) ∷ (0x80 + u % 0x40) ∷ []
three_bytes u high = rw (lt-ltb 0 u (omega arith), le-ltb u 0x80 (omega arith), le-ltb u 0x800 high) refl

-- bytes that begin with those of a unit, by its form
pub data Begun (u : ℕ) (bytes rest : List ℕ) : Type 0 where
  in_one : 0 < u → u < 0x80 → bytes ≡ u ∷ rest → Begun u bytes rest
  zero_in_two : u ≡ 0 → bytes ≡ 0xC0 ∷ 0x80 ∷ rest → Begun u bytes rest
  in_two : 0x80 ≤ u → u < 0x800 → bytes ≡ (0xC0 + u / 0x40) ∷ (0x80 + u % 0x40) ∷ rest → Begun u bytes rest
  in_three : 0x800 ≤ u → bytes ≡ (0xE0 + u / 0x1000) ∷ (0x80 + u / 0x40 % 0x40) ∷ (0x80 + u % 0x40) ∷ rest → Begun u bytes rest

pub begun : (u : ℕ) (bytes rest : List ℕ) → bytes ≡ modified_of_unit u ++ rest → Begun u bytes rest
begun u bytes rest e = elim (form_of u) [
  | one some low ↦ in_one some low (e ∙ ap (λ b. b ++ rest) (one_byte u some low))
  | zero_in_two is ↦ zero_in_two is (e ∙ ap (λ b. b ++ rest) (zero_bytes u is))
  | two high low ↦ in_two high low (e ∙ ap (λ b. b ++ rest) (two_bytes u high low))
  | three high ↦ in_three high (e ∙ ap (λ b. b ++ rest) (three_bytes u high))
]

-- no unit's bytes begin another's
pub one_unit : (u v : ℕ) (x y : List ℕ) → modified_of_unit u ++ x ≡ modified_of_unit v ++ y → u < 2 ^ 16 → v < 2 ^ 16 → (u ≡ v) × (x ≡ y)
one_unit u v x y e small also = elim (begun u (modified_of_unit u ++ x) x refl) [
  | in_one some low is ↦ elim (begun v (modified_of_unit u ++ x) y e) [
    | in_one some' low' was ↦ (cc, cc)
    | zero_in_two e' was ↦ let f : u ≡ 0xC0 = cc in absurd (omega arith)
    | in_two high' low' was ↦ let f : u ≡ 0xC0 + v / 0x40 = cc in absurd (omega arith)
    | in_three high' was ↦ let f : u ≡ 0xE0 + v / 0x1000 = cc in absurd (omega arith)
  ]
  | zero_in_two e0 is ↦ elim (begun v (modified_of_unit u ++ x) y e) [
    | in_one some' low' was ↦ let f : 0xC0 ≡ v = cc in absurd (omega arith)
    | zero_in_two e' was ↦ (cc, cc)
    | in_two high' low' was ↦ let f : 0xC0 ≡ 0xC0 + v / 0x40 = cc in absurd (omega arith)
    | in_three high' was ↦ let f : 0xC0 ≡ 0xE0 + v / 0x1000 = cc in absurd (omega arith)
  ]
  | in_two high low is ↦ elim (begun v (modified_of_unit u ++ x) y e) [
    | in_one some' low' was ↦ let f : 0xC0 + u / 0x40 ≡ v = cc in absurd (omega arith)
    | zero_in_two e' was ↦ let f : 0xC0 + u / 0x40 ≡ 0xC0 = cc in absurd (omega arith)
    | in_two high' low' was ↦ let f : 0xC0 + u / 0x40 ≡ 0xC0 + v / 0x40 = cc in let g : 0x80 + u % 0x40 ≡ 0x80 + v % 0x40 = cc in (omega arith, cc)
    | in_three high' was ↦ let f : 0xC0 + u / 0x40 ≡ 0xE0 + v / 0x1000 = cc in absurd (omega arith)
  ]
  | in_three high is ↦ elim (begun v (modified_of_unit u ++ x) y e) [
    | in_one some' low' was ↦ let f : 0xE0 + u / 0x1000 ≡ v = cc in absurd (omega arith)
    | zero_in_two e' was ↦ let f : 0xE0 + u / 0x1000 ≡ 0xC0 = cc in absurd (omega arith)
    | in_two high' low' was ↦ let f : 0xE0 + u / 0x1000 ≡ 0xC0 + v / 0x40 = cc in absurd (omega arith)
    | in_three high' was ↦
        let f : 0xE0 + u / 0x1000 ≡ 0xE0 + v / 0x1000 = cc in
        let g : 0x80 + u / 0x40 % 0x40 ≡ 0x80 + v / 0x40 % 0x40 = cc in
        let h : 0x80 + u % 0x40 ≡ 0x80 + v % 0x40 = cc in
        (omega arith, cc)
  ]
]

some_byte : (u : ℕ) (x : List ℕ) → modified_of_unit u ++ x ≡ [] → ⊥
some_byte u x e = elim (begun u [] x (sym e)) [ in_one a b is ↦ cc | zero_in_two a is ↦ cc | in_two a b is ↦ cc | in_three a is ↦ cc ]

-- the bytes of a text of one unit more in front
modified_of-cons : (u : ℕ) (us x : List ℕ) → modified_of (u ∷ us) ++ x ≡ modified_of_unit u ++ (modified_of us ++ x)
modified_of-cons u us x = append_assoc (modified_of_unit u) (modified_of us) x

-- where the rest begins with no unit, each text with whose bytes the bytes begin is a front of the text that was read
pub read_through : (us vs rest x : List ℕ) → AreUnits us → AreUnits vs → StartsWithNoUnit rest → modified_of vs ++ x ≡ modified_of us ++ rest → (more : List ℕ) × (us ≡ vs ++ more) × (x ≡ modified_of more ++ rest)
read_through us [] rest x all also none e = (us, refl, e)
read_through [] (v ∷ vs) rest x all also none e = absurd (none v (modified_of vs ++ x) (All-head (λ u. u < 2 ^ 16) v vs also) (sym e ∙ modified_of-cons v vs x))
read_through (u ∷ us) (v ∷ vs) rest x all also none e =
    let small = λ (u : ℕ). u < 2 ^ 16 in
    let same = one_unit v u (modified_of vs ++ x) (modified_of us ++ rest) (sym (modified_of-cons v vs x) ∙ e ∙ modified_of-cons u us rest) (All-head small v vs also) (All-head small u us all) in
    let behind = read_through us vs rest x (All-tail small u us all) (All-tail small v vs also) none same.1 in
    (behind.0, ap₂ (λ w ws. w ∷ ws) (sym same.0) behind.1, behind.2)

no_bytes : (us : List ℕ) → modified_of us ≡ [] → us ≡ []
no_bytes [] e = refl
no_bytes (u ∷ us) e = absurd (some_byte u (modified_of us) e)

nothing_left : StartsWithNoUnit []
nothing_left u rest small e = some_byte u rest (sym e)

-- equal bytes are one text's
pub one_text : (us vs : List ℕ) → AreUnits us → AreUnits vs → modified_of us ≡ modified_of vs → us ≡ vs
one_text us vs all also e =
    let behind = read_through us vs [] [] all also nothing_left (append-nil (modified_of vs) ∙ sym e ∙ sym (append-nil (modified_of us))) in
    let none = no_bytes behind.0 (sym (append-nil (modified_of behind.0)) ∙ sym behind.2) in
    behind.1 ∙ ap (λ ws. vs ++ ws) none ∙ append-nil vs

-- the units of a list that a program holds
pub AreUnits-from_get_or : (us : List ℕ) → ((i : ℕ) → get_or us i 0 < 2 ^ 16) → AreUnits us
AreUnits-from_get_or us below = All-from_get_or (λ u. u < 2 ^ 16) us 0 (λ i _. below i)

-- bytes that go on with what begins with no unit are no text's
pub not_modified : (us rest bytes : List ℕ) → AreUnits us → StartsWithNoUnit rest → modified_of us ++ rest ≡ bytes → 0 < length rest → ¬ (IsModified bytes)
not_modified us rest bytes all none e more is =
    let behind = read_through us is.0 rest [] all is.1 none (append-nil (modified_of is.0) ∙ is.2 ∙ sym e) in
    let empty : rest ≡ [] = second_empty (modified_of behind.0) rest (sym behind.2) in
    absurd (omega (arith, ap length empty))
  where
    second_empty : (xs ys : List ℕ) → xs ++ ys ≡ [] → ys ≡ []
    second_empty [] ys f = f
    second_empty (x ∷ xs) ys f = absurd (cc)

-- so the place of the fault is behind what was read
pub read_up_to : (us rest bytes : List ℕ) → AreUnits us → StartsWithNoUnit rest → modified_of us ++ rest ≡ bytes → 0 < length rest → IsModifiedUpTo bytes (length bytes - length rest)
read_up_to us rest bytes all none e more =
    let lengths : length bytes ≡ length (modified_of us) + length rest = ap length (sym e) ∙ length-append (modified_of us) rest in
    let at : length bytes - length rest ≡ length (modified_of us) = omega arith in
    record {
      short = omega arith;
      front = (us, all, sym (ap₂ take at (sym e) ∙ take-append_seam (modified_of us) rest));
      longest = λ m behind is.
          let fits = read_through us is.0 rest (drop m bytes) all is.1 none (ap (λ b. b ++ drop m bytes) is.2 ∙ take-append-drop m bytes ∙ sym e) in
          let above : length (modified_of us) ≡ length (modified_of is.0) + length (modified_of fits.0) = ap (λ ws. length (modified_of ws)) fits.1 ∙ ap length (flat_map-append modified_of_unit is.0 fits.0) ∙ length-append (modified_of is.0) (modified_of fits.0) in
          let taken : length (modified_of is.0) ≡ min m (length bytes) = ap length is.2 ∙ length-take m bytes in
          omega arith;
    }

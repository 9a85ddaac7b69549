-- Modified UTF-8: the text that is read has the bytes.
use Rattle.std.proofs.Common.{◌≡◌, ℕ, ◌+◌, ◌-◌, ◌*◌, ◌/◌, ◌%◌, ◌^◌, ◌<◌, ◌≤◌, Bool, true, false, cond, ltb, eqb, List, [], ◌∷◌, ◌++◌, Option, Some, None, refl, sym, ap, ap₂, subst, ◌∙◌, arith, inl, inr}
use Rattle.std.specs.Prelude.{◌||◌, ◌&&◌, not, ◌⊎◌}
use Rattle.std.proofs.lemmas.Bool.{ltb-true, ltb-false, eqb-true}
use Rattle.std.proofs.lemmas.List.Elements.{All-nil, All-cons}
use Rattle.kc_text.specs.Modified.{modified_of, modified_of_unit, AreUnits}
use Rattle.class_file.specs.Inputs.{text_of_modified}
use Rattle.class_spelling.proofs.Texts.{both_true}
use Rattle.class_spelling.proofs.Modified.{one_byte, two_bytes, three_bytes}

-- the text, unit by unit
pub record Text (bytes text : List ℕ) : Type 0 where
  pub units : AreUnits text
  pub is : bytes ≡ modified_of text

chosen : {A : Type 0} (b : Bool) {x y z : A} → cond b x y ≡ z → ((b ≡ true) × (x ≡ z)) ⊎ ((b ≡ false) × (y ≡ z))
chosen true e = inl (refl, e)
chosen false e = inr (refl, e)

is_not : (b : Bool) → not b ≡ true → b ≡ false
is_not false e = refl
is_not true e = absurd cc

one_more : (u : ℕ) (front rest text us : List ℕ) → u < 2 ^ 16 → front ≡ modified_of_unit u → Text rest us → u ∷ us ≡ text → Text (front ++ rest) text
one_more u front rest text us lt e t f = subst (Text (front ++ rest)) f (record { units = All-cons (λ (v : ℕ). v < 2 ^ 16) u us lt t.units; is = ap₂ (λ (x y : List ℕ). x ++ y) e t.is })

no_text : Text [] []
no_text = record { units = All-nil (λ (v : ℕ). v < 2 ^ 16); is = refl }

one_fact : (b : ℕ) → (ltb 0 b && ltb b 0x80) ≡ true → (b < 2 ^ 16) × (b ∷ [] ≡ modified_of_unit b)
one_fact b e = let f = both_true (ltb 0 b) (ltb b 0x80) e in let lt = ltb-true b 0x80 f.1 in (omega arith, sym (one_byte b (ltb-true 0 b f.0) lt))

abbrev two : ℕ → ℕ → ℕ
two b c = (b - 0xC0) * 0x40 + (c - 0x80)

two_unit : (b c : ℕ) → 0xC0 ≤ b → b < 0xE0 → 0x80 ≤ c → c < 0xC0 → (two b c ≡ 0) ⊎ (0x80 ≤ two b c) → (two b c < 2 ^ 16) × (b ∷ c ∷ [] ≡ modified_of_unit (two b c))
two_unit b c h i j k (inl e) = (omega arith, ap₂ (λ x y. x ∷ y ∷ []) (let f : b ≡ 0xC0 = omega arith in f) (let f : c ≡ 0x80 = omega arith in f) ∙ ap modified_of_unit (sym e))
two_unit b c h i j k (inr le) = (omega arith, ap₂ (λ x y. x ∷ y ∷ []) (let f : b ≡ 0xC0 + two b c / 0x40 = omega arith in f) (let f : c ≡ 0x80 + two b c % 0x40 = omega arith in f) ∙ sym (two_bytes (two b c) le (omega arith)))

zero_or_high : (u : ℕ) → (eqb u 0 || not (ltb u 0x80)) ≡ true → (u ≡ 0) ⊎ (0x80 ≤ u)
zero_or_high u e = go (eqb u 0) refl e
  where
    go : (b : Bool) → eqb u 0 ≡ b → (b || not (ltb u 0x80)) ≡ true → (u ≡ 0) ⊎ (0x80 ≤ u)
    go true f e = inl (eqb-true u 0 f)
    go false f e = inr (ltb-false u 0x80 (is_not (ltb u 0x80) e))

two_fact : (b c : ℕ) → (not (ltb b 0xC0) && ltb b 0xE0 && (not (ltb c 0x80) && ltb c 0xC0) && (eqb (two b c) 0 || not (ltb (two b c) 0x80))) ≡ true → (two b c < 2 ^ 16) × (b ∷ c ∷ [] ≡ modified_of_unit (two b c))
two_fact b c e =
    let f = both_true (not (ltb b 0xC0) && ltb b 0xE0 && (not (ltb c 0x80) && ltb c 0xC0)) (eqb (two b c) 0 || not (ltb (two b c) 0x80)) e in
    let g = both_true (not (ltb b 0xC0) && ltb b 0xE0) (not (ltb c 0x80) && ltb c 0xC0) f.0 in
    let h = both_true (not (ltb b 0xC0)) (ltb b 0xE0) g.0 in
    let l = both_true (not (ltb c 0x80)) (ltb c 0xC0) g.1 in
    two_unit b c (ltb-false b 0xC0 (is_not (ltb b 0xC0) h.0)) (ltb-true b 0xE0 h.1) (ltb-false c 0x80 (is_not (ltb c 0x80) l.0)) (ltb-true c 0xC0 l.1) (zero_or_high (two b c) f.1)

abbrev three : ℕ → ℕ → ℕ → ℕ
three b c d = (b - 0xE0) * 0x1000 + (c - 0x80) * 0x40 + (d - 0x80)

three_unit : (b c d : ℕ) → 0xE0 ≤ b → b < 0xF0 → 0x80 ≤ c → c < 0xC0 → 0x80 ≤ d → d < 0xC0 → 0x800 ≤ three b c d → (three b c d < 2 ^ 16) × (b ∷ c ∷ d ∷ [] ≡ modified_of_unit (three b c d))
three_unit b c d h i j k l m le =
    let x : b ≡ 0xE0 + three b c d / 0x1000 = omega arith in
    let y : c ≡ 0x80 + three b c d / 0x40 % 0x40 = omega arith in
    let z : d ≡ 0x80 + three b c d % 0x40 = omega arith in
    (omega arith, ap₂ (λ x y. x ∷ y ∷ d ∷ []) x y ∙ ap (λ z. (0xE0 + three b c d / 0x1000) ∷ (0x80 + three b c d / 0x40 % 0x40) ∷ z ∷ []) z ∙ sym (three_bytes (three b c d) le))

three_fact : (b c d : ℕ) → (not (ltb b 0xE0) && ltb b 0xF0 && (not (ltb c 0x80) && ltb c 0xC0) && (not (ltb d 0x80) && ltb d 0xC0) && not (ltb (three b c d) 0x800)) ≡ true → (three b c d < 2 ^ 16) × (b ∷ c ∷ d ∷ [] ≡ modified_of_unit (three b c d))
three_fact b c d e =
    let f = both_true (not (ltb b 0xE0) && ltb b 0xF0 && (not (ltb c 0x80) && ltb c 0xC0) && (not (ltb d 0x80) && ltb d 0xC0)) (not (ltb (three b c d) 0x800)) e in
    let g = both_true (not (ltb b 0xE0) && ltb b 0xF0 && (not (ltb c 0x80) && ltb c 0xC0)) (not (ltb d 0x80) && ltb d 0xC0) f.0 in
    let k = both_true (not (ltb b 0xE0) && ltb b 0xF0) (not (ltb c 0x80) && ltb c 0xC0) g.0 in
    let h = both_true (not (ltb b 0xE0)) (ltb b 0xF0) k.0 in
    let l = both_true (not (ltb c 0x80)) (ltb c 0xC0) k.1 in
    let n = both_true (not (ltb d 0x80)) (ltb d 0xC0) g.1 in
    three_unit b c d (ltb-false b 0xE0 (is_not (ltb b 0xE0) h.0)) (ltb-true b 0xF0 h.1) (ltb-false c 0x80 (is_not (ltb c 0x80) l.0)) (ltb-true c 0xC0 l.1) (ltb-false d 0x80 (is_not (ltb d 0x80) n.0)) (ltb-true d 0xC0 n.1) (ltb-false (three b c d) 0x800 (is_not (ltb (three b c d) 0x800) f.1))

option_cases : {A : Type 0} (o : Option A) → (o ≡ None) ⊎ ((x : A) × (o ≡ Some x))
option_cases None = inl refl
option_cases (Some x) = inr (x, refl)

none_some : {A : Type 0} (x : A) → (let o : Option A = None in o) ≡ Some x → ⊥
none_some x e = cc

some_is : {A : Type 0} (x y : A) → (let o : Option A = Some x in o) ≡ Some y → x ≡ y
some_is x y e = cc

pub text_back : (bytes text : List ℕ) → text_of_modified bytes ≡ Some text → Text bytes text
unfolding text_of_modified
text_back [] text e = subst (Text []) (some_is [] text e) no_text
text_back (b ∷ []) text e = elim (chosen (ltb 0 b && ltb b 0x80) e) [
  | inl t ↦ let f = one_fact b t.0 in one_more b (b ∷ []) [] text [] f.0 f.1 no_text (some_is (b ∷ []) text t.1)
  | inr t ↦ absurd (none_some text t.1)
]
text_back (b ∷ c ∷ []) text e = elim (chosen (ltb 0 b && ltb b 0x80) e) [
  | inl t ↦ let f = one_fact b t.0 in elim (option_cases (text_of_modified (c ∷ []))) [
    | inl g ↦ let h = rw g at t.1 in absurd (none_some text h)
    | inr g ↦ let h = rw g.1 at t.1 in one_more b (b ∷ []) (c ∷ []) text g.0 f.0 f.1 (text_back (c ∷ []) g.0 g.1) (some_is (b ∷ g.0) text h)
  ]
  | inr t ↦ elim (chosen (not (ltb b 0xC0) && ltb b 0xE0 && (not (ltb c 0x80) && ltb c 0xC0) && (eqb (two b c) 0 || not (ltb (two b c) 0x80))) t.1) [
    | inl s ↦ let f = two_fact b c s.0 in one_more (two b c) (b ∷ c ∷ []) [] text [] f.0 f.1 no_text (some_is (two b c ∷ []) text s.1)
    | inr s ↦ absurd (none_some text s.1)
  ]
]
text_back (b ∷ c ∷ d ∷ bs) text e = elim (chosen (ltb 0 b && ltb b 0x80) e) [
  | inl t ↦ let f = one_fact b t.0 in elim (option_cases (text_of_modified (c ∷ d ∷ bs))) [
    | inl g ↦ let h = rw g at t.1 in absurd (none_some text h)
    | inr g ↦ let h = rw g.1 at t.1 in one_more b (b ∷ []) (c ∷ d ∷ bs) text g.0 f.0 f.1 (text_back (c ∷ d ∷ bs) g.0 g.1) (some_is (b ∷ g.0) text h)
  ]
  | inr t ↦ elim (chosen (not (ltb b 0xC0) && ltb b 0xE0 && (not (ltb c 0x80) && ltb c 0xC0) && (eqb (two b c) 0 || not (ltb (two b c) 0x80))) t.1) [
    | inl s ↦ let f = two_fact b c s.0 in elim (option_cases (text_of_modified (d ∷ bs))) [
      | inl g ↦ let h = rw g at s.1 in absurd (none_some text h)
      | inr g ↦ let h = rw g.1 at s.1 in one_more (two b c) (b ∷ c ∷ []) (d ∷ bs) text g.0 f.0 f.1 (text_back (d ∷ bs) g.0 g.1) (some_is (two b c ∷ g.0) text h)
    ]
    | inr s ↦ elim (chosen (not (ltb b 0xE0) && ltb b 0xF0 && (not (ltb c 0x80) && ltb c 0xC0) && (not (ltb d 0x80) && ltb d 0xC0) && not (ltb (three b c d) 0x800)) s.1) [
      | inl r ↦ let f = three_fact b c d r.0 in elim (option_cases (text_of_modified bs)) [
        | inl g ↦ let h = rw g at r.1 in absurd (none_some text h)
        | inr g ↦ let h = rw g.1 at r.1 in one_more (three b c d) (b ∷ c ∷ d ∷ []) bs text g.0 f.0 f.1 (text_back bs g.0 g.1) (some_is (three b c d ∷ g.0) text h)
      ]
      | inr r ↦ absurd (none_some text r.1)
    ]
  ]
]

-- Runs of identifier characters.
use Rattle.std.proofs.Common.{◌≡◌, ℕ, ◌+◌, ◌≤◌, ◌&&◌, Bool, true, false, if◌then◌else◌, List, [], ◌∷◌, length, drop, Some, None, refl, sym, ap, subst, ◌∙◌, arith, true≢false}
use Rattle.std.proofs.lemmas.List.{drop-drop, length-drop}
use Rattle.kt_lexer.specs.Characters.{continues, is_pair, is_high, is_surrogate, pair_code, length_if, part_length, word_length}

-- the first character of a run, and what a run of it is long
data Outcome (n w one_less two_less : ℕ) : Type 0 where
  no_part : n ≡ 0 → w ≡ 0 → Outcome n w one_less two_less
  one_unit : n ≡ 1 → w ≡ 1 + one_less → Outcome n w one_less two_less
  two_units : n ≡ 2 → w ≡ 2 + two_less → Outcome n w one_less two_less

on_two : (c : Bool) (a b : ℕ) → Outcome (if c then 2 else 0) (if c then 2 + b else 0) a b
on_two true a b = two_units refl refl
on_two false a b = no_part refl refl

on_one : (c : Bool) (a b : ℕ) → Outcome (if c then 1 else 0) (if c then 1 + a else 0) a b
on_one true a b = one_unit refl refl
on_one false a b = no_part refl refl

outcome : (p s : Bool) (k u a b : ℕ) → Outcome (length_if continues (if p then Some (k, 2) else (if s then None else Some (u, 1)))) (if p then (if continues k then 2 + b else 0) else (if s then 0 else (if continues u then 1 + a else 0))) a b
outcome true s k u a b = on_two (continues k) a b
outcome false true k u a b = no_part refl refl
outcome false false k u a b = on_one (continues u) a b

pub record WordStep (text : List ℕ) : Type 0 where
  pub stops : part_length text ≡ 0 → word_length text ≡ 0
  pub goes : 1 ≤ part_length text → word_length text ≡ part_length text + word_length (drop (part_length text) text)
  pub within : part_length text ≤ length text

no_low : (b : Bool) → (b && false) ≡ false
no_low true = refl
no_low false = refl

data AtMostOne (n : ℕ) : Type 0 where
  none_there : n ≡ 0 → AtMostOne n
  one_there : n ≡ 1 → AtMostOne n

one_if : (c : Bool) → AtMostOne (if c then 1 else 0)
one_if true = one_there refl
one_if false = none_there refl

-- a single unit is no pair
single : (p s : Bool) (k u : ℕ) → p ≡ false → AtMostOne (length_if continues (if p then Some (k, 2) else (if s then None else Some (u, 1))))
single true s k u e = absurd (true≢false e)
single false true k u e = none_there refl
single false false k u e = one_if (continues u)

none : {n : ℕ} → 1 ≤ n → n ≡ 0 → ⊥
none h e = omega (arith, h, e)

of_single : (u n : ℕ) → part_length (u ∷ []) ≡ n → AtMostOne n → WordStep (u ∷ [])
of_single u n e (none_there p) = record { stops = λ h. h; goes = λ h. absurd (none h (e ∙ p)); within = omega (arith, e, p) }
of_single u n e (one_there p) = record { stops = λ h. h; goes = λ h. let i : part_length (u ∷ []) ≡ 1 = e ∙ p in rw i refl; within = omega (arith, e, p) }

of_more : (u v : ℕ) (text : List ℕ) (n : ℕ) → part_length (u ∷ v ∷ text) ≡ n → Outcome n (word_length (u ∷ v ∷ text)) (word_length (v ∷ text)) (word_length text) → WordStep (u ∷ v ∷ text)
of_more u v text n e (no_part p q) = record { stops = λ h. q; goes = λ h. absurd (none h (e ∙ p)); within = omega (arith, e, p) }
of_more u v text n e (one_unit p q) = record { stops = λ h. absurd (none (omega (arith, e, p)) h); goes = λ h. let i : part_length (u ∷ v ∷ text) ≡ 1 = e ∙ p in rw i q; within = omega (arith, e, p) }
of_more u v text n e (two_units p q) = record { stops = λ h. absurd (none (omega (arith, e, p)) h); goes = λ h. let i : part_length (u ∷ v ∷ text) ≡ 2 = e ∙ p in rw i q; within = omega (arith, e, p) }

pub word_step : (text : List ℕ) → WordStep text
word_step [] = record { stops = λ h. refl; goes = λ h. refl; within = omega arith }
word_step (u ∷ []) = of_single u _ refl (single (is_pair u 0) (is_surrogate u) (pair_code u 0) u (no_low (is_high u)))
word_step (u ∷ v ∷ text) = of_more u v text _ refl (outcome (is_pair u v) (is_surrogate u) (pair_code u v) u (word_length (v ∷ text)) (word_length text))

-- how far a run has been read
pub record Read (text : List ℕ) (at : ℕ) : Type 0 where
  pub within : at ≤ length text
  pub rest : word_length text ≡ at + word_length (drop at text)

pub read_more : {text : List ℕ} {at n : ℕ} → Read text at → n ≡ part_length (drop at text) → 1 ≤ n → Read text (at + n)
read_more {text = text} {at = at} {n = n} r e h =
    let s = word_step (drop at text) in
    let w : part_length (drop at text) ≤ length (drop at text) = s.within in
    let g : word_length (drop at text) ≡ part_length (drop at text) + word_length (drop (part_length (drop at text)) (drop at text)) = s.goes (omega (arith, e, h)) in
    let d : word_length (drop (part_length (drop at text)) (drop at text)) ≡ word_length (drop (at + part_length (drop at text)) text) = ap word_length (drop-drop (part_length (drop at text)) at text) in
    subst (λ m. Read text (at + m)) (sym e) (record {
      within = omega (arith, r.within, simp length-drop at w);
      rest = omega (arith, r.rest, g, d);
    })

pub read_end : {text : List ℕ} {at : ℕ} → Read text at → part_length (drop at text) ≡ 0 → at ≡ word_length text
read_end {text = text} {at = at} r e = let s = (word_step (drop at text)).stops e in omega (arith, r.rest, s)

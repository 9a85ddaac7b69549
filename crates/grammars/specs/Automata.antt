-- Tests that go over the next tokens from state to state, as far as they need.
use Rattle.std.specs.Prelude.{◌≡◌, ℕ, suc, ◌≤◌, Bool, false, List, [], ◌∷◌, ◌++◌, length}
use Rattle.std.proofs.Common.{refl, sym, ap, arith, ◌∙◌}
use Rattle.grammars.specs.Grammar.{Test, first}

-- what a state says to a token
pub data Step (S : Type 0) : Type 0 where
  go : S → Step S
  stop : Bool → Step S

-- a state and what it says to each token and at the end
module _ {S A : Type 0} (step : S → A → Step S) (at_end : S → Bool) where
  -- the state accepts the tokens up to the one that it stops at, or the end
  abbrev pub accepts : List A → S → Bool
  accepts [] s = at_end s
  accepts (t ∷ ts) s = elim (step s t) as (λ _. Bool) [ go s' ↦ accepts ts s' | stop b ↦ b ]

  -- how many tokens it goes over
  abbrev pub goes : List A → S → ℕ
  goes [] s = 0
  goes (t ∷ ts) s = elim (step s t) as (λ _. ℕ) [ go s' ↦ suc (goes ts s') | stop b ↦ 0 ]

  stopped : (k : Step S) (r s : List A) → elim k as (λ _. ℕ) [ go s' ↦ suc (goes r s') | stop b ↦ 0 ] ≤ 0
      → elim k as (λ _. Bool) [ go s' ↦ accepts s s' | stop b ↦ b ] ≡ elim k as (λ _. Bool) [ go s' ↦ accepts r s' | stop b ↦ b ]
  stopped (go s') r s le = absurd (omega (arith, le))
  stopped (stop b) r s le = refl

  stopped_there : (k : Step S) (r s : List A) → elim k as (λ _. ℕ) [ go s' ↦ suc (goes r s') | stop b ↦ 0 ] ≤ 0
      → elim k as (λ _. ℕ) [ go s' ↦ suc (goes s s') | stop b ↦ 0 ] ≡ elim k as (λ _. ℕ) [ go s' ↦ suc (goes r s') | stop b ↦ 0 ]
  stopped_there (go s') r s le = absurd (omega (arith, le))
  stopped_there (stop b) r s le = refl

  -- the law of the tokens behind, for a state that goes on or stops
  says_on : (k : Step S) (p r s : List A) → elim k as (λ _. ℕ) [ go s' ↦ suc (goes (p ++ r) s') | stop b ↦ 0 ] ≤ suc (length p)
      → ((x : S) → goes (p ++ r) x ≤ length p → accepts (p ++ s) x ≡ accepts (p ++ r) x)
      → elim k as (λ _. Bool) [ go s' ↦ accepts (p ++ s) s' | stop b ↦ b ] ≡ elim k as (λ _. Bool) [ go s' ↦ accepts (p ++ r) s' | stop b ↦ b ]
  says_on (go s') p r s le h = h s' (omega (arith, le))
  says_on (stop b) p r s le h = refl

  looks_on : (k : Step S) (p r s : List A) → elim k as (λ _. ℕ) [ go s' ↦ suc (goes (p ++ r) s') | stop b ↦ 0 ] ≤ suc (length p)
      → ((x : S) → goes (p ++ r) x ≤ length p → goes (p ++ s) x ≡ goes (p ++ r) x)
      → elim k as (λ _. ℕ) [ go s' ↦ suc (goes (p ++ s) s') | stop b ↦ 0 ] ≡ elim k as (λ _. ℕ) [ go s' ↦ suc (goes (p ++ r) s') | stop b ↦ 0 ]
  looks_on (go s') p r s le h = ap suc (h s' (omega (arith, le)))
  looks_on (stop b) p r s le h = refl

  pub step_says : (p r s : List A) (x : S) → goes (p ++ r) x ≤ length p → first r ≡ first s → accepts (p ++ s) x ≡ accepts (p ++ r) x
  step_says [] [] [] x le e = refl
  step_says [] [] (u ∷ s) x le e = absurd (cc)
  step_says [] (t ∷ r) [] x le e = absurd (cc)
  step_says [] (t ∷ r) (u ∷ s) x le e = let i : t ≡ u = cc in ap (λ m. accepts (m ∷ s) x) (sym i) ∙ stopped (step x t) r s le
  step_says (t ∷ p) r s x le e = says_on (step x t) p r s le (λ y le'. step_says p r s y le' e)

  pub step_looks : (p r s : List A) (x : S) → goes (p ++ r) x ≤ length p → first r ≡ first s → goes (p ++ s) x ≡ goes (p ++ r) x
  step_looks [] [] [] x le e = refl
  step_looks [] [] (u ∷ s) x le e = absurd (cc)
  step_looks [] (t ∷ r) [] x le e = absurd (cc)
  step_looks [] (t ∷ r) (u ∷ s) x le e = let i : t ≡ u = cc in ap (λ m. goes (m ∷ s) x) (sym i) ∙ stopped_there (step x t) r s le
  step_looks (t ∷ p) r s x le e = looks_on (step x t) p r s le (λ y le'. step_looks p r s y le' e)

  -- the tokens that come next are accepted, from a state that does not accept the end
  abbrev pub scan : (x : S) → at_end x ≡ false → Test A
  scan x e = record { holds = λ ts. accepts ts x; far = λ ts. goes ts x; ends = e; says = λ p r s le w. step_says p r s x le w; looks = λ p r s le w. step_looks p r s x le w }

-- Tests on more than one token.
use Rattle.std.specs.Prelude.{◌≡◌, ℕ, suc, ◌≤◌, Bool, true, false, ◌&&◌, List, [], ◌∷◌, ◌++◌, length}
use Rattle.std.proofs.Common.{refl, sym, ap, arith, ◌∙◌}
use Rattle.grammars.specs.Grammar.{Test, first}

abbrev pub count_if : Bool → ℕ → ℕ
count_if true n = suc n
count_if false n = 0

module _ {A : Type 0} (f : A → Bool) (g : Test A) where
  abbrev pub holds_both : List A → Bool
  holds_both [] = false
  holds_both (t ∷ ts) = f t && g.holds ts

  abbrev pub far_both : List A → ℕ
  far_both [] = 0
  far_both (t ∷ ts) = count_if (f t) (g.far ts)

  says_at : (b : Bool) (n : ℕ) (x y : Bool) → count_if b n ≤ 0 → (b && x) ≡ (b && y)
  says_at true n x y le = absurd (omega (arith, le))
  says_at false n x y le = refl

  looks_at : (b : Bool) (n m : ℕ) → count_if b n ≤ 0 → count_if b m ≡ count_if b n
  looks_at true n m le = absurd (omega (arith, le))
  looks_at false n m le = refl

  says_behind : (b : Bool) (n m : ℕ) (x y : Bool) → count_if b n ≤ suc m → (n ≤ m → x ≡ y) → (b && x) ≡ (b && y)
  says_behind true n m x y le h = h (omega (arith, le))
  says_behind false n m x y le h = refl

  looks_behind : (b : Bool) (n n' m : ℕ) → count_if b n ≤ suc m → (n ≤ m → n' ≡ n) → count_if b n' ≡ count_if b n
  looks_behind true n n' m le h = ap suc (h (omega (arith, le)))
  looks_behind false n n' m le h = refl

  pub both_says : (p r s : List A) → far_both (p ++ r) ≤ length p → first r ≡ first s → holds_both (p ++ s) ≡ holds_both (p ++ r)
  both_says [] [] [] le e = refl
  both_says [] [] (u ∷ s) le e = absurd (cc)
  both_says [] (t ∷ r) [] le e = absurd (cc)
  both_says [] (t ∷ r) (u ∷ s) le e = let i : t ≡ u = cc in ap (λ m. f m && g.holds s) (sym i) ∙ says_at (f t) (g.far r) (g.holds s) (g.holds r) le
  both_says (t ∷ p) r s le e = says_behind (f t) (g.far (p ++ r)) (length p) (g.holds (p ++ s)) (g.holds (p ++ r)) le (λ le'. g.says p r s le' e)

  pub both_looks : (p r s : List A) → far_both (p ++ r) ≤ length p → first r ≡ first s → far_both (p ++ s) ≡ far_both (p ++ r)
  both_looks [] [] [] le e = refl
  both_looks [] [] (u ∷ s) le e = absurd (cc)
  both_looks [] (t ∷ r) [] le e = absurd (cc)
  both_looks [] (t ∷ r) (u ∷ s) le e = let i : t ≡ u = cc in ap (λ m. count_if (f m) (g.far s)) (sym i) ∙ looks_at (f t) (g.far r) (g.far s) le
  both_looks (t ∷ p) r s le e = looks_behind (f t) (g.far (p ++ r)) (g.far (p ++ s)) (length p) le (λ le'. g.looks p r s le' e)

  -- f holds of the next token, and g of those behind it
  abbrev pub and_then : Test A
  and_then = record { holds = holds_both; far = far_both; ends = refl; says = both_says; looks = both_looks }

-- Arrays by their elements.
use Rattle.std.proofs.Common.{◌≡◌, ◌≢◌, ℕ, zero, suc, ◌<◌, ◌≤◌, Bool, true, false, eqb, refl, ap, arith}
use Rattle.std.proofs.lemmas.Bool.{eqb-true}
use Rattle.std.specs.Prelude.{◌||◌, ◌&&◌}
use Rattle.class_file.specs.declared.class.Set.{Set}
use Rattle.class_file.specs.Classes.{chain}
use Rattle.class_file.specs.Members.{element_below, is_root, is_member, is_zero}

pub neq_eqb : (m n : ℕ) → m ≢ n → eqb m n ≡ false
neq_eqb m n e = by (eqb m n) refl
  where
    by : (b : Bool) → eqb m n ≡ b → b ≡ false
    by true k = absurd (e (eqb-true m n k))
    by false k = refl

module _ (set : Set) (b : ℕ) where
  pub less_below : (m c n : ℕ) → m < n → element_below set b m c n ≡ false
  less_below m c zero h = absurd (omega arith)
  less_below zero c (suc n) h = refl
  less_below (suc m) c (suc n) h = less_below m c n (omega arith)

  pub root_below : (m c n : ℕ) → n ≤ m → is_root set c ≡ true → element_below set b m c n ≡ true
  root_below m c zero h r = ap (λ (t : Bool). t || (is_zero m && is_member c (chain set b))) r
  root_below zero c (suc n) h r = absurd (omega arith)
  root_below (suc m) c (suc n) h r = root_below m c n (omega arith) r

  pub same_below : (m c n : ℕ) → m ≡ n → is_root set c ≡ false → element_below set b m c n ≡ is_member c (chain set b)
  same_below zero c zero h r = ap (λ (t : Bool). t || is_member c (chain set b)) r
  same_below (suc m) c zero h r = absurd (omega arith)
  same_below zero c (suc n) h r = absurd (omega arith)
  same_below (suc m) c (suc n) h r = same_below m c n (omega arith) r

  pub more_below : (m c n : ℕ) → n ≤ m → m ≢ n → is_root set c ≡ false → element_below set b m c n ≡ false
  more_below zero c zero h d r = absurd (d refl)
  more_below (suc m) c zero h d r = ap (λ (t : Bool). t || false) r
  more_below zero c (suc n) h d r = absurd (omega arith)
  more_below (suc m) c (suc n) h d r = more_below m c n (omega arith) (λ e. d (ap suc e)) r

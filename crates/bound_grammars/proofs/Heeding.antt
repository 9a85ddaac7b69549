-- The reading comes before each derivation that heeds tests where it takes a part.
use Rattle.std.proofs.Common.{◌≡◌, ℕ, zero, suc, ◌+◌, ◌<◌, Bool, true, false, List, [], ◌∷◌, length, ◌⊎◌, inl, inr, refl, sym, ap, subst, arith}
use Rattle.grammars.specs.Grammar.{Test, Part, nothing, one, row, both, choose, many, guard, Cst, none, node, pair, left, right, Derives, d_nothing, d_one, d_row, d_both, d_left, d_right, d_more, d_done, d_guard, Reads, r_nothing, r_one, r_row, r_both, r_left, r_right, r_more, r_done, r_guard}
use Rattle.grammars.specs.Tables.{is_empty, IsEmptyTable, Picks, Leaves}
use Rattle.grammars.specs.Order.{count, Prefers, p_turn, p_taken, p_node, p_left, p_right, p_first, p_second}
use Rattle.grammars.proofs.Readings.{never, derives}
use Rattle.grammars.proofs.Progress.{progress}
use Rattle.grammars.proofs.Order.{counted}
use Rattle.bound_grammars.specs.Heeding.{Heeds, h_nothing, h_one, h_row, h_both, h_left, h_right, h_more, h_done, h_guard, Ordered, IsOrderedBut}

zero_count : (n : ℕ) → (0 < n → ⊥) → n ≡ 0
zero_count zero h = refl
zero_count (suc n) h = absurd (h (omega arith))

module _ {R A : Type 0} (G : R → Part R A) (empty : R → Bool) (Taken Strict : Test A → Type 0) (k : IsOrderedBut G empty Taken Strict) where
  derived : {a : Part R A} {ts r : List A} {x : Cst A} → Heeds G Taken Strict a ts x r → Derives G a ts x r
  derived h_nothing = d_nothing
  derived (h_one h) = d_one h
  derived (h_row d) = d_row (derived d)
  derived (h_both d e) = d_both (derived d) (derived e)
  derived (h_left h d) = d_left (derived d)
  derived (h_right h d) = d_right (derived d)
  derived (h_more h d e) = d_more (derived d) (derived e)
  derived h_done = d_done
  derived (h_guard h d p) = d_guard h (derived d) p

  pub record Alike (x y : Cst A) (r r' : List A) : Type 0 where
    pub tree : x ≡ y
    pub rest : r ≡ r'

  pairs : {x x' y y' : Cst A} → x ≡ x' → y ≡ y' → pair x y ≡ pair x' y'
  pairs p q = cc

  along_h : {a : Part R A} {ts ts' r : List A} {x : Cst A} → ts ≡ ts' → Heeds G Taken Strict a ts x r → Heeds G Taken Strict a ts' x r
  along_h {a = a} {r = r} {x = x} e d = subst (λ m. Heeds G Taken Strict a m x r) e d

  under : {x y : Cst A} {r r' : List A} (f : Cst A → Cst A) → ((x y : Cst A) → Prefers x y → Prefers (f x) (f y)) → Alike x y r r' ⊎ Prefers x y → Alike (f x) (f y) r r' ⊎ Prefers (f x) (f y)
  under f up (inl e) = inl (record { tree = ap f e.tree; rest = e.rest })
  under f up (inr p) = inr (up _ _ p)

  second : {x x' y y' : Cst A} {s s' : List A} → x ≡ x' → Alike y y' s s' ⊎ Prefers y y' → Alike (pair x y) (pair x' y') s s' ⊎ Prefers (pair x y) (pair x' y')
  second e (inl v) = inl (record { tree = pairs e v.tree; rest = v.rest })
  second {x = x} {y = y} {y' = y'} e (inr p) = inr (subst (λ m. Prefers (pair x y) (pair m y')) e (p_second p))

  -- what has a token takes one
  some : {a : Part R A} {ts r : List A} {x : Cst A} → is_empty empty a ≡ false → Derives G a ts x r → 0 < count x
  some z d = omega (arith, progress G empty k.empties d z, counted G d)

  -- the part is taken where another derivation leaves it out
  taken_first : {f : Test A} {a b : Part R A} {ts r r' : List A} {x y : Cst A} → Strict f ⊎ Leaves G f b → is_empty empty a ≡ false → f.holds ts ≡ true → (Strict f → f.holds ts ≡ false)
      → Derives G a ts x r → Derives G b ts y r' → Prefers (left x) (right y)
  taken_first (inl u) z h h' d e = never h (h' u)
  taken_first {y = y} (inr u) z h h' d e = p_taken (some z d) (zero_count (count y) (λ l. never h (u.leaves _ _ _ e (omega (arith, l, counted G e)))))

  not_taken : {f : Test A} {a : Part R A} {ts r : List A} {x : Cst A} → Taken f ⊎ Picks G f a → f.holds ts ≡ false → (Taken f → f.holds ts ≡ true) → Derives G a ts x r → ⊥
  not_taken (inl u) h h' d = never (h' u) h
  not_taken (inr u) h h' d = never (u.picks _ _ _ d) h

  first : {a : Part R A} {ts r r' : List A} {x y : Cst A} → Reads G a ts x r → Heeds G Taken Strict a ts y r' → Ordered G empty Taken Strict a → Alike x y r r' ⊎ Prefers x y
  first r_nothing h_nothing u = inl (record { tree = refl; rest = refl })
  first (r_one h) (h_one h') u = inl (record { tree = refl; rest = refl })
  first (r_row {n = n} d) (h_row e) u = under node (λ x y p. p_node p) (first d e (k.ordered n))
  first (r_both d1 d2) (h_both e1 e2) u =
      elim (first d1 e1 u.0) [ inl v ↦ second v.tree (first d2 (along_h (sym v.rest) e2) u.1) | inr p ↦ inr (p_first p) ]
  first (r_left h d) (h_left h' e) u = under left (λ x y p. p_left p) (first d e u.1)
  first (r_left h d) (h_right h' e) u = inr (taken_first u.0.1 u.0.2 h h' (derives G d) (derived e))
  first (r_right h d) (h_left h' e) u = absurd (not_taken u.0.0 h h' (derived e))
  first (r_right h d) (h_right h' e) u = under right (λ x y p. p_right p) (first d e u.2)
  first (r_more h d1 d2) (h_more h' e1 e2) u =
      elim (first d1 e1 u.1) [ inl v ↦ second v.tree (first d2 (along_h (sym v.rest) e2) u) | inr p ↦ inr (p_first p) ]
  first (r_more h d1 d2) h_done u = inr (p_turn (some u.0.1 (derives G d1)))
  first (r_done h) (h_more h' e1 e2) u = absurd (not_taken u.0.0 h h' (derived e1))
  first (r_done h) h_done u = inl (record { tree = refl; rest = refl })
  first (r_guard h d p) (h_guard h' e p') u = under node (λ x y p. p_node p) (first d e u)

  alike_or : {x y : Cst A} {r r' : List A} → Alike x y r r' ⊎ Prefers x y → (x ≡ y) ⊎ Prefers x y
  alike_or (inl e) = inl e.tree
  alike_or (inr p) = inr p

  pub reading_first : {n : R} {ts r r' : List A} {x y : Cst A} → Reads G (row n) ts x r → Heeds G Taken Strict (row n) ts y r' → (x ≡ y) ⊎ Prefers x y
  reading_first d e = alike_or (first d e tt)

-- A part that can't be empty takes a token.
use Rattle.std.proofs.Common.{◌≡◌, ℕ, ◌<◌, ◌≤◌, Bool, true, false, ◌&&◌, ◌||◌, List, length, ◌⊎◌, inl, inr, refl, sym, ◌∙◌, arith, true≢false, drop, length-drop}
use Rattle.grammars.specs.Grammar.{Part, Cst, Derives, d_nothing, d_one, d_row, d_both, d_left, d_right, d_more, d_done, d_guard}
use Rattle.grammars.specs.Tables.{is_empty, IsEmptyTable}

no_and : (a b : Bool) → (a && b) ≡ false → (a ≡ false) ⊎ (b ≡ false)
no_and true b h = inr h
no_and false b h = inl refl

no_left : (a b : Bool) → (a || b) ≡ false → a ≡ false
no_left true b h = absurd (true≢false h)
no_left false b h = refl

no_right : (a b : Bool) → (a || b) ≡ false → b ≡ false
no_right true b h = absurd (true≢false h)
no_right false b h = h

contra : (a b : Bool) → (a ≡ true → b ≡ true) → b ≡ false → a ≡ false
contra true b h e = absurd (true≢false (sym (h refl) ∙ e))
contra false b h e = refl

module _ {R A : Type 0} (G : R → Part R A) where
  pub shorter : {a : Part R A} {ts r : List A} {x : Cst A} → Derives G a ts x r → length r ≤ length ts
  shorter d_nothing = omega arith
  shorter (d_one h) = omega arith
  shorter (d_row d) = shorter d
  shorter (d_both d e) = omega (arith, shorter d, shorter e)
  shorter (d_left d) = shorter d
  shorter (d_right d) = shorter d
  shorter (d_more d e) = omega (arith, shorter d, shorter e)
  shorter (d_guard h d p) = shorter d
  shorter d_done = omega arith

module _ {R A : Type 0} (G : R → Part R A) (empty : R → Bool) (empties : IsEmptyTable G empty) where
  pub progress : {a : Part R A} {ts r : List A} {x : Cst A} → Derives G a ts x r → is_empty empty a ≡ false → length r < length ts
  progress d_nothing h = absurd (true≢false h)
  progress (d_one e) h = omega arith
  progress (d_row {n = n} d) h = progress d (contra _ _ (empties n) h)
  progress (d_both {a = a} {b = b} {ts = ts} {s = s} d e) h =
      elim (no_and (is_empty empty a) (is_empty empty b) h) [ inl k ↦ (let p : length s < length ts = omega (arith, progress d k, shorter G e) in p) | inr k ↦ (let p : length s < length ts = omega (arith, shorter G d, progress e k) in p) ]
  progress (d_left d) h = progress d (no_left _ _ h)
  progress (d_right {a = a} d) h = progress d (no_right (is_empty empty a) _ h)
  progress (d_more d e) h = absurd (true≢false h)
  progress (d_guard k d p) h = omega (arith, p)
  progress d_done h = absurd (true≢false h)

pub farther : {A : Type 0} (at end : ℕ) (ts : List A) → length (drop end ts) < length (drop at ts) → at < end
farther at end ts h = omega (arith, simp length-drop at h)

-- That a part has no reading, computed: a word for examples.
use Rattle.std.proofs.Common.{◌≡◌, ℕ, zero, suc, Bool, true, false, not, ◌||◌, List, [], ◌∷◌, ◌⊎◌, inl, inr, Option, Some, None, refl, sym, subst}
use Rattle.grammars.specs.Grammar.{Part, nothing, one, row, both, choose, many, guard, Cst, Reads, r_nothing, r_one, r_row, r_both, r_left, r_right, r_more, r_done, r_guard}
use Rattle.grammars.specs.Runs.{read}
use Rattle.grammars.proofs.Readings.{never, one_reading}
use Rattle.grammars.proofs.Runs.{is_read}

module _ {R A : Type 0} (G : R → Part R A) where
  abbrev pub if_read : Option (Cst A × List A) → (List A → Bool) → Bool
  if_read None f = false
  if_read (Some k) f = f k.1

  abbrev pub by_test : Bool → Bool → Bool → Bool
  by_test true b c = b
  by_test false b c = c

  abbrev pub fails : ℕ → Part R A → List A → Bool
  fails zero p ts = false
  fails (suc n) nothing ts = false
  fails (suc n) (one f) [] = true
  fails (suc n) (one f) (t ∷ ts) = not (f t)
  fails (suc n) (row r) ts = fails n (G r) ts
  fails (suc n) (both a b) ts = fails n a ts || if_read (read G n a ts) (λ r. fails n b r)
  fails (suc n) (choose f a b) ts = by_test (f.holds ts) (fails n a ts) (fails n b ts)
  fails (suc n) (many f a) ts = by_test (f.holds ts) (fails n a ts || if_read (read G n a ts) (λ r. fails n (many f a) r)) false
  fails (suc n) (guard f a) ts = by_test (f.holds ts) (fails n a ts) true

  or_cases : (b c : Bool) → (b || c) ≡ true → (b ≡ true) ⊎ (c ≡ true)
  or_cases true c h = inl refl
  or_cases false c h = inr h

  -- where the test holds, and where it fails
  if_holds : (b c d : Bool) → by_test b c d ≡ true → b ≡ true → c ≡ true
  if_holds true c d h e = h
  if_holds false c d h e = never e refl

  if_not : (b c d : Bool) → by_test b c d ≡ true → b ≡ false → d ≡ true
  if_not true c d h e = never refl e
  if_not false c d h e = h

  -- what is behind the one reading of the first part fails
  behind_first : {a : Part R A} {ts r : List A} {x : Cst A} (n : ℕ) (o : Option (Cst A × List A)) (f : List A → Bool) → read G n a ts ≡ o → if_read o f ≡ true → Reads G a ts x r → f r ≡ true
  behind_first n None f e h d = never h refl
  behind_first {a = a} {ts = ts} n (Some k) f e h d = subst (λ m. f m ≡ true) (one_reading G (is_read G n a ts k.1 k.0 e) d).rest h

  not_true : {b : Bool} → not b ≡ true → b ≡ true → ⊥
  not_true h e = never e (no _ h)
    where
      no : (b : Bool) → not b ≡ true → b ≡ false
      no true h = sym h
      no false h = refl

  unread_in : (n : ℕ) (p : Part R A) (ts r : List A) (x : Cst A) → fails n p ts ≡ true → Reads G p ts x r → ⊥
  unread_in zero p ts r x h d = never h refl
  unread_in (suc n) _ _ _ _ h r_nothing = never h refl
  unread_in (suc n) _ _ _ _ h (r_one e) = not_true h e
  unread_in (suc n) _ _ _ _ h (r_row d) = unread_in n _ _ _ _ h d
  unread_in (suc n) _ ts _ _ h (r_both {a = a} {b = b} d e) =
      elim (or_cases (fails n a ts) (if_read (read G n a ts) (λ r. fails n b r)) h) [ inl u ↦ unread_in n _ _ _ _ u d | inr u ↦ unread_in n _ _ _ _ (behind_first n (read G n a ts) (λ r. fails n b r) refl u d) e ]
  unread_in (suc n) _ ts _ _ h (r_left {f = f} {a = a} {b = b} e d) = unread_in n _ _ _ _ (if_holds (f.holds ts) (fails n a ts) (fails n b ts) h e) d
  unread_in (suc n) _ ts _ _ h (r_right {f = f} {a = a} {b = b} e d) = unread_in n _ _ _ _ (if_not (f.holds ts) (fails n a ts) (fails n b ts) h e) d
  unread_in (suc n) _ ts _ _ h (r_more {f = f} {a = a} e d d') =
      elim (or_cases (fails n a ts) (if_read (read G n a ts) (λ r. fails n (many f a) r)) (if_holds (f.holds ts) (fails n a ts || if_read (read G n a ts) (λ r. fails n (many f a) r)) false h e))
      [ inl u ↦ unread_in n _ _ _ _ u d | inr u ↦ unread_in n _ _ _ _ (behind_first n (read G n a ts) (λ r. fails n (many f a) r) refl u d) d' ]
  unread_in (suc n) _ ts _ _ h (r_done {f = f} {a = a} e) = never (if_not (f.holds ts) (fails n a ts || if_read (read G n a ts) (λ r. fails n (many f a) r)) false h e) refl
  unread_in (suc n) _ ts _ _ h (r_guard {f = f} {a = a} e d p) = unread_in n _ _ _ _ (if_holds (f.holds ts) (fails n a ts) true h e) d

  pub unread : {p : Part R A} {ts r : List A} {x : Cst A} → Reads G p ts x r → (n : ℕ) → fails n p ts ≡ true → ⊥
  unread d n h = unread_in n _ _ _ _ h d

  -- a reading that is computed, by what it leaves
  abbrev pub rest_of : Option (Cst A × List A) → Option (List A)
  rest_of None = None
  rest_of (Some k) = Some k.1

  pub record IsRead (p : Part R A) (ts r : List A) : Type 0 where
    pub tree : Cst A
    pub reads : Reads G p ts tree r

  from_read : (n : ℕ) (p : Part R A) (ts r : List A) (o : Option (Cst A × List A)) → read G n p ts ≡ o → rest_of o ≡ Some r → IsRead p ts r
  from_read n p ts r None e h = absurd (cc)
  from_read n p ts r (Some k) e h = let i : k.1 ≡ r = cc in record { tree = k.0; reads = subst (λ m. Reads G p ts k.0 m) i (is_read G n p ts k.1 k.0 e) }

  pub leaves : (n : ℕ) (p : Part R A) (ts r : List A) → rest_of (read G n p ts) ≡ Some r → IsRead p ts r
  leaves n p ts r h = from_read n p ts r (read G n p ts) refl h

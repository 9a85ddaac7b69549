-- The reading is the derivation that counts; a list has one fault at most.
use Rattle.std.proofs.Common.{◌≡◌, ℕ, zero, suc, ◌+◌, ◌<◌, Bool, List, [], ◌∷◌, ◌++◌, length, length-append, ◌⊎◌, inl, inr, refl, sym, ap, subst, ◌∙◌, arith, append_assoc}
use Rattle.grammars.specs.Grammar.{Test, Part, row, Cst, node, pair, left, right, first, Derives, d_nothing, d_one, d_row, d_both, d_left, d_right, d_more, d_done, d_guard, Reads, r_nothing, r_one, r_row, r_both, r_left, r_right, r_more, r_done, r_guard, Stuck}
use Rattle.grammars.specs.Tables.{Picks}
use Rattle.grammars.specs.Fair.{Fair, f_row, f_guard, f_both, f_choose, f_many, IsFair}
use Rattle.grammars.specs.Order.{count, Prefers, p_turn, p_taken, p_node, p_left, p_right, p_first, p_second, IsFault}
use Rattle.grammars.proofs.Readings.{never, derives, along_d}
use Rattle.grammars.proofs.Refusals.{longer}
use Rattle.grammars.proofs.Normal.{refused}

module _ {R A : Type 0} (G : R → Part R A) where
  -- the tokens of a derivation are those that it takes
  pub counted : {a : Part R A} {ts r : List A} {x : Cst A} → Derives G a ts x r → length ts ≡ count x + length r
  counted d_nothing = omega arith
  counted (d_one h) = omega arith
  counted (d_row d) = counted d
  counted (d_both d e) = omega (arith, counted d, counted e)
  counted (d_left d) = counted d
  counted (d_right d) = counted d
  counted (d_more d e) = omega (arith, counted d, counted e)
  counted (d_guard h d p) = counted d
  counted d_done = omega arith

  -- what takes no token can be done at the end
  emptied : {a : Part R A} {ts r : List A} {x : Cst A} → Derives G a ts x r → count x ≡ 0 → Derives G a [] x []
  emptied d_nothing z = d_nothing
  emptied (d_one h) z = absurd (omega (arith, z))
  emptied (d_row d) z = d_row (emptied d z)
  emptied (d_both d e) z = d_both (emptied d (omega (arith, z))) (emptied e (omega (arith, z)))
  emptied (d_left d) z = d_left (emptied d z)
  emptied (d_right d) z = d_right (emptied d z)
  emptied (d_more d e) z = d_more (emptied d (omega (arith, z))) (emptied e (omega (arith, z)))
  emptied (d_guard h d p) z = absurd (omega (arith, p, counted d, z))
  emptied d_done z = d_done

  positive : (n : ℕ) → (n ≡ 0 → ⊥) → 0 < n
  positive zero h = absurd (h refl)
  positive (suc n) h = omega arith

  -- a part whose test holds wherever it is derived takes a token, since no test holds at the end
  pub takes : {f : Test A} {a : Part R A} {ts r : List A} {x : Cst A} → Picks G f a → Derives G a ts x r → 0 < count x
  takes {f = f} {x = x} u d = positive (count x) (λ z. never (u.picks [] [] x (emptied d z)) f.ends)

zero_count : (n : ℕ) → (0 < n → ⊥) → n ≡ 0
zero_count zero h = refl
zero_count (suc n) h = absurd (h (omega arith))

module _ {R A : Type 0} (G : R → Part R A) (empty : R → Bool) (k : IsFair G empty) where
  pub record Alike (x y : Cst A) (r r' : List A) : Type 0 where
    pub tree : x ≡ y
    pub rest : r ≡ r'

  pairs : {x x' y y' : Cst A} → x ≡ x' → y ≡ y' → pair x y ≡ pair x' y'
  pairs p q = cc

  under : {x y : Cst A} {r r' : List A} (f : Cst A → Cst A) → ((x y : Cst A) → Prefers x y → Prefers (f x) (f y)) → Alike x y r r' ⊎ Prefers x y → Alike (f x) (f y) r r' ⊎ Prefers (f x) (f y)
  under f up (inl e) = inl (record { tree = ap f e.tree; rest = e.rest })
  under f up (inr p) = inr (up _ _ p)

  second : {x x' y y' : Cst A} {s s' : List A} → x ≡ x' → Alike y y' s s' ⊎ Prefers y y' → Alike (pair x y) (pair x' y') s s' ⊎ Prefers (pair x y) (pair x' y')
  second e (inl v) = inl (record { tree = pairs e v.tree; rest = v.rest })
  second {x = x} {y = y} {y' = y'} e (inr p) = inr (subst (λ m. Prefers (pair x y) (pair m y')) e (p_second p))

  pub prefers : {a : Part R A} {ts r r' : List A} {x y : Cst A} → Reads G a ts x r → Derives G a ts y r' → Fair G empty a → Alike x y r r' ⊎ Prefers x y
  prefers r_nothing d_nothing f = inl (record { tree = refl; rest = refl })
  prefers (r_one h) (d_one h') f = inl (record { tree = refl; rest = refl })
  prefers (r_row {n = n} d) (d_row e) f = under node (λ x y p. p_node p) (prefers d e (k.fair n))
  prefers (r_both d1 d2) (d_both e1 e2) (f_both fa fb by) =
      elim (prefers d1 e1 fa) [ inl u ↦ second u.tree (prefers d2 (along_d G (sym u.rest) e2) fb) | inr p ↦ inr (p_first p) ]
  prefers (r_left h d) (d_left e) (f_choose fa fb u w) = under left (λ x y p. p_left p) (prefers d e fa)
  prefers (r_left h d) (d_right {x = y} e) (f_choose fa fb u w) = inr (p_taken (takes G u (derives G d)) (zero_count (count y) (λ l. never h (w.leaves _ _ _ e (omega (arith, l, counted G e))))))
  prefers (r_right h d) (d_left e) (f_choose fa fb u w) = never (u.picks _ _ _ e) h
  prefers (r_right h d) (d_right e) (f_choose fa fb u w) = under right (λ x y p. p_right p) (prefers d e fb)
  prefers (r_more h d1 d2) (d_more e1 e2) (f_many fp u by) =
      elim (prefers d1 e1 fp) [ inl v ↦ second v.tree (prefers d2 (along_d G (sym v.rest) e2) (f_many fp u by)) | inr p ↦ inr (p_first p) ]
  prefers (r_more h d1 d2) d_done (f_many fp u by) = inr (p_turn (takes G u (derives G d1)))
  prefers (r_done h) (d_more e1 e2) (f_many fp u by) = never (u.picks _ _ _ e1) h
  prefers (r_done h) d_done f = inl (record { tree = refl; rest = refl })
  prefers (r_guard h d p) (d_guard h' e p') (f_guard fa z c) = under node (λ x y p. p_node p) (prefers d e fa)

  alike_or : {x y : Cst A} {r r' : List A} → Alike x y r r' ⊎ Prefers x y → (x ≡ y) ⊎ Prefers x y
  alike_or (inl e) = inl e.tree
  alike_or (inr p) = inr p

  -- any other derivation by a row of tokens with which they begin comes behind the reading
  pub preferred : {n : R} {ts r r' : List A} {x y : Cst A} → Reads G (row n) ts x r → Derives G (row n) ts y r' → (x ≡ y) ⊎ Prefers x y
  preferred d e = alike_or (prefers d e f_row)

  pub fault_of : {n : R} {ts rest : List A} → Stuck G (row n) ts rest → IsFault G (row n) ts rest
  fault_of s = record { before = s.before; split = s.split; begins = s.begins; no_more = λ q x w d. refused G empty k.empties k.fair s q x w d }

module _ {A : Type 0} where
  -- no derivation comes before itself
  pub differ : {x y : Cst A} → Prefers x y → x ≡ y → ⊥
  differ (p_turn h) e = cc
  differ (p_taken h z) e = cc
  differ (p_node {x = x} {y = y} p) e = let i : x ≡ y = cc in differ p i
  differ (p_left {x = x} {y = y} p) e = let i : x ≡ y = cc in differ p i
  differ (p_right {x = x} {y = y} p) e = let i : x ≡ y = cc in differ p i
  differ (p_first {x = x} {x' = x'} p) e = let i : x ≡ x' = cc in differ p i
  differ (p_second {y = y} {y' = y'} p) e = let i : y ≡ y' = cc in differ p i

  -- of two derivations one alone comes before the other
  -- what comes before another takes tokens
  takes_some : {x y : Cst A} → Prefers x y → 0 < count x
  takes_some (p_turn h) = omega (arith, h)
  takes_some (p_taken h z) = h
  takes_some (p_node p) = takes_some p
  takes_some (p_left p) = takes_some p
  takes_some (p_right p) = takes_some p
  takes_some (p_first p) = omega (arith, takes_some p)
  takes_some (p_second p) = omega (arith, takes_some p)

  nothing_before : {u v y : Cst A} → Prefers u v → y ≡ u → count y ≡ 0 → ⊥
  nothing_before p e z = omega (arith, takes_some p, ap count e, z)

  crossed : {x y u v : Cst A} → Prefers x y → Prefers u v → y ≡ u → x ≡ v → ⊥
  crossed (p_node {x = x} {y = y} p) (p_node {x = u} {y = v} q) e e' = let i : y ≡ u = cc in let j : x ≡ v = cc in crossed p q i j
  crossed (p_left {x = x} {y = y} p) (p_left {x = u} {y = v} q) e e' = let i : y ≡ u = cc in let j : x ≡ v = cc in crossed p q i j
  crossed (p_right {x = x} {y = y} p) (p_right {x = u} {y = v} q) e e' = let i : y ≡ u = cc in let j : x ≡ v = cc in crossed p q i j
  crossed (p_first {x = x} {x' = y} p) (p_first {x = u} {x' = v} q) e e' = let i : y ≡ u = cc in let j : x ≡ v = cc in crossed p q i j
  crossed (p_first {x = x} {x' = y} p) (p_second {x = u} q) e e' = let i : x ≡ y = cc in differ p i
  crossed (p_second {x = x} p) (p_first {x = u} {x' = v} q) e e' = let i : u ≡ v = cc in differ q i
  crossed (p_second {y = x} {y' = y} p) (p_second {y = u} {y' = v} q) e e' = let i : y ≡ u = cc in let j : x ≡ v = cc in crossed p q i j
  crossed (p_turn h) q e e' = nothing_before q e refl
  crossed (p_taken h z) q e e' = nothing_before q e z
  crossed p q e e' = cc

  pub one_way : {x y : Cst A} → Prefers x y → Prefers y x → ⊥
  one_way p q = crossed p q refl refl

module _ {R A : Type 0} (G : R → Part R A) where
  -- of two faults of a list neither stands behind the other
  not_behind : {a : Part R A} {ts r s : List A} → (p : IsFault G a ts r) → (q : IsFault G a ts s) → length p.before < length q.before → ⊥
  not_behind {r = r} {s = s} p q lt =
      let l = longer G p.before q.before s r (sym q.split ∙ p.split) (omega (arith, lt)) in
      p.no_more (l.between ++ q.begins.0) q.begins.1
      (next_alike l.between s q.begins.0 r l.backs (omega (arith, lt, ap length l.fronts, length-append p.before l.between)))
      (along_d G (ap (λ m. m ++ q.begins.0) l.fronts ∙ append_assoc p.before l.between q.begins.0) q.begins.2)
    where
      next_alike : (m s c r : List A) → r ≡ m ++ s → 0 < length m → first (m ++ c) ≡ first r
      next_alike [] s c r e h = absurd (omega (arith, h))
      next_alike (t ∷ m) s c r e h = sym (ap first e)

  pub one_fault : {a : Part R A} {ts r s : List A} → IsFault G a ts r → IsFault G a ts s → r ≡ s
  one_fault {ts = ts} {r = r} {s = s} p q =
      same_back p.before q.before r s (sym p.split ∙ q.split) (level (length p.before) (length q.before) (λ h. not_behind p q h) (λ h. not_behind q p h))
    where
      level : (n m : ℕ) → (n < m → ⊥) → (m < n → ⊥) → n ≡ m
      level zero zero h h' = refl
      level zero (suc m) h h' = absurd (h (omega arith))
      level (suc n) zero h h' = absurd (h' (omega arith))
      level (suc n) (suc m) h h' = ap suc (level n m (λ l. h (omega (arith, l))) (λ l. h' (omega (arith, l))))

      same_back : (u v r s : List A) → u ++ r ≡ v ++ s → length u ≡ length v → r ≡ s
      same_back [] [] r s e n = e
      same_back [] (t ∷ v) r s e n = absurd (omega (arith, n))
      same_back (t ∷ u) [] r s e n = absurd (omega (arith, n))
      same_back (t ∷ u) (t' ∷ v) r s e n = let e' : u ++ r ≡ v ++ s = cc in same_back u v r s e' (omega (arith, n))

  -- no list with a derivation has a fault
  pub fault_excludes : {a : Part R A} {ts rest : List A} {x : Cst A} → IsFault G a ts rest → Derives G a ts x [] → ⊥
  fault_excludes {rest = rest} {x = x} f d = f.no_more rest x refl (along_d G f.split d)

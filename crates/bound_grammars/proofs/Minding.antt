-- A whole list with a derivation that minds the rules has a reading: loops give their turns to the loops within.
use Rattle.std.proofs.Common.{◌≡◌, ℕ, zero, suc, ◌+◌, ◌<◌, ◌≤◌, Bool, true, false, List, [], ◌∷◌, length, ◌⊎◌, inl, inr, refl, subst, arith}
use Rattle.grammars.specs.Grammar.{Test, Part, nothing, one, row, both, choose, many, guard, Cst, none, Derives, d_nothing, d_one, d_row, d_both, d_left, d_right, d_more, d_done, d_guard, Reads, r_nothing, r_one, r_row, r_both, r_left, r_right, r_more, r_done, r_guard, Stuck}
use Rattle.grammars.specs.Tables.{is_empty, Picks, Leaves, Covers}
use Rattle.grammars.specs.Fair as fair
use Rattle.grammars.specs.Fair.{Edge, e_many, e_inside, e_maybe, e_left, e_right, e_guard, e_row, e_second, e_first}
use Rattle.grammars.proofs.Readings as readings
use Rattle.grammars.proofs.Readings.{never}
use Rattle.grammars.proofs.Progress.{shorter, progress}
use Rattle.grammars.proofs.Normal.{or_right}
use Rattle.bound_grammars.specs.Obeying.{Among}
use Rattle.bound_grammars.specs.Minding.{Paired, Minds, m_nothing, m_one, m_row, m_both, m_left, m_right, m_more, m_done, m_guard, IsFaultOf, options, steps, Holds, Fails, Serves, Offers, o_end, o_apart, o_many, o_taken, o_left_out, o_nothing, o_both, o_row, OfferedBy, FairBut, f_nothing, f_one, f_row, f_guard, f_both, f_choose, f_many, IsFairBut}
use Rattle.bound_grammars.proofs.Obeying.{Takes, takes_none, takes_some, taken}

module _ {R A : Type 0} (G : R → Part R A) where
  pub derives : {Only : Test A → (List A → Bool) → Type 0} {Due : Test A → Type 0} {a : Part R A} {ts r : List A} {x : Cst A} → Minds G Only Due a ts x r → Derives G a ts x r
  derives m_nothing = d_nothing
  derives (m_one h) = d_one h
  derives (m_row d) = d_row (derives d)
  derives (m_both d e) = d_both (derives d) (derives e)
  derives (m_left h d) = d_left (derives d)
  derives (m_right h d) = d_right (derives d)
  derives (m_more h d e) = d_more (derives d) (derives e)
  derives (m_done h) = d_done
  derives (m_guard h d p) = d_guard h (derives d) p

  no_condition : {B : Type 0} {f : Test A} {w : List A → Bool} → Paired [] f w → B
  no_condition u = elim u [ ]

  no_rule : {B : Type 0} {f : Test A} → Among [] f → B
  no_rule u = elim u [ ]

  pub none_minded : {a : Part R A} {ts r : List A} {x : Cst A} → Derives G a ts x r → Minds G (Paired []) (Among []) a ts x r
  none_minded d_nothing = m_nothing
  none_minded (d_one h) = m_one h
  none_minded (d_row d) = m_row (none_minded d)
  none_minded (d_both d e) = m_both (none_minded d) (none_minded e)
  none_minded (d_left d) = m_left (λ w u. no_condition u) (none_minded d)
  none_minded (d_right d) = m_right (λ u. no_rule u) (none_minded d)
  none_minded (d_more d e) = m_more (λ w u. no_condition u) (none_minded d) (none_minded e)
  none_minded d_done = m_done (λ u. no_rule u)
  none_minded (d_guard h d p) = m_guard h (none_minded d) p

  -- where there are no rules, what takes no token can stand anywhere
  pub anywhere : {a : Part R A} {ts r : List A} {x : Cst A} → Minds G (Paired []) (Among []) a ts x r → length ts ≤ length r → (us : List A) → Minds G (Paired []) (Among []) a us x us
  anywhere m_nothing le us = m_nothing
  anywhere (m_one h) le us = absurd (omega (arith, le))
  anywhere (m_row d) le us = m_row (anywhere d le us)
  anywhere (m_both d e) le us = m_both (anywhere d (omega (arith, le, shorter G (derives e))) us) (anywhere e (omega (arith, le, shorter G (derives d))) us)
  anywhere (m_left h d) le us = m_left (λ w u. no_condition u) (anywhere d le us)
  anywhere (m_right h d) le us = m_right (λ u. no_rule u) (anywhere d le us)
  anywhere (m_more h d e) le us = m_more (λ w u. no_condition u) (anywhere d (omega (arith, le, shorter G (derives e))) us) (anywhere e (omega (arith, le, shorter G (derives d))) us)
  anywhere (m_done h) le us = m_done (λ u. no_rule u)
  anywhere (m_guard h d p) le us = absurd (omega (arith, le, p))

-- a fair grammar is fair with no rules
module _ {R A : Type 0} (G : R → Part R A) (empty : R → Bool) where
  holds_of : {f : Test A} {a : Part R A} → Picks G f a → Holds G (Paired []) (Among []) f a
  holds_of u = record { holds = λ ts r x w d. u.picks ts r x (derives G d) }

  fails_of : {f : Test A} {a : Part R A} → Leaves G f a → Fails G (Paired []) (Among []) f a
  fails_of u = record { fails = λ ts r x d l. u.leaves ts r x (derives G d) l }

  serves_same : (g : Test A) (p : Part R A) → Serves G (Paired []) (Among []) g p p
  serves_same g p = record { serves = λ ts r x h d. (x, d, omega arith, omega arith) }

  offers_of : {c : Bool} {b : Part R A} {g : Test A} {q : Part R A} {K : List (Part R A)} → fair.Offers G empty g q c (b ∷ []) → (is_empty empty b ≡ true → Offers G (Paired []) (Among []) empty g q K) → Offers G (Paired []) (Among []) empty g q (b ∷ K)
  offers_of (fair.o_apart apart rec) o = o_apart (fails_of apart) (λ z. record { moves = λ ts us x d. anywhere G d (omega arith) us }) o
  offers_of {g = g} {q = q} (fair.o_many rec) o = o_many (serves_same g q) (λ u. no_rule G u) (o refl)
  offers_of {g = g} {q = q} (fair.o_maybe rec) o = o_taken (serves_same g q) (λ u. no_rule G u) (record { skips = λ ts. (none, m_nothing, refl) }) (o_nothing (o (or_right (is_empty empty q) true refl)))

  offered_of : {c : Bool} {b : Part R A} {g : Test A} {q : Part R A} → fair.OfferedBy G empty c b g q → Among [] g ⊎ OfferedBy G (Paired []) (Among []) empty b g q
  offered_of by = inr (λ K o. offers_of (by [] (λ z. fair.o_end)) o)

  fair_of : {a : Part R A} → fair.Fair G empty a → FairBut G (Paired []) (Among []) empty a
  fair_of fair.f_nothing = f_nothing
  fair_of fair.f_one = f_one
  fair_of fair.f_row = f_row
  fair_of (fair.f_guard fa z c) = f_guard (fair_of fa) c
  fair_of (fair.f_both fa fb by) = f_both (fair_of fa) (fair_of fb) (λ c g q i. offered_of (by c g q i))
  fair_of (fair.f_choose fa fb u w) = f_choose (fair_of fa) (fair_of fb) (holds_of u) (inr (fails_of w))
  fair_of (fair.f_many fp u by) = f_many (fair_of fp) (holds_of u) (λ c g q i. offered_of (by c g q i))

  pub is_fair_of : fair.IsFair G empty → IsFairBut G (Paired []) (Among []) empty
  is_fair_of k = record { empties = k.empties; fair = λ n. fair_of (k.fair n) }

-- fewer optional parts, or no more of them and fewer steps
pub data Lower (v s w u : ℕ) : Type 0 where
  l_options : v < w → Lower v s w u
  l_steps : v ≤ w → s < u → Lower v s w u

lifted : {v s w u v' s' w' u' : ℕ} → Lower v s w u → v' + w ≤ w' + v → s' + u ≤ u' + s → Lower v' s' w' u'
lifted (l_options p) a b = l_options (omega (arith, p, a))
lifted (l_steps p q) a b = l_steps (omega (arith, p, a)) (omega (arith, q, b))

module _ {R A : Type 0} (G : R → Part R A) (Only : Test A → (List A → Bool) → Type 0) (Due : Test A → Type 0) (empty : R → Bool) (k : IsFairBut G Only Due empty) where
  -- a list of parts derives a list, with so many optional parts and steps
  pub data Stack : ℕ → ℕ → List (Part R A) → List A → Type 0 where
    s_end : Stack 0 0 [] []
    s_cons : {a : Part R A} {K : List (Part R A)} {ts r : List A} {x : Cst A} {v s : ℕ} → Minds G Only Due a ts x r → Stack v s K r → Stack (options x + v) (steps x + s) (a ∷ K) ts

  -- a turn of a loop is taken out of what stands behind it
  pub record Stolen (v s : ℕ) (q : Part R A) (K : List (Part R A)) (ts : List A) : Type 0 where
    pub rest : List A
    pub tree : Cst A
    pub turn : Minds G Only Due q ts tree rest
    pub v2 : ℕ
    pub s2 : ℕ
    pub after : Stack v2 s2 K rest
    pub lower : Lower (options tree + v2) (steps tree + s2) v s

  at_size : {v s v' s' : ℕ} {K : List (Part R A)} {ts : List A} → v ≡ v' → s ≡ s' → Stack v s K ts → Stack v' s' K ts
  at_size {s = s} {v' = v'} {K = K} {ts = ts} e e' d = subst (λ n. Stack v' n K ts) e' (subst (λ n. Stack n s K ts) e d)

  put_right : {f : Test A} {a b : Part R A} {K : List (Part R A)} {v s : ℕ} {ts : List A} → (Due f → ⊥) → Stack v s (b ∷ K) ts → Stack v (suc s) (choose f a b ∷ K) ts
  put_right free (s_cons d e) = at_size (omega arith) (omega arith) (s_cons (m_right (λ u. absurd (free u)) d) e)

  put_row : {n : R} {K : List (Part R A)} {v s : ℕ} {ts : List A} → Stack v s (G n ∷ K) ts → Stack v (suc s) (row n ∷ K) ts
  put_row (s_cons d e) = at_size (omega arith) (omega arith) (s_cons (m_row d) e)

  put_nothing : {K : List (Part R A)} {v s : ℕ} {ts : List A} → Stack v s K ts → Stack v (suc s) (nothing ∷ K) ts
  put_nothing e = at_size (omega arith) (omega arith) (s_cons m_nothing e)

  put_done : {f : Test A} {p : Part R A} {K : List (Part R A)} {v s : ℕ} {ts : List A} → (Due f → ⊥) → Stack v s K ts → Stack v (suc s) (many f p ∷ K) ts
  put_done free e = at_size (omega arith) (omega arith) (s_cons (m_done (λ u. absurd (free u))) e)

  put_both : {a b : Part R A} {K : List (Part R A)} {v s : ℕ} {ts : List A} → Stack v s (a ∷ b ∷ K) ts → Stack v (suc s) (both a b ∷ K) ts
  put_both (s_cons d (s_cons e l)) = at_size (omega arith) (omega arith) (s_cons (m_both d e) l)

  -- the turn is behind the first part, or in it
  under : {q : Part R A} {K L : List (Part R A)} {ts : List A} {v s v' s' : ℕ} → (u : Stolen v s q K ts) → v ≤ v' → suc s ≤ s' → Stack u.v2 (suc u.s2) L u.rest → Stolen v' s' q L ts
  under u le less after = record { rest = u.rest; tree = u.tree; turn = u.turn; v2 = u.v2; s2 = suc u.s2; after = after; lower = lifted u.lower (omega (arith, le)) (omega (arith, less)) }

  passed : {g : Test A} {q a : Part R A} {K : List (Part R A)} {ts r : List A} {x : Cst A} {v s : ℕ} → g.holds ts ≡ true → Fails G Only Due g a → Minds G Only Due a ts x r
      → Takes (is_empty empty a) ts r → (is_empty empty a ≡ true → (us : List A) → r ≡ ts → Minds G Only Due a us x us) → (is_empty empty a ≡ true → r ≡ ts → Stolen v s q K ts)
      → Stolen (options x + v) (steps x + s) q (a ∷ K) ts
  passed h apart d (takes_some l) move rec = never h (apart.fails _ _ _ d l)
  passed {x = x} h apart d (takes_none z) move rec =
      let u = rec z refl in
      record { rest = u.rest; tree = u.tree; turn = u.turn; v2 = options x + u.v2; s2 = steps x + u.s2; after = s_cons (move z u.rest refl) u.after; lower = lifted u.lower (omega arith) (omega arith) }

  moved : {a : Part R A} {ts r : List A} {x : Cst A} → ((us : List A) → Minds G Only Due a ts x ts → Minds G Only Due a us x us) → Minds G Only Due a ts x r → (us : List A) → r ≡ ts → Minds G Only Due a us x us
  moved {a = a} {ts = ts} {x = x} f d us e = f us (subst (λ m. Minds G Only Due a ts x m) e d)

  stolen_turn : {q : Part R A} {f : Test A} {p : Part R A} {K : List (Part R A)} {ts r o : List A} (x : Cst A) {y z : Cst A} {v s : ℕ} → Minds G Only Due q ts z r → options z ≤ options x → steps z ≤ steps x
      → Minds G Only Due (many f p) r y o → Stack v s K o → Stolen ((options x + options y) + v) (suc (steps x + steps y) + s) q (many f p ∷ K) ts
  stolen_turn x {y = y} {z = z} {v = v} {s = s} d le le' e l =
      record { rest = _; tree = z; turn = d; v2 = options y + v; s2 = steps y + s; after = s_cons e l; lower = l_steps (omega (arith, le)) (omega (arith, le')) }

  stolen_part : {q b : Part R A} {f : Test A} {a : Part R A} {K : List (Part R A)} {ts r : List A} (x : Cst A) {y z : Cst A} {v s : ℕ} → (Due f → ⊥) → Minds G Only Due q ts z r → options z ≤ options x
      → Minds G Only Due b r y r → options y ≡ 0 → Stack v s K r → Stolen (suc (options x) + v) (suc (steps x) + s) q (choose f a b ∷ K) ts
  stolen_part x {y = y} {z = z} {v = v} {s = s} free d le e e' l =
      record { rest = _; tree = z; turn = d; v2 = options y + v; s2 = suc (steps y) + s; after = s_cons (m_right (λ u. absurd (free u)) e) l; lower = l_options (omega (arith, le, e')) }

  pub steal : {g : Test A} {q : Part R A} {K : List (Part R A)} {v s : ℕ} {ts : List A} → Offers G Only Due empty g q K → Stack v s K ts → g.holds ts ≡ true → Stolen v s q K ts
  steal {g = g} o_end s_end h = never h g.ends
  steal {q = q} (o_apart {K = K} apart moves o) (s_cons {ts = ts} {x = x} {v = v} {s = s} d l) h =
      passed h apart d (taken G empty k.empties (derives G d)) (λ z us e. moved (λ us d. (moves z).moves ts us x d) d us e)
      (λ z e. steal (o z) (subst (λ m. Stack v s K m) e l) h)
  steal (o_many serves free o) (s_cons {ts = ts} (m_more {r = r} {x = x} w d e) l) h =
      let y = serves.serves ts r x h d in stolen_turn x y.1 y.2 y.3 e l
  steal (o_many serves free o) (s_cons (m_done n) l) h =
      let u = steal o l h in under u (omega arith) (omega arith) (put_done free u.after)
  steal (o_taken serves free skips o) (s_cons {ts = ts} {r = r} (m_left {x = x} w d) l) h =
      let y = serves.serves ts r x h d in
      let b = skips.skips r in
      stolen_part x free y.1 y.2 b.1 b.2 l
  steal (o_taken serves free skips o) (s_cons (m_right n d) l) h =
      let u = steal o (s_cons d l) h in under u (omega arith) (omega arith) (put_right free u.after)
  steal {g = g} (o_left_out {a = a} apart some free o) (s_cons {ts = ts} {r = r} (m_left {x = x} w d) l) h =
      never h (apart.fails ts r x d (progress G empty k.empties (derives G d) some))
  steal (o_left_out apart some free o) (s_cons (m_right n d) l) h =
      let u = steal o (s_cons d l) h in under u (omega arith) (omega arith) (put_right free u.after)
  steal (o_nothing o) (s_cons m_nothing l) h =
      let u = steal o l h in under u (omega arith) (omega arith) (put_nothing u.after)
  steal (o_both o) (s_cons (m_both d e) l) h =
      let u = steal o (s_cons d (s_cons e l)) h in under u (omega arith) (omega arith) (put_both u.after)
  steal (o_row o) (s_cons (m_row d) l) h =
      let u = steal o (s_cons d l) h in under u (omega arith) (omega arith) (put_row u.after)

  pub data Good : List (Part R A) → Type 0 where
    g_end : Good []
    g_cons : {a : Part R A} {K : List (Part R A)} → FairBut G Only Due empty a → ((c : Bool) (g : Test A) (q : Part R A) → Edge G empty c a g q → Due g ⊎ Offers G Only Due empty g q K) → Good K → Good (a ∷ K)

  -- the list of parts reads the list
  pub data AllRead : List (Part R A) → List A → Type 0 where
    ra_end : AllRead [] []
    ra_cons : {a : Part R A} {K : List (Part R A)} {ts r : List A} {x : Cst A} → Reads G a ts x r → AllRead K r → AllRead (a ∷ K) ts

  close_row : {n : R} {K : List (Part R A)} {ts : List A} → AllRead (G n ∷ K) ts → AllRead (row n ∷ K) ts
  close_row (ra_cons d l) = ra_cons (r_row d) l

  close_both : {a b : Part R A} {K : List (Part R A)} {ts : List A} → AllRead (a ∷ b ∷ K) ts → AllRead (both a b ∷ K) ts
  close_both (ra_cons d (ra_cons e l)) = ra_cons (r_both d e) l

  close_guard : {f : Test A} {a : Part R A} {K : List (Part R A)} {ts : List A} → f.holds ts ≡ true → Covers G f a → AllRead (a ∷ K) ts → AllRead (guard f a ∷ K) ts
  close_guard h c (ra_cons d l) = ra_cons (r_guard h d (c.covers _ _ _ h (readings.derives G d))) l

  close_left : {f : Test A} {a b : Part R A} {K : List (Part R A)} {ts : List A} → f.holds ts ≡ true → AllRead (a ∷ K) ts → AllRead (choose f a b ∷ K) ts
  close_left h (ra_cons d l) = ra_cons (r_left h d) l

  close_right : {f : Test A} {a b : Part R A} {K : List (Part R A)} {ts : List A} → f.holds ts ≡ false → AllRead (b ∷ K) ts → AllRead (choose f a b ∷ K) ts
  close_right h (ra_cons d l) = ra_cons (r_right h d) l

  close_turn : {f : Test A} {p : Part R A} {K : List (Part R A)} {ts : List A} → f.holds ts ≡ true → AllRead (p ∷ many f p ∷ K) ts → AllRead (many f p ∷ K) ts
  close_turn h (ra_cons d (ra_cons e l)) = ra_cons (r_more h d e) l

  -- what becomes of a part that is left out: the test fails, or a turn of it can be taken instead
  data Choice (f : Test A) (a : Part R A) (K : List (Part R A)) (v s : ℕ) (ts : List A) : Type 0 where
    stay : f.holds ts ≡ false → Choice f a K v s ts
    switch : f.holds ts ≡ true → Stolen v s a K ts → Choice f a K v s ts

  choice_at : {f : Test A} {a : Part R A} {K : List (Part R A)} {v s : ℕ} {ts : List A} (b : Bool) → f.holds ts ≡ b → Offers G Only Due empty f a K → Stack v s K ts → Choice f a K v s ts
  choice_at true h o l = switch h (steal o l h)
  choice_at false h o l = stay h

  choice : {f : Test A} {a : Part R A} {K : List (Part R A)} {v s : ℕ} {ts : List A} → (Due f → f.holds ts ≡ false) → Due f ⊎ Offers G Only Due empty f a K → Stack v s K ts → Choice f a K v s ts
  choice n (inl u) l = stay (n u)
  choice {f = f} {ts = ts} n (inr o) l = choice_at (f.holds ts) refl o l

  other : {f : Test A} {a b : Part R A} {K : List (Part R A)} {v s : ℕ} {ts r : List A} {x : Cst A} → Takes (is_empty empty b) ts r → (Due f → f.holds ts ≡ false) → Due f ⊎ Fails G Only Due f b → Minds G Only Due b ts x r
      → (is_empty empty b ≡ true → Due f ⊎ Offers G Only Due empty f a K) → Stack v s K r → Choice f a K v s ts
  other (takes_none z) n w d e l = choice n (e z) l
  other (takes_some p) n (inl u) d e l = stay (n u)
  other (takes_some p) n (inr w) d e l = stay (w.fails _ _ _ d p)

  meet_at : {g : Test A} {q b : Part R A} {K : List (Part R A)} (z : Bool) → is_empty empty b ≡ z → OfferedBy G Only Due empty b g q → (is_empty empty b ≡ true → Due g ⊎ Offers G Only Due empty g q K) → Due g ⊎ Offers G Only Due empty g q (b ∷ K)
  meet_at {K = K} false h by e = inr (by K (λ z. never z h))
  meet_at {K = K} true h by e = elim (e h) [ inl u ↦ inl u | inr o ↦ inr (by K (λ z. o)) ]

  meet : {g : Test A} {q b : Part R A} {K : List (Part R A)} → Due g ⊎ OfferedBy G Only Due empty b g q → (is_empty empty b ≡ true → Due g ⊎ Offers G Only Due empty g q K) → Due g ⊎ Offers G Only Due empty g q (b ∷ K)
  meet (inl u) e = inl u
  meet {b = b} (inr by) e = meet_at (is_empty empty b) refl by e

  abbrev Again : ℕ → Type 0
  Again w = (v s : ℕ) (K : List (Part R A)) (ts : List A) → v < w → Stack v s K ts → Good K → AllRead K ts

  -- with so many optional parts, by the steps
  by_steps : (w : ℕ) → Again w → (fuel : ℕ) {v s : ℕ} {K : List (Part R A)} {ts : List A} → v ≤ w → s < fuel → Stack v s K ts → Good K → AllRead K ts
  by_steps w again zero le less l g = absurd (omega (arith, less))
  by_steps w again (suc fuel) le less s_end g = ra_end
  by_steps w again (suc fuel) le less (s_cons m_nothing l) (g_cons f e g) = ra_cons r_nothing (by_steps w again fuel (omega (arith, le)) (omega (arith, less)) l g)
  by_steps w again (suc fuel) le less (s_cons (m_one h) l) (g_cons f e g) = ra_cons (r_one h) (by_steps w again fuel (omega (arith, le)) (omega (arith, less)) l g)
  by_steps w again (suc fuel) le less (s_cons (m_row {n = n} d) l) (g_cons f e g) =
      close_row (by_steps w again fuel (omega (arith, le)) (omega (arith, less)) (s_cons d l) (g_cons (k.fair n) (λ c o q i. e c o q (e_row i)) g))
  by_steps w again (suc fuel) le less (s_cons (m_guard h d p) l) (g_cons (f_guard fa c) e g) =
      close_guard h c (by_steps w again fuel (omega (arith, le)) (omega (arith, less)) (s_cons d l) (g_cons fa (λ c o q i. e c o q (e_guard i)) g))
  by_steps w again (suc fuel) le less (s_cons (m_both d d') l) (g_cons (f_both fa fb by) e g) =
      close_both (by_steps w again fuel (omega (arith, le)) (omega (arith, less)) (s_cons d (s_cons d' l))
      (g_cons fa (λ c o q i. meet (by c o q i) (λ z. e c o q (e_first z i))) (g_cons fb (λ c o q i. e c o q (e_second i)) g)))
  by_steps w again (suc fuel) le less (s_cons {ts = ts} {r = r} (m_left {x = x} a d) l) (g_cons (f_choose fa fb u z) e g) =
      close_left (u.holds ts r x a d) (by_steps w again fuel (omega (arith, le)) (omega (arith, less)) (s_cons d l) (g_cons fa (λ c o q i. e c o q (e_left i)) g))
  by_steps w again (suc fuel) le less (s_cons {K = K} {ts = ts} (m_right {f = f} {a = a} {b = b} n d) l) (g_cons (f_choose fa fb u z) e g) =
      elim (other (taken G empty k.empties (derives G d)) n z d (λ y. e false f a (e_maybe y)) l) as (λ _. AllRead (choose f a b ∷ K) ts) [
        | stay h ↦ close_right h (by_steps w again fuel (omega (arith, le)) (omega (arith, less)) (s_cons d l) (g_cons fb (λ c o q i. e c o q (e_right i)) g))
        | switch h t ↦ close_left h (elim t.lower as (λ _. AllRead (a ∷ K) ts) [
          | l_options p ↦ again _ _ _ _ (omega (arith, le, p)) (s_cons t.turn t.after) (g_cons fa (λ c o q i. e c o q (e_left i)) g)
          | l_steps p p' ↦ by_steps w again fuel (omega (arith, le, p)) (omega (arith, less, p')) (s_cons t.turn t.after) (g_cons fa (λ c o q i. e c o q (e_left i)) g)
        ])
      ]
  by_steps w again (suc fuel) le less (s_cons {ts = ts} (m_more {r = r} {x = x} a d d') l) (g_cons (f_many fp u by) e g) =
      close_turn (u.holds ts r x a d) (by_steps w again fuel (omega (arith, le)) (omega (arith, less)) (s_cons d (s_cons d' l))
      (g_cons fp (λ c o q i. meet (by c o q i) (λ z. e c o q (e_inside i))) (g_cons (f_many fp u by) e g)))
  by_steps w again (suc fuel) le less (s_cons {K = K} {ts = ts} (m_done {f = f} {a = p} n) l) (g_cons (f_many fp u by) e g) =
      elim (choice n (e true f p e_many) l) as (λ _. AllRead (many f p ∷ K) ts) [
        | stay h ↦ ra_cons (r_done h) (by_steps w again fuel (omega (arith, le)) (omega (arith, less)) l g)
        | switch h t ↦ close_turn h (elim t.lower as (λ _. AllRead (p ∷ many f p ∷ K) ts) [
          | l_options y ↦ again _ _ _ _ (omega (arith, le, y)) (s_cons t.turn (s_cons (m_done (λ due. never h (n due))) t.after))
              (g_cons fp (λ c o q i. meet (by c o q i) (λ z. e c o q (e_inside i))) (g_cons (f_many fp u by) e g))
          | l_steps y y' ↦ by_steps w again fuel (omega (arith, le, y)) (omega (arith, less, y')) (s_cons t.turn (s_cons (m_done (λ due. never h (n due))) t.after))
              (g_cons fp (λ c o q i. meet (by c o q i) (λ z. e c o q (e_inside i))) (g_cons (f_many fp u by) e g))
        ])
      ]

  all_read : (fuel : ℕ) {v s : ℕ} {K : List (Part R A)} {ts : List A} → v < fuel → Stack v s K ts → Good K → AllRead K ts
  all_read zero less l g = absurd (omega (arith, less))
  all_read (suc fuel) {s = s} less l g = by_steps fuel (λ v s K ts less l g. all_read fuel less l g) (suc s) (omega (arith, less)) (omega arith) l g

  only_one : {a : Part R A} {ts : List A} → AllRead (a ∷ []) ts → (y : Cst A) × Reads G a ts y []
  only_one (ra_cons d ra_end) = (_, d)

  -- where a whole list has a derivation by a row that minds the rules, it has a reading by it
  pub has_reading : {n : R} {ts : List A} {x : Cst A} → Minds G Only Due (row n) ts x [] → (y : Cst A) × Reads G (row n) ts y []
  has_reading {x = x} d = only_one (all_read (suc (options x + 0)) (omega arith) (s_cons d s_end) (g_cons f_row (λ c g q i. inr o_end) g_end))

  pub fault_of : {n : R} {ts rest : List A} → Stuck G (row n) ts rest → IsFaultOf G Only Due (row n) ts rest
  fault_of s = record { before = s.before; split = s.split; begins = s.begins; no_more = λ q x w d. let i = has_reading d in s.no_more q [] i.0 w i.1 }

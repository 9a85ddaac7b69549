-- Where no reading goes on, in any grammar.
use Rattle.std.proofs.Common.{◌≡◌, Bool, true, false, List, [], ◌∷◌, ◌++◌, refl, sym, ap, subst, ◌∙◌, ◌<◌, ◌≤◌, ◌+◌, length, length-append, arith, append_assoc}
use Rattle.std.proofs.lemmas.List.{append_cancel_right}
use Rattle.grammars.specs.Grammar.{Test, Part, one, row, both, choose, many, guard, Cst, none, leaf, node, pair, left, right, first, test, Derives, d_one, d_row, d_both, d_left, d_right, d_more, d_done, d_guard, Reads, r_one, r_row, r_both, r_left, r_right, r_more, r_done, r_guard, Settled, Productive, Stuck}
use Rattle.grammars.proofs.Readings.{never, first_alike, holds_at, holds_front, far_front, Front, front_of, followed, along, carry, one_reading}

module _ {R A : Type 0} (G : R → Part R A) where
  pub stuck_one : (f : A → Bool) (ts : List A) → test f (first ts) ≡ false → (t : A) → f t ≡ true → Stuck G (one f) ts ts
  stuck_one f ts h t e = record {
    before = [];
    split = refl;
    begins = (t ∷ [], leaf t, d_one e);
    no_more = λ s r x w d. wrong s r x (ap (λ o. test f o) w ∙ h) d;
  }
    where
      wrong : (s r : List A) (x : Cst A) → test f (first s) ≡ false → Reads G (one f) s x r → ⊥
      wrong s r x h (r_one e) = never e h

  pub inner : {n : R} {ts r : List A} {x : Cst A} → Reads G (row n) ts x r → (y : Cst A) × Reads G (G n) ts y r
  inner (r_row d) = (_, d)

  pub record Parts (a b : Part R A) (ts r : List A) : Type 0 where
    pub mid : List A
    pub x : Cst A
    pub y : Cst A
    pub here : Reads G a ts x mid
    pub there : Reads G b mid y r

  pub parts : {a b : Part R A} {ts r : List A} {x : Cst A} → Reads G (both a b) ts x r → Parts a b ts r
  parts (r_both d e) = record { mid = _; x = _; y = _; here = d; there = e }

  pub chosen_left : {f : Test A} {a b : Part R A} {ts r : List A} {x : Cst A} → f.holds ts ≡ true → Reads G (choose f a b) ts x r → (y : Cst A) × Reads G a ts y r
  chosen_left h (r_left e d) = (_, d)
  chosen_left h (r_right e d) = never h e

  pub chosen_right : {f : Test A} {a b : Part R A} {ts r : List A} {x : Cst A} → f.holds ts ≡ false → Reads G (choose f a b) ts x r → (y : Cst A) × Reads G b ts y r
  chosen_right h (r_left e d) = never e h
  chosen_right h (r_right e d) = (_, d)

  pub turned : {f : Test A} {a : Part R A} {ts r : List A} {x : Cst A} → f.holds ts ≡ true → Reads G (many f a) ts x r → Parts a (many f a) ts r
  turned h (r_more e d1 d2) = record { mid = _; x = _; y = _; here = d1; there = d2 }
  turned h (r_done e) = never h e

  -- the test has looked at no token behind the next one of the place
  at_stop : {a : Part R A} {ts rest : List A} (k : Stuck G a ts rest) (f : Test A) (s : List A) {b : Bool} → f.far ts ≤ length k.before → first s ≡ first rest → f.holds ts ≡ b → f.holds (k.before ++ s) ≡ b
  at_stop {ts = ts} {rest = rest} k f s le w h = holds_at f k.before rest s ts k.split (omega (arith, le, ap length k.split, length-append k.before rest)) (sym w) h

  pub stuck_row : {n : R} {ts rest : List A} → Stuck G (G n) ts rest → Stuck G (row n) ts rest
  stuck_row k = record {
    before = k.before;
    split = k.split;
    begins = (k.begins.0, node k.begins.1, d_row k.begins.2);
    no_more = λ s r x w d. let i = inner d in k.no_more s r i.0 w i.1;
  }

  pub stuck_left : {f : Test A} {a b : Part R A} {ts rest : List A} → f.holds ts ≡ true → (k : Stuck G a ts rest) → f.far ts ≤ length k.before → Stuck G (choose f a b) ts rest
  stuck_left {f = f} h k le = record {
    before = k.before;
    split = k.split;
    begins = (k.begins.0, left k.begins.1, d_left k.begins.2);
    no_more = λ s r x w d. let i = chosen_left (at_stop k f s le w h) d in k.no_more s r i.0 w i.1;
  }

  pub stuck_right : {f : Test A} {a b : Part R A} {ts rest : List A} → f.holds ts ≡ false → (k : Stuck G b ts rest) → f.far ts ≤ length k.before → Stuck G (choose f a b) ts rest
  stuck_right {f = f} h k le = record {
    before = k.before;
    split = k.split;
    begins = (k.begins.0, right k.begins.1, d_right k.begins.2);
    no_more = λ s r x w d. let i = chosen_right (at_stop k f s le w h) d in k.no_more s r i.0 w i.1;
  }

  -- of two splits of one list the longer front begins with the shorter
  pub record Longer (p q u v : List A) : Type 0 where
    pub between : List A
    pub fronts : p ≡ u ++ between
    pub backs : v ≡ between ++ q

  pub longer : (u p q v : List A) → p ++ q ≡ u ++ v → length u ≤ length p → Longer p q u v
  longer [] p q v e le = record { between = p; fronts = refl; backs = sym e }
  longer (t ∷ u) [] q v e le = absurd (omega (arith, le))
  longer (t ∷ u) (t' ∷ p) q v e le =
      let same : t' ≡ t = cc in
      let rest : p ++ q ≡ u ++ v = cc in
      let k = longer u p q v rest (omega (arith, le)) in
      record { between = k.between; fronts = cons same k.fronts; backs = k.backs }
    where
      cons : {t t' : A} {p p' : List A} → t ≡ t' → p ≡ p' → t ∷ p ≡ t' ∷ p'
      cons e e' = cc

  -- Where the test fails only behind the place at which the second part is stuck, the first part goes on to the later place.
  pub stuck_either : {f : Test A} {a b : Part R A} {ts rest early : List A} → f.holds ts ≡ false → (k : Stuck G a ts rest) → f.far ts ≤ length k.before
      → (e : Stuck G b ts early) → length e.before ≤ length k.before → Stuck G (choose f a b) ts rest
  stuck_either {f = f} {b = b} {rest = rest} {early = early} h k le e shorter = record {
    before = k.before;
    split = k.split;
    begins = (k.begins.0, left k.begins.1, d_left k.begins.2);
    no_more = λ s r x w d. let i = chosen_right (at_stop k f s le w h) d in
        e.no_more (l.between ++ s) r i.0 (sym (ap first l.backs ∙ first_alike l.between rest s (sym w)))
        (along G (ap (λ m. m ++ s) l.fronts ∙ append_assoc e.before l.between s) i.1);
  }
    where
      l : Longer k.before rest e.before early
      l = longer e.before k.before rest early (sym k.split ∙ e.split) shorter

  -- a derivation of the part that follows completes what was begun
  pub after_more : {a : Part R A} (p q o : List A) {x : Cst A} → Derives G a ((p ++ q) ++ o) x [] → Derives G a (p ++ (q ++ o)) x []
  after_more {a = a} p q o {x = x} d = subst (λ m. Derives G a m x []) (append_assoc p q o) d

  pub stuck_first : {a b : Part R A} {ts rest : List A} → Stuck G a ts rest → Productive G b → Stuck G (both a b) ts rest
  stuck_first {a = a} {b = b} k e = record {
    before = k.before;
    split = k.split;
    begins = (k.begins.0 ++ e.0, pair k.begins.1 e.1, after_more k.before k.begins.0 e.0 (d_both (followed G k.begins.2 e.0) e.2));
    no_more = λ s r x w d. let i = parts d in k.no_more s i.mid i.x w i.here;
  }

  -- what is stuck in a later part is stuck
  later : {a b c : Part R A} {ts r rest : List A} {x : Cst A} → (d : Reads G a ts x r) → Stuck G b r rest → Settled (length rest) d
      → ((p q : List A) (y : Cst A) → Derives G a p x q → Derives G b q y [] → (z : Cst A) × Derives G c p z [])
      → ((front : List A) → ts ≡ front ++ rest → (s q : List A) (z : Cst A) → first rest ≡ first s → Reads G c (front ++ s) z q → Parts a b (front ++ s) q) → Stuck G c ts rest
  later {a = a} {b = b} {c = c} {ts = ts} {r = r} {rest = rest} {x = x} d k seen make opened = record {
    before = l.front ++ k.before;
    split = whole;
    begins = (k.begins.0, begun.0, subst (λ m. Derives G c m begun.0 []) (sym (append_assoc l.front k.before k.begins.0)) begun.1);
    no_more = λ s q z w e. impossible s q z w (opened (l.front ++ k.before) whole s q z (sym w) e);
  }
    where
      l : Front G a ts x r
      l = front_of G d

      whole : ts ≡ (l.front ++ k.before) ++ rest
      whole = l.split ∙ ap (λ m. l.front ++ m) k.split ∙ sym (append_assoc l.front k.before rest)

      begun : (z : Cst A) × Derives G c (l.front ++ (k.before ++ k.begins.0)) z []
      begun = make _ _ k.begins.1 (l.derive (k.before ++ k.begins.0)) k.begins.2

      impossible : (s q : List A) (z : Cst A) → first s ≡ first rest → Parts a b ((l.front ++ k.before) ++ s) q → ⊥
      impossible s q z w i =
          let u = carry G d k.before rest s k.split seen (sym w) in
          let same : u.before ≡ l.front ++ k.before = append_cancel_right u.before (l.front ++ k.before) rest (sym u.split ∙ whole) in
          let again = one_reading G (along G (ap (λ m. m ++ s) same) u.reads) i.here in
          k.no_more s q i.y w (along G (sym again.rest) i.there)

  pub stuck_second : {a b : Part R A} {ts r rest : List A} {x : Cst A} → (d : Reads G a ts x r) → Stuck G b r rest → Settled (length rest) d → Stuck G (both a b) ts rest
  stuck_second d k seen = later d k seen (λ p q y d e. (_, d_both d e)) (λ front split s q z w e. parts e)

  pub stuck_turn : {f : Test A} {a : Part R A} {ts rest : List A} → f.holds ts ≡ true → (k : Stuck G a ts rest) → f.far ts ≤ length k.before → Stuck G (many f a) ts rest
  stuck_turn {f = f} h k le = record {
    before = k.before;
    split = k.split;
    begins = (k.begins.0, pair k.begins.1 none, d_more k.begins.2 d_done);
    no_more = λ s r x w d. let i = turned (at_stop k f s le w h) d in k.no_more s i.mid i.x w i.here;
  }

  pub stuck_more : {f : Test A} {a : Part R A} {ts r rest : List A} {x : Cst A} → f.holds ts ≡ true → length rest + f.far ts ≤ length ts
      → (d : Reads G a ts x r) → Stuck G (many f a) r rest → Settled (length rest) d → Stuck G (many f a) ts rest
  stuck_more {f = f} {ts = ts} {rest = rest} h le d k seen = later d k seen (λ p q y d e. (_, d_more d e))
      (λ front split s q z w e. turned (holds_at f front rest s ts split le w h) e)

  -- where a part is stuck it can't be read
  pub not_both : {a : Part R A} {ts r rest : List A} {x : Cst A} → Reads G a ts x r → Stuck G a ts rest → ⊥
  not_both {a = a} {r = r} {rest = rest} {x = x} d k = k.no_more rest r x refl (along G k.split d)

  pub into_guard : {f : Test A} {a : Part R A} {ts r : List A} {x : Cst A} → Reads G (guard f a) ts x r → (y : Cst A) × Reads G a ts y r
  into_guard (r_guard h d p) = (_, d)

  pub stuck_guard : {f : Test A} {a : Part R A} {ts rest : List A} → f.holds ts ≡ true → (k : Stuck G a ts rest) → f.far ts < length k.before → Stuck G (guard f a) ts rest
  stuck_guard {f = f} {ts = ts} {rest = rest} h k p = record {
    before = k.before;
    split = k.split;
    begins = (
      k.begins.0,
      node k.begins.1,
      d_guard (holds_front f k.before rest k.begins.0 ts k.split p ∙ h) k.begins.2
          (omega (arith, p, length-append k.before k.begins.0, far_front f k.before rest k.begins.0 ts k.split p)),
    );
    no_more = λ s r x w d. let i = into_guard d in k.no_more s r i.0 w i.1;
  }

  out_of_guard : {f : Test A} {a : Part R A} {ts r : List A} {x : Cst A} → f.holds ts ≡ false → Reads G (guard f a) ts x r → ⊥
  out_of_guard h (r_guard e d p) = never e h

  -- where a test of the next token fails, the part is stuck there
  pub stuck_unguarded : {f : Test A} {a : Part R A} (ts : List A) → f.holds ts ≡ false → f.far ts ≡ 0 → Productive G (guard f a) → Stuck G (guard f a) ts ts
  stuck_unguarded {f = f} ts h z p = record {
    before = [];
    split = refl;
    begins = p;
    no_more = λ s r x w d. out_of_guard (holds_at f [] ts s ts refl (omega (arith, z)) (sym w) h) d;
  }

  -- Where a test of the first part has looked behind the place at which the second is stuck, the place is where the tests are settled,
  -- if the tokens before that begin a list with a derivation.
  pub stuck_beyond : {a b : Part R A} {ts r early rest : List A} {x : Cst A} → (d : Reads G a ts x r) → Settled (length rest) d → Stuck G b r early → (before : List A) → ts ≡ before ++ rest
      → length rest ≤ length early → ((c : List A) × (y : Cst A) × Derives G (both a b) (before ++ c) y []) → Stuck G (both a b) ts rest
  stuck_beyond {a = a} {b = b} {ts = ts} {r = r} {early = early} {rest = rest} {x = x} d seen e before split le begun = record {
    before = before;
    split = split;
    begins = begun;
    no_more = λ s q z w o. impossible s q w (parts o);
  }
    where
      front : Front G a ts x r
      front = front_of G d

      at_early : ts ≡ (front.front ++ e.before) ++ early
      at_early = front.split ∙ ap (λ m. front.front ++ m) e.split ∙ sym (append_assoc front.front e.before early)

      l : Longer before rest (front.front ++ e.before) early
      l = longer (front.front ++ e.before) before rest early (sym split ∙ at_early)
          (omega (arith, le, ap length split, ap length at_early, length-append before rest, length-append (front.front ++ e.before) early))

      at_rest : r ≡ (e.before ++ l.between) ++ rest
      at_rest = e.split ∙ ap (λ m. e.before ++ m) l.backs ∙ sym (append_assoc e.before l.between rest)

      impossible : (s q : List A) → first s ≡ first rest → Parts a b (before ++ s) q → ⊥
      impossible s q w i =
          let u = carry G d (e.before ++ l.between) rest s at_rest seen (sym w) in
          let same : u.before ≡ before = append_cancel_right u.before before rest (sym u.split ∙ split) in
          let again = one_reading G (along G (ap (λ m. m ++ s) same) u.reads) i.here in
          e.no_more (l.between ++ s) q i.y (sym (ap first l.backs ∙ first_alike l.between rest s (sym w)))
          (along G (sym again.rest ∙ append_assoc e.before l.between s) i.there)

-- A list that has a derivation has a reading: loops give their turns to the loops within.
use Rattle.std.proofs.Common.{◌≡◌, ℕ, zero, suc, ◌+◌, ◌<◌, ◌≤◌, Bool, true, false, ◌&&◌, ◌||◌, List, [], ◌∷◌, ◌++◌, length, ◌⊎◌, inl, inr, refl, subst, arith}
use Rattle.grammars.specs.Grammar.{Test, Part, nothing, one, row, both, choose, many, guard, Cst, none, leaf, node, pair, left, right, first, Derives, d_nothing, d_one, d_row, d_both, d_left, d_right, d_more, d_done, d_guard, Reads, r_nothing, r_one, r_row, r_both, r_left, r_right, r_more, r_done, r_guard, Stuck}
use Rattle.grammars.specs.Tables.{is_empty, IsEmptyTable, Leaves, Covers}
use Rattle.grammars.specs.Fair.{Offers, o_end, o_apart, o_many, o_maybe, Edge, e_many, e_inside, e_maybe, e_left, e_right, e_guard, e_row, e_second, e_first, Fair, f_row, f_guard, f_both, f_choose, f_many}
use Rattle.grammars.proofs.Readings.{never, derives}
use Rattle.grammars.proofs.Progress.{shorter}

pub or_left : (a b : Bool) → a ≡ true → (a || b) ≡ true
or_left true b e = refl
or_left false b e = never e refl

pub or_right : (a b : Bool) → b ≡ true → (a || b) ≡ true
or_right true b e = refl
or_right false b e = e

pub and_both : (a b : Bool) → a ≡ true → b ≡ true → (a && b) ≡ true
and_both true b p q = q
and_both false b p q = p

module _ {R A : Type 0} (G : R → Part R A) (empty : R → Bool) (empties : IsEmptyTable G empty) where
  -- a list of parts derives a list in so many steps, each of which opens the first part
  pub data All : ℕ → List (Part R A) → List A → Type 0 where
    a_end : All 0 [] []
    a_nothing : {n : ℕ} {K : List (Part R A)} {ts : List A} → All n K ts → All (suc n) (nothing ∷ K) ts
    a_one : {n : ℕ} {f : A → Bool} {t : A} {K : List (Part R A)} {ts : List A} → f t ≡ true → All n K ts → All (suc n) (one f ∷ K) (t ∷ ts)
    a_row : {n : ℕ} {r : R} {K : List (Part R A)} {ts : List A} → All n (G r ∷ K) ts → All (suc n) (row r ∷ K) ts
    a_both : {n : ℕ} {a b : Part R A} {K : List (Part R A)} {ts : List A} → All n (a ∷ b ∷ K) ts → All (suc n) (both a b ∷ K) ts
    a_left : {n : ℕ} {f : Test A} {a b : Part R A} {K : List (Part R A)} {ts : List A} → All n (a ∷ K) ts → All (suc n) (choose f a b ∷ K) ts
    a_right : {n : ℕ} {f : Test A} {a b : Part R A} {K : List (Part R A)} {ts : List A} → All n (b ∷ K) ts → All (suc n) (choose f a b ∷ K) ts
    a_more : {n : ℕ} {f : Test A} {p : Part R A} {K : List (Part R A)} {ts : List A} → All n (p ∷ many f p ∷ K) ts → All (suc n) (many f p ∷ K) ts
    a_guard : {n : ℕ} {f : Test A} {a : Part R A} {K : List (Part R A)} {ts : List A} → f.holds ts ≡ true → is_empty empty a ≡ false → Covers G f a → All n (a ∷ K) ts → All (suc n) (guard f a ∷ K) ts
    a_done : {n : ℕ} {f : Test A} {p : Part R A} {K : List (Part R A)} {ts : List A} → All n K ts → All (suc n) (many f p ∷ K) ts

  -- what the first part took: nothing, which it can do anywhere, or some tokens
  pub data Took (k : Part R A) (n : ℕ) : List A → List A → Type 0 where
    no_token : {ts : List A} → is_empty empty k ≡ true → ((us : List A) (K : List (Part R A)) (m : ℕ) → All m K us → All (n + m) (k ∷ K) us) → Took k n ts ts
    some_tokens : {ts r : List A} → length r < length ts → Took k n ts r

  pub record Split (n : ℕ) (k : Part R A) (K : List (Part R A)) (ts : List A) : Type 0 where
    pub rest : List A
    pub n1 : ℕ
    pub n2 : ℕ
    pub sum : n1 + n2 ≡ n
    pub seg : (K' : List (Part R A)) (m : ℕ) → All m K' rest → All (n1 + m) (k ∷ K') ts
    pub after : All n2 K rest
    pub took : Took k n1 ts rest
    pub some : 0 < n1
    pub tree : Cst A
    pub derived : Derives G k ts tree rest

  at_size : {n m : ℕ} {K : List (Part R A)} {ts : List A} → n ≡ m → All n K ts → All m K ts
  at_size {K = K} {ts = ts} e d = subst (λ n. All n K ts) e d

  took_row : {r : R} {n : ℕ} {ts rest : List A} → Took (G r) n ts rest → Took (row r) (suc n) ts rest
  took_row {r = r} {n = n} (no_token e f) = no_token (empties r e) (λ us K m d. at_size (omega arith) (a_row (f us K m d)))
  took_row {r = r} (some_tokens b) = some_tokens b

  took_left : {f : Test A} {a b : Part R A} {n : ℕ} {ts rest : List A} → Took a n ts rest → Took (choose f a b) (suc n) ts rest
  took_left (no_token e f) = no_token (or_left _ _ e) (λ us K m d. at_size (omega arith) (a_left (f us K m d)))
  took_left (some_tokens b) = some_tokens b

  took_right : {f : Test A} {a b : Part R A} {n : ℕ} {ts rest : List A} → Took b n ts rest → Took (choose f a b) (suc n) ts rest
  took_right (no_token e f) = no_token (or_right _ _ e) (λ us K m d. at_size (omega arith) (a_right (f us K m d)))
  took_right (some_tokens b) = some_tokens b

  took_both : {a b : Part R A} {n m : ℕ} {ts mid rest : List A} → length rest ≤ length mid → Took a n ts mid → Took b m mid rest → Took (both a b) (suc (n + m)) ts rest
  took_both le (no_token e f) (no_token e' f') = no_token (and_both _ _ e e') (λ us K m d. at_size (omega arith) (a_both (f us _ _ (f' us K m d))))
  took_both le (no_token e f) (some_tokens b) = some_tokens b
  took_both le (some_tokens b) k = some_tokens (omega (arith, b, le))

  took_turn : {f : Test A} {p : Part R A} {n m : ℕ} {ts mid rest : List A} → length rest ≤ length mid → Took p n ts mid → Took (many f p) m mid rest → Took (many f p) (suc (n + m)) ts rest
  took_turn le (no_token e f) (no_token e' f') = no_token refl (λ us K m d. at_size (omega arith) (a_more (f us _ _ (f' us K m d))))
  took_turn le (no_token e f) (some_tokens b) = some_tokens b
  took_turn le (some_tokens b) k = some_tokens (omega (arith, b, le))

  took_guard : {f : Test A} {a : Part R A} {n : ℕ} {ts rest : List A} → is_empty empty a ≡ false → Took a n ts rest → Took (guard f a) (suc n) ts rest
  took_guard z (no_token e f) = never e z
  took_guard z (some_tokens b) = some_tokens b

  pub split : (fuel n : ℕ) {k : Part R A} {K : List (Part R A)} {ts : List A} → n ≤ fuel → All n (k ∷ K) ts → Split n k K ts
  split zero zero le d = elim d [ ]
  split (suc fuel) zero le d = elim d [ ]
  split zero (suc n) le d = absurd (omega arith)
  split (suc fuel) (suc n) le (a_nothing {ts = ts} d) = record { rest = ts; n1 = 1; n2 = n; sum = omega arith; seg = λ K m e. at_size (omega arith) (a_nothing e); after = d; some = omega arith; took = no_token refl (λ us K m e. at_size (omega arith) (a_nothing e)); tree = none; derived = d_nothing }
  split (suc fuel) (suc n) le (a_one {ts = ts} h d) = record { rest = ts; n1 = 1; n2 = n; sum = omega arith; seg = λ K m e. at_size (omega arith) (a_one h e); after = d; some = omega arith; took = some_tokens (omega arith); tree = leaf _; derived = d_one h }
  split (suc fuel) (suc n) le (a_row d) =
      let s = split fuel n (omega arith) d in
      record { rest = s.rest; n1 = suc s.n1; n2 = s.n2; sum = omega (arith, s.sum); seg = λ K m e. at_size (omega arith) (a_row (s.seg K m e)); after = s.after; some = omega arith; took = took_row s.took; tree = node s.tree; derived = d_row s.derived }
  split (suc fuel) (suc n) le (a_both d) =
      let s = split fuel n (omega arith) d in
      let u = split fuel s.n2 (omega (arith, s.sum)) s.after in
      record { rest = u.rest; n1 = suc (s.n1 + u.n1); n2 = u.n2; sum = omega (arith, s.sum, u.sum); seg = λ K m e. at_size (omega arith) (a_both (s.seg _ _ (u.seg K m e))); after = u.after; some = omega arith; took = took_both (shorter G u.derived) s.took u.took; tree = pair s.tree u.tree; derived = d_both s.derived u.derived }
  split (suc fuel) (suc n) le (a_left d) =
      let s = split fuel n (omega arith) d in
      record { rest = s.rest; n1 = suc s.n1; n2 = s.n2; sum = omega (arith, s.sum); seg = λ K m e. at_size (omega arith) (a_left (s.seg K m e)); after = s.after; some = omega arith; took = took_left s.took; tree = left s.tree; derived = d_left s.derived }
  split (suc fuel) (suc n) le (a_right d) =
      let s = split fuel n (omega arith) d in
      record { rest = s.rest; n1 = suc s.n1; n2 = s.n2; sum = omega (arith, s.sum); seg = λ K m e. at_size (omega arith) (a_right (s.seg K m e)); after = s.after; some = omega arith; took = took_right s.took; tree = right s.tree; derived = d_right s.derived }
  split (suc fuel) (suc n) le (a_more d) =
      let s = split fuel n (omega arith) d in
      let u = split fuel s.n2 (omega (arith, s.sum)) s.after in
      record { rest = u.rest; n1 = suc (s.n1 + u.n1); n2 = u.n2; sum = omega (arith, s.sum, u.sum); seg = λ K m e. at_size (omega arith) (a_more (s.seg _ _ (u.seg K m e))); after = u.after; some = omega arith; took = took_turn (shorter G u.derived) s.took u.took; tree = pair s.tree u.tree; derived = d_more s.derived u.derived }
  split (suc fuel) (suc n) le (a_guard h z c d) =
      let s = split fuel n (omega arith) d in
      record { rest = s.rest; n1 = suc s.n1; n2 = s.n2; sum = omega (arith, s.sum); seg = λ K m e. at_size (omega arith) (a_guard h z c (s.seg K m e)); after = s.after; some = omega arith; took = took_guard z s.took; tree = node s.tree; derived = d_guard h s.derived (c.covers _ _ _ h s.derived) }
  split (suc fuel) (suc n) le (a_done {ts = ts} d) = record { rest = ts; n1 = 1; n2 = n; sum = omega arith; seg = λ K m e. at_size (omega arith) (a_done e); after = d; some = omega arith; took = no_token refl (λ us K m e. at_size (omega arith) (a_done e)); tree = none; derived = d_done }

  abbrev low : Bool → ℕ
  low true = 1
  low false = 0

  abbrev high : Bool → ℕ
  high true = 0
  high false = 1

  -- a turn of a loop is taken out of what stands behind it
  pub record Stolen (c : Bool) (n : ℕ) (q : Part R A) (K : List (Part R A)) (ts : List A) : Type 0 where
    pub rest : List A
    pub n1 : ℕ
    pub n2 : ℕ
    pub seg : (K' : List (Part R A)) (m : ℕ) → All m K' rest → All (n1 + m) (q ∷ K') ts
    pub after : All n2 K rest
    pub bound : n1 + n2 + low c ≤ n + high c

  past : {g : Test A} {q k : Part R A} {c : Bool} {K : List (Part R A)} {n1 n2 n : ℕ} {ts rest : List A} {x : Cst A} → n1 + n2 ≡ n → g.holds ts ≡ true → Leaves G g k → Derives G k ts x rest
      → Took k n1 ts rest → ((is_empty empty k ≡ true) → rest ≡ ts → Stolen c n2 q K ts) → Stolen c n q (k ∷ K) ts
  past {c = c} {n1 = n1} e h apart d (no_token z go) rec =
      let u = rec z refl in
      record { rest = u.rest; n1 = u.n1; n2 = n1 + u.n2; seg = u.seg; after = go u.rest _ u.n2 u.after; bound = omega (arith, e, u.bound) }
  past e h apart d (some_tokens b) rec = never h (apart.leaves _ _ _ d b)

  pub steal : {g : Test A} {q : Part R A} {c : Bool} {K : List (Part R A)} {n : ℕ} {t : A} {us : List A} → Offers G empty g q c K → All n K (t ∷ us) → g.holds (t ∷ us) ≡ true → Stolen c n q K (t ∷ us)
  steal o_end d h = elim d [ ]
  steal {n = n} (o_apart {K = K} apart o) d h =
      let s = split n n (omega arith) d in
      past s.sum h apart s.derived s.took (λ z e. steal (o z) (subst (λ m. All s.n2 K m) e s.after) h)
  steal (o_many o) (a_more {n = n} e) h =
      let s = split n n (omega arith) e in
      record { rest = s.rest; n1 = s.n1; n2 = s.n2; seg = s.seg; after = s.after; bound = omega (arith, s.sum) }
  steal (o_many o) (a_done e) h =
      let u = steal o e h in
      record { rest = u.rest; n1 = u.n1; n2 = suc u.n2; seg = u.seg; after = a_done u.after; bound = omega (arith, u.bound) }
  steal (o_maybe o) (a_left {n = n} e) h =
      let s = split n n (omega arith) e in
      record { rest = s.rest; n1 = s.n1; n2 = suc (suc s.n2); seg = s.seg; after = a_right (a_nothing s.after); bound = omega (arith, s.sum) }
  steal (o_maybe o) (a_right (a_nothing e)) h =
      let u = steal o e h in
      record { rest = u.rest; n1 = u.n1; n2 = suc (suc u.n2); seg = u.seg; after = a_right (a_nothing u.after); bound = omega (arith, u.bound) }

  pub data Good : List (Part R A) → Type 0 where
    g_end : Good []
    g_cons : {k : Part R A} {K : List (Part R A)} → Fair G empty k → ((c : Bool) (g : Test A) (q : Part R A) → Edge G empty c k g q → Offers G empty g q c K) → Good K → Good (k ∷ K)

  pub data ReadsAll : List (Part R A) → List A → Type 0 where
    ra_end : ReadsAll [] []
    ra_cons : {a : Part R A} {K : List (Part R A)} {ts r : List A} {x : Cst A} → Reads G a ts x r → ReadsAll K r → ReadsAll (a ∷ K) ts

  close_row : {r : R} {K : List (Part R A)} {ts : List A} → ReadsAll (G r ∷ K) ts → ReadsAll (row r ∷ K) ts
  close_row (ra_cons d k) = ra_cons (r_row d) k

  close_both : {a b : Part R A} {K : List (Part R A)} {ts : List A} → ReadsAll (a ∷ b ∷ K) ts → ReadsAll (both a b ∷ K) ts
  close_both (ra_cons d (ra_cons e k)) = ra_cons (r_both d e) k

  close_guard : {f : Test A} {a : Part R A} {K : List (Part R A)} {ts : List A} → f.holds ts ≡ true → Covers G f a → ReadsAll (a ∷ K) ts → ReadsAll (guard f a ∷ K) ts
  close_guard h c (ra_cons d k) = ra_cons (r_guard h d (c.covers _ _ _ h (derives G d))) k

  close_left : {f : Test A} {a b : Part R A} {K : List (Part R A)} {ts : List A} → f.holds ts ≡ true → ReadsAll (a ∷ K) ts → ReadsAll (choose f a b ∷ K) ts
  close_left h (ra_cons d k) = ra_cons (r_left h d) k

  close_right : {f : Test A} {a b : Part R A} {K : List (Part R A)} {ts : List A} → f.holds ts ≡ false → ReadsAll (b ∷ K) ts → ReadsAll (choose f a b ∷ K) ts
  close_right h (ra_cons d k) = ra_cons (r_right h d) k

  close_turn : {f : Test A} {p : Part R A} {K : List (Part R A)} {ts : List A} → f.holds ts ≡ true → ReadsAll (p ∷ many f p ∷ K) ts → ReadsAll (many f p ∷ K) ts
  close_turn h (ra_cons d (ra_cons e k)) = ra_cons (r_more h d e) k

  decide : (b : Bool) → (b ≡ true) ⊎ (b ≡ false)
  decide true = inl refl
  decide false = inr refl

  -- what becomes of a choice that took its second part: the test fails, or the first part can be taken instead
  data Choice (f : Test A) (a : Part R A) (K : List (Part R A)) (n : ℕ) (ts : List A) : Type 0 where
    stay : f.holds ts ≡ false → Choice f a K n ts
    switch : f.holds ts ≡ true → (m : ℕ) → m ≤ n → All m (a ∷ K) ts → Choice f a K n ts

  choice_at : {f : Test A} {a : Part R A} {K : List (Part R A)} {n n1 n2 : ℕ} {t : A} {us : List A} (b : Bool) → f.holds (t ∷ us) ≡ b
      → All n2 K (t ∷ us) → 0 < n1 → n1 + n2 ≡ n → Offers G empty f a false K → Choice f a K n (t ∷ us)
  choice_at false h after some sum o = stay h
  choice_at {K = K} true h after some sum o =
      let w = steal o after h in switch h (w.n1 + w.n2) (omega (arith, w.bound, some, sum)) (w.seg K w.n2 w.after)

  choice_of : {f : Test A} {a : Part R A} {K : List (Part R A)} {n n1 n2 : ℕ} (ts : List A)
      → All n2 K ts → 0 < n1 → n1 + n2 ≡ n → Offers G empty f a false K → Choice f a K n ts
  choice_of {f = f} [] after some sum o = stay f.ends
  choice_of {f = f} (t ∷ us) after some sum o = choice_at (f.holds (t ∷ us)) refl after some sum o

  choice : {f : Test A} {a b : Part R A} {K : List (Part R A)} {n n1 n2 : ℕ} {ts rest : List A} {x : Cst A} → Took b n1 ts rest → Derives G b ts x rest → Leaves G f b
      → All n2 K rest → 0 < n1 → n1 + n2 ≡ n → (is_empty empty b ≡ true → Offers G empty f a false K) → Choice f a K n ts
  choice {ts = ts} (no_token z go) d w after some sum o = choice_of ts after some sum (o z)
  choice (some_tokens p) d w after some sum o = stay (w.leaves _ _ _ d p)

  module _ (fair : (r : R) → Fair G empty (G r)) where
    pub normal : (fuel n : ℕ) {K : List (Part R A)} {ts : List A} → n ≤ fuel → All n K ts → Good K → ReadsAll K ts
    normal fuel zero le a_end g = ra_end
    normal zero (suc n) le d g = absurd (omega arith)
    normal (suc fuel) (suc n) le (a_nothing d) (g_cons f e g) = ra_cons r_nothing (normal fuel n (omega arith) d g)
    normal (suc fuel) (suc n) le (a_one h d) (g_cons f e g) = ra_cons (r_one h) (normal fuel n (omega arith) d g)
    normal (suc fuel) (suc n) le (a_row {r = r} d) (g_cons f e g) = close_row (normal fuel n (omega arith) d (g_cons (fair r) (λ c o q i. e c o q (e_row i)) g))
    normal (suc fuel) (suc n) le (a_guard h z c d) (g_cons (f_guard fa z' c') e g) =
        close_guard h c (normal fuel n (omega arith) d (g_cons fa (λ c o q i. e c o q (e_guard i)) g))
    normal (suc fuel) (suc n) le (a_both {K = K} d) (g_cons (f_both fa fb by) e g) =
        close_both (normal fuel n (omega arith) d (g_cons fa (λ c o q i. by c o q i K (λ z. e c o q (e_first z i))) (g_cons fb (λ c o q i. e c o q (e_second i)) g)))
    normal (suc fuel) (suc n) le (a_left d) (g_cons (f_choose fa fb u w) e g) =
        close_left (u.picks _ _ _ (split n n (omega arith) d).derived) (normal fuel n (omega arith) d (g_cons fa (λ c o q i. e c o q (e_left i)) g))
    normal (suc fuel) (suc n) {ts = ts} le (a_right {f = f} {a = a} {b = b} {K = K} d) (g_cons (f_choose fa fb u w) e g) =
        let s = split n n (omega arith) d in
        elim (choice s.took s.derived w s.after s.some s.sum (λ z. e false f a (e_maybe z))) as (λ _. ReadsAll (choose f a b ∷ K) ts) [
          | stay h ↦ close_right h (normal fuel n (omega arith) d (g_cons fb (λ c o q i. e c o q (e_right i)) g))
          | switch h m bound steps ↦ close_left h (normal fuel m (omega (arith, bound)) steps (g_cons fa (λ c o q i. e c o q (e_left i)) g))
        ]
    normal (suc fuel) (suc n) le (a_more {K = K} d) (g_cons (f_many fp u by) e g) =
        close_turn (u.picks _ _ _ (split n n (omega arith) d).derived)
        (normal fuel n (omega arith) d (g_cons fp (λ c o q i. by c o q i K (λ w. e c o q (e_inside i))) (g_cons (f_many fp u by) e g)))
    normal (suc fuel) (suc n) {ts = []} le (a_done {f = f} d) (g_cons (f_many fp u by) e g) = ra_cons (r_done f.ends) (normal fuel n (omega arith) d g)
    normal (suc fuel) (suc n) {ts = t ∷ us} le (a_done {f = f} {p = p} {K = K} d) (g_cons (f_many fp u by) e g) =
        elim (decide (f.holds (t ∷ us))) as (λ _. ReadsAll (many f p ∷ K) (t ∷ us)) [
          | inl h ↦ (let w = steal (e true f p e_many) d h in
              close_turn h (normal fuel (w.n1 + suc w.n2) (omega (arith, w.bound)) (w.seg (many f p ∷ K) (suc w.n2) (a_done w.after))
              (g_cons fp (λ c o q i. by c o q i K (λ y. e c o q (e_inside i))) (g_cons (f_many fp u by) e g))))
          | inr h ↦ ra_cons (r_done h) (normal fuel n (omega arith) d g)
        ]

    -- each derivation of a whole list can be opened part by part
    pub record Opened (K : List (Part R A)) (ts : List A) : Type 0 where
      pub size : ℕ
      pub steps : All size K ts

    pub opened : {a : Part R A} {K : List (Part R A)} {ts r : List A} {x : Cst A} {m : ℕ} → Derives G a ts x r → Fair G empty a → All m K r → Opened (a ∷ K) ts
    opened d_nothing f k = record { size = _; steps = a_nothing k }
    opened (d_one h) f k = record { size = _; steps = a_one h k }
    opened (d_row {n = n} d) f k = record { size = _; steps = a_row (opened d (fair n) k).steps }
    opened (d_both d e) (f_both fa fb by) k = record { size = _; steps = a_both (opened d fa (opened e fb k).steps).steps }
    opened (d_left d) (f_choose fa fb u w) k = record { size = _; steps = a_left (opened d fa k).steps }
    opened (d_right d) (f_choose fa fb u w) k = record { size = _; steps = a_right (opened d fb k).steps }
    opened (d_more d e) (f_many fp u by) k = record { size = _; steps = a_more (opened d fp (opened e (f_many fp u by) k).steps).steps }
    opened (d_guard h d p) (f_guard fa z c) k = record { size = _; steps = a_guard h z c (opened d fa k).steps }
    opened d_done f k = record { size = _; steps = a_done k }

    pub record IsRead (a : Part R A) (ts : List A) : Type 0 where
      pub tree : Cst A
      pub reads : Reads G a ts tree []

    only_one : {a : Part R A} {ts : List A} → ReadsAll (a ∷ []) ts → IsRead a ts
    only_one (ra_cons d ra_end) = record { tree = _; reads = d }

    -- where a whole list has a derivation by a row, it has a reading by it
    pub has_reading : {r : R} {ts : List A} {x : Cst A} → Derives G (row r) ts x [] → IsRead (row r) ts
    has_reading d =
        let o = opened d f_row a_end in
        only_one (normal o.size o.size (omega arith) o.steps (g_cons f_row (λ c g q i. o_end) g_end))

    -- where a row that must take a whole list is stuck, no list that goes on with the token there, or ends there, has a derivation
    pub refused : {r : R} {ts rest : List A} (k : Stuck G (row r) ts rest) (s : List A) (x : Cst A) → first s ≡ first rest → Derives G (row r) (k.before ++ s) x [] → ⊥
    refused k s x w d = let i = has_reading d in k.no_more s [] i.tree w i.reads

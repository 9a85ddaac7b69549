-- A derivation of a whole list that obeys the rules is the reading.
use Rattle.std.proofs.Common.{◌≡◌, ℕ, zero, suc, ◌<◌, ◌≤◌, Bool, true, false, ◌&&◌, List, [], length, ◌⊎◌, inl, inr, refl, sym, ap, subst, arith}
use Rattle.grammars.specs.Grammar.{Test, Part, row, both, choose, many, Cst, none, node, pair, left, right, Derives, d_nothing, d_one, d_row, d_both, d_left, d_right, d_more, d_done, d_guard, Reads, r_nothing, r_one, r_row, r_both, r_left, r_right, r_more, r_done, r_guard, Stuck}
use Rattle.grammars.specs.Tables.{is_empty, IsEmptyTable, Picks, Leaves}
use Rattle.grammars.specs.Fair.{Edge, e_many, e_inside, e_maybe, e_left, e_right, e_guard, e_row, e_second, e_first}
use Rattle.grammars.specs.Order.{count, Prefers, p_turn, p_taken, p_node, p_left, p_right, p_first, p_second}
use Rattle.grammars.proofs.Readings.{never, one_reading}
use Rattle.grammars.proofs.Progress.{shorter}
use Rattle.grammars.proofs.Normal.{or_left, or_right, and_both}
use Rattle.grammars.proofs.Order.{counted, takes}
use Rattle.bound_grammars.specs.Obeying.{Among, Obeys, b_nothing, b_one, b_row, b_both, b_left, b_right, b_more, b_done, b_guard, IsFaultBut}
use Rattle.bound_grammars.specs.Clear.{Decided, IsDecidedBut, Apart, IsClearBut}

module _ {R A : Type 0} (G : R → Part R A) where
  pub obeys : {Rule : Test A → Type 0} {a : Part R A} {ts r : List A} {x : Cst A} → Reads G a ts x r → Obeys G Rule a ts x r
  obeys r_nothing = b_nothing
  obeys (r_one h) = b_one h
  obeys (r_row d) = b_row (obeys d)
  obeys (r_both d e) = b_both (obeys d) (obeys e)
  obeys (r_left h d) = b_left (λ u. h) (obeys d)
  obeys (r_right h d) = b_right (λ u. h) (obeys d)
  obeys (r_more h d e) = b_more (λ u. h) (obeys d) (obeys e)
  obeys (r_done h) = b_done (λ u. h)
  obeys (r_guard h d p) = b_guard h (obeys d) p

  pub derives : {Rule : Test A → Type 0} {a : Part R A} {ts r : List A} {x : Cst A} → Obeys G Rule a ts x r → Derives G a ts x r
  derives b_nothing = d_nothing
  derives (b_one h) = d_one h
  derives (b_row d) = d_row (derives d)
  derives (b_both d e) = d_both (derives d) (derives e)
  derives (b_left h d) = d_left (derives d)
  derives (b_right h d) = d_right (derives d)
  derives (b_more h d e) = d_more (derives d) (derives e)
  derives (b_done h) = d_done
  derives (b_guard h d p) = d_guard h (derives d) p

  pub fewer : {Rule Fewer : Test A → Type 0} {a : Part R A} {ts r : List A} {x : Cst A} → ((f : Test A) → Fewer f → Rule f) → Obeys G Rule a ts x r → Obeys G Fewer a ts x r
  fewer k b_nothing = b_nothing
  fewer k (b_one h) = b_one h
  fewer k (b_row d) = b_row (fewer k d)
  fewer k (b_both d e) = b_both (fewer k d) (fewer k e)
  fewer k (b_left {f = f} h d) = b_left (λ u. h (k f u)) (fewer k d)
  fewer k (b_right {f = f} h d) = b_right (λ u. h (k f u)) (fewer k d)
  fewer k (b_more {f = f} h d e) = b_more (λ u. h (k f u)) (fewer k d) (fewer k e)
  fewer k (b_done {f = f} h) = b_done (λ u. h (k f u))
  fewer k (b_guard h d p) = b_guard h (fewer k d) p

  no_rule : {B : Type 0} {f : Test A} → Among [] f → B
  no_rule u = elim u [ ]

  pub none_obeyed : {a : Part R A} {ts r : List A} {x : Cst A} → Derives G a ts x r → Obeys G (Among []) a ts x r
  none_obeyed d_nothing = b_nothing
  none_obeyed (d_one h) = b_one h
  none_obeyed (d_row d) = b_row (none_obeyed d)
  none_obeyed (d_both d e) = b_both (none_obeyed d) (none_obeyed e)
  none_obeyed (d_left d) = b_left (λ u. no_rule u) (none_obeyed d)
  none_obeyed (d_right d) = b_right (λ u. no_rule u) (none_obeyed d)
  none_obeyed (d_more d e) = b_more (λ u. no_rule u) (none_obeyed d) (none_obeyed e)
  none_obeyed d_done = b_done (λ u. no_rule u)
  none_obeyed (d_guard h d p) = b_guard h (none_obeyed d) p

-- a derivation takes no token, and the part may be empty, or takes some
pub data Takes (e : Bool) {A : Type 0} : List A → List A → Type 0 where
  takes_none : {ts : List A} → e ≡ true → Takes e ts ts
  takes_some : {ts r : List A} → length r < length ts → Takes e ts r

weaker : {A : Type 0} {e e' : Bool} {ts r : List A} → (e ≡ true → e' ≡ true) → Takes e ts r → Takes e' ts r
weaker k (takes_none z) = takes_none (k z)
weaker k (takes_some l) = takes_some l

one_by_one : {A : Type 0} {e e' : Bool} {ts r s : List A} → length s ≤ length r → Takes e ts r → Takes e' r s → Takes (e && e') ts s
one_by_one le (takes_none z) (takes_none z') = takes_none (and_both _ _ z z')
one_by_one le (takes_none z) (takes_some l) = takes_some l
one_by_one le (takes_some l) k = takes_some (omega (arith, l, le))

turn_by_turn : {A : Type 0} {e : Bool} {ts r s : List A} → length s ≤ length r → Takes e ts r → Takes true r s → Takes true ts s
turn_by_turn le (takes_none z) k = k
turn_by_turn le (takes_some l) k = takes_some (omega (arith, l, le))

module _ {R A : Type 0} (G : R → Part R A) (empty : R → Bool) (empties : IsEmptyTable G empty) where
  pub taken : {a : Part R A} {ts r : List A} {x : Cst A} → Derives G a ts x r → Takes (is_empty empty a) ts r
  taken d_nothing = takes_none refl
  taken (d_one h) = takes_some (omega arith)
  taken (d_row {n = n} d) = weaker (empties n) (taken d)
  taken (d_both d e) = one_by_one (shorter G e) (taken d) (taken e)
  taken (d_left d) = weaker (λ z. or_left _ _ z) (taken d)
  taken (d_right d) = weaker (λ z. or_right _ _ z) (taken d)
  taken (d_more d e) = turn_by_turn (shorter G e) (taken d) (taken e)
  taken d_done = takes_none refl
  taken (d_guard h d p) = takes_some (omega (arith, p))

module _ {R A : Type 0} (G : R → Part R A) (empty : R → Bool) (Rule : Test A → Type 0) (k : IsClearBut G empty Rule) where
  -- no loop that may stand last in the part goes on with the rest, but by a rule
  pub data Stops (a : Part R A) (r : List A) : Type 0 where
    stops : ((c : Bool) (g : Test A) (q : Part R A) → Edge G empty c a g q → Rule g ⊎ (g.holds r ≡ false)) → Stops a r

  stop_in : {a b : Part R A} {r : List A} → ((c : Bool) (g : Test A) (q : Part R A) → Edge G empty c a g q → Edge G empty c b g q) → Stops b r → Stops a r
  stop_in up (stops s) = stops (λ c g q i. s c g q (up c g q i))

  ruled : {g : Test A} {b : Part R A} {ts r : List A} {x : Cst A} → Rule g ⊎ Leaves G g b → Derives G b ts x r → length r < length ts → Rule g ⊎ (g.holds ts ≡ false)
  ruled (inl u) d l = inl u
  ruled (inr u) d l = inr (u.leaves _ _ _ d l)

  -- behind the first of two parts
  stop_first : {a b : Part R A} {m r : List A} {y : Cst A} → Takes (is_empty empty b) m r → Derives G b m y r
      → ((c : Bool) (g : Test A) (q : Part R A) → Edge G empty c a g q → Rule g ⊎ Leaves G g b) → Stops (both a b) r → Stops a m
  stop_first (takes_none z) d apart (stops s) = stops (λ c g q i. s c g q (e_first z i))
  stop_first (takes_some l) d apart s = stops (λ c g q i. ruled (apart c g q i) d l)

  -- behind a turn
  leaves_turns : {g f : Test A} {p : Part R A} → Leaves G g p → Leaves G g (many f p)
  leaves_turns {g = g} {f = f} {p = p} u = record { leaves = λ ts r x d l. go d l }
    where
      go_on : {ts m : List A} (r : List A) {e : Bool} {x : Cst A} → Derives G p ts x m → Takes e ts m → (length r < length m → g.holds m ≡ false) → length r < length ts → g.holds ts ≡ false
      go_on r d (takes_none z) h l = h l
      go_on r d (takes_some l') h l = u.leaves _ _ _ d l'

      go : {ts r : List A} {x : Cst A} → Derives G (many f p) ts x r → length r < length ts → g.holds ts ≡ false
      go {r = r} (d_more d e) l = go_on r d (taken G empty k.empties d) (λ l'. go e l') l
      go d_done l = absurd (omega (arith, l))

  leaves_or : {g f : Test A} {p : Part R A} → Rule g ⊎ Leaves G g p → Rule g ⊎ Leaves G g (many f p)
  leaves_or (inl u) = inl u
  leaves_or (inr u) = inr (leaves_turns u)

  stop_turn : {f : Test A} {p : Part R A} {m r : List A} {y : Cst A} → Takes true m r → Derives G (many f p) m y r
      → ((c : Bool) (g : Test A) (q : Part R A) → Edge G empty c p g q → Rule g ⊎ Leaves G g p) → Stops (many f p) r → Stops p m
  stop_turn (takes_none z) d apart (stops s) = stops (λ c g q i. s c g q (e_inside i))
  stop_turn (takes_some l) d apart s = stops (λ c g q i. ruled (leaves_or (apart c g q i)) d l)

  picked : {f : Test A} {a b : Part R A} {ts r : List A} {x : Cst A} → Rule f ⊎ (Picks G f a × Leaves G f b) → (Rule f → f.holds ts ≡ true) → Derives G a ts x r → f.holds ts ≡ true
  picked (inl u) h d = h u
  picked (inr u) h d = u.0.picks _ _ _ d

  picked_turn : {f : Test A} {a : Part R A} {ts r : List A} {x : Cst A} → Rule f ⊎ Picks G f a → (Rule f → f.holds ts ≡ true) → Derives G a ts x r → f.holds ts ≡ true
  picked_turn (inl u) h d = h u
  picked_turn (inr u) h d = u.picks _ _ _ d

  by_rule : {f : Test A} {ts : List A} → (Rule f → f.holds ts ≡ false) → Rule f ⊎ (f.holds ts ≡ false) → f.holds ts ≡ false
  by_rule h (inl u) = h u
  by_rule h (inr e) = e

  left_out : {f : Test A} {a b : Part R A} {ts r : List A} {y : Cst A} → Rule f ⊎ (Picks G f a × Leaves G f b) → (Rule f → f.holds ts ≡ false) → Derives G b ts y r
      → Takes (is_empty empty b) ts r → Stops (choose f a b) r → f.holds ts ≡ false
  left_out (inl u) h d t s = h u
  left_out {f = f} {a = a} (inr u) h d (takes_none z) (stops s) = by_rule h (s false f a (e_maybe z))
  left_out (inr u) h d (takes_some l) s = u.1.leaves _ _ _ d l

  at_end : {f : Test A} {a : Part R A} {ts : List A} → (Rule f → f.holds ts ≡ false) → Stops (many f a) ts → f.holds ts ≡ false
  at_end {f = f} {a = a} h (stops s) = by_rule h (s true f a e_many)

  reads : {a : Part R A} {ts r : List A} {x : Cst A} → Obeys G Rule a ts x r → Decided G Rule a → Apart G empty Rule a → Stops a r → Reads G a ts x r
  reads b_nothing d p s = r_nothing
  reads (b_one h) d p s = r_one h
  reads (b_row {n = n} x) d p s = r_row (reads x (k.decided n) (k.apart n) (stop_in (λ c g q i. e_row i) s))
  reads (b_both x y) d p s =
      r_both (reads x d.0 p.0 (stop_first (taken G empty k.empties (derives G y)) (derives G y) p.2 s)) (reads y d.1 p.1 (stop_in (λ c g q i. e_second i) s))
  reads (b_left h x) d p s = r_left (picked d.0 h (derives G x)) (reads x d.1 p.0 (stop_in (λ c g q i. e_left i) s))
  reads (b_right h y) d p s = r_right (left_out d.0 h (derives G y) (taken G empty k.empties (derives G y)) s) (reads y d.2 p.1 (stop_in (λ c g q i. e_right i) s))
  reads (b_more h x y) d p s =
      r_more (picked_turn d.0 h (derives G x)) (reads x d.1 p.0 (stop_turn (taken G empty k.empties (derives G y)) (derives G y) p.1 s)) (reads y d p s)
  reads (b_done h) d p s = r_done (at_end h s)
  reads (b_guard h x l) d p s = r_guard h (reads x d p (stop_in (λ c g q i. e_guard i) s)) l

  pub whole : {n : R} {ts : List A} {x : Cst A} → Obeys G Rule (row n) ts x [] → Reads G (row n) ts x []
  whole x = reads x tt tt (stops (λ c g q i. inr g.ends))

  pub record IsOne (x y : Cst A) (r : List A) : Type 0 where
    pub tree : x ≡ y
    pub rest : r ≡ []

  pub whole_is_one : {n : R} {ts r : List A} {x y : Cst A} → Obeys G Rule (row n) ts x [] → Reads G (row n) ts y r → IsOne x y r
  whole_is_one x y = let e = one_reading G (whole x) y in record { tree = e.tree; rest = sym e.rest }

  pub one_obeys : {n : R} {ts : List A} {x y : Cst A} → Obeys G Rule (row n) ts x [] → Obeys G Rule (row n) ts y [] → x ≡ y
  one_obeys x y = (whole_is_one x (whole y)).tree

  pub fault_of : {n : R} {ts rest : List A} → Stuck G (row n) ts rest → IsFaultBut G Rule (row n) ts rest
  fault_of s = record { before = s.before; split = s.split; begins = s.begins; no_more = λ q x w d. s.no_more q [] x w (whole d) }

zero_count : (n : ℕ) → (0 < n → ⊥) → n ≡ 0
zero_count zero h = refl
zero_count (suc n) h = absurd (h (omega arith))

module _ {R A : Type 0} (G : R → Part R A) (Rule : Test A → Type 0) (k : IsDecidedBut G Rule) where
  pub record Alike (x y : Cst A) (r r' : List A) : Type 0 where
    pub tree : x ≡ y
    pub rest : r ≡ r'

  pairs : {x x' y y' : Cst A} → x ≡ x' → y ≡ y' → pair x y ≡ pair x' y'
  pairs p q = cc

  along_o : {a : Part R A} {ts ts' r : List A} {x : Cst A} → ts ≡ ts' → Obeys G Rule a ts x r → Obeys G Rule a ts' x r
  along_o {a = a} {r = r} {x = x} e d = subst (λ m. Obeys G Rule a m x r) e d

  under : {x y : Cst A} {r r' : List A} (f : Cst A → Cst A) → ((x y : Cst A) → Prefers x y → Prefers (f x) (f y)) → Alike x y r r' ⊎ Prefers x y → Alike (f x) (f y) r r' ⊎ Prefers (f x) (f y)
  under f up (inl e) = inl (record { tree = ap f e.tree; rest = e.rest })
  under f up (inr p) = inr (up _ _ p)

  second : {x x' y y' : Cst A} {s s' : List A} → x ≡ x' → Alike y y' s s' ⊎ Prefers y y' → Alike (pair x y) (pair x' y') s s' ⊎ Prefers (pair x y) (pair x' y')
  second e (inl v) = inl (record { tree = pairs e v.tree; rest = v.rest })
  second {x = x} {y = y} {y' = y'} e (inr p) = inr (subst (λ m. Prefers (pair x y) (pair m y')) e (p_second p))

  -- the part is taken where another derivation leaves it out
  taken_first : {f : Test A} {a b : Part R A} {ts r r' : List A} {x y : Cst A} → Rule f ⊎ (Picks G f a × Leaves G f b) → f.holds ts ≡ true → (Rule f → f.holds ts ≡ false)
      → Derives G a ts x r → Derives G b ts y r' → Prefers (left x) (right y)
  taken_first (inl u) h h' d e = never h (h' u)
  taken_first {y = y} (inr u) h h' d e = p_taken (takes G u.0 d) (zero_count (count y) (λ l. never h (u.1.leaves _ _ _ e (omega (arith, l, counted G e)))))

  turn_first : {f : Test A} {a : Part R A} {ts r : List A} {x z : Cst A} → Rule f ⊎ Picks G f a → f.holds ts ≡ true → (Rule f → f.holds ts ≡ false) → Derives G a ts x r → Prefers (pair x z) none
  turn_first (inl u) h h' d = never h (h' u)
  turn_first (inr u) h h' d = let l = takes G u d in p_turn l

  not_left : {f : Test A} {a b : Part R A} {ts r : List A} {x : Cst A} → Rule f ⊎ (Picks G f a × Leaves G f b) → f.holds ts ≡ false → (Rule f → f.holds ts ≡ true) → Derives G a ts x r → ⊥
  not_left (inl u) h h' d = never (h' u) h
  not_left (inr u) h h' d = never (u.0.picks _ _ _ d) h

  not_more : {f : Test A} {a : Part R A} {ts r : List A} {x : Cst A} → Rule f ⊎ Picks G f a → f.holds ts ≡ false → (Rule f → f.holds ts ≡ true) → Derives G a ts x r → ⊥
  not_more (inl u) h h' d = never (h' u) h
  not_more (inr u) h h' d = never (u.picks _ _ _ d) h

  prefers : {a : Part R A} {ts r r' : List A} {x y : Cst A} → Reads G a ts x r → Obeys G Rule a ts y r' → Decided G Rule a → Alike x y r r' ⊎ Prefers x y
  prefers r_nothing b_nothing u = inl (record { tree = refl; rest = refl })
  prefers (r_one h) (b_one h') u = inl (record { tree = refl; rest = refl })
  prefers (r_row {n = n} d) (b_row e) u = under node (λ x y p. p_node p) (prefers d e (k.decided n))
  prefers (r_both d1 d2) (b_both e1 e2) u =
      elim (prefers d1 e1 u.0) [ inl v ↦ second v.tree (prefers d2 (along_o (sym v.rest) e2) u.1) | inr p ↦ inr (p_first p) ]
  prefers (r_left h d) (b_left h' e) u = under left (λ x y p. p_left p) (prefers d e u.1)
  prefers (r_left h d) (b_right h' e) u = inr (taken_first u.0 h h' (obeyed d) (derives G e))
    where
      obeyed : {a : Part R A} {ts r : List A} {x : Cst A} → Reads G a ts x r → Derives G a ts x r
      obeyed d = derives G (obeys G {Rule = Rule} d)
  prefers (r_right h d) (b_left h' e) u = absurd (not_left u.0 h h' (derives G e))
  prefers (r_right h d) (b_right h' e) u = under right (λ x y p. p_right p) (prefers d e u.2)
  prefers (r_more h d1 d2) (b_more h' e1 e2) u =
      elim (prefers d1 e1 u.1) [ inl v ↦ second v.tree (prefers d2 (along_o (sym v.rest) e2) u) | inr p ↦ inr (p_first p) ]
  prefers (r_more h d1 d2) (b_done h') u = inr (turn_first u.0 h h' (derives G (obeys G {Rule = Rule} d1)))
  prefers (r_done h) (b_more h' e1 e2) u = absurd (not_more u.0 h h' (derives G e1))
  prefers (r_done h) (b_done h') u = inl (record { tree = refl; rest = refl })
  prefers (r_guard h d p) (b_guard h' e p') u = under node (λ x y p. p_node p) (prefers d e u)

  alike_or : {x y : Cst A} {r r' : List A} → Alike x y r r' ⊎ Prefers x y → (x ≡ y) ⊎ Prefers x y
  alike_or (inl e) = inl e.tree
  alike_or (inr p) = inr p

  pub preferred : {n : R} {ts r r' : List A} {x y : Cst A} → Reads G (row n) ts x r → Obeys G Rule (row n) ts y r' → (x ≡ y) ⊎ Prefers x y
  preferred d e = alike_or (prefers d e tt)

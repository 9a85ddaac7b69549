-- The steps of the parser: readings and refusals of parts put together.
use Rattle.std.proofs.Common.{◌≡◌, ℕ, zero, suc, ◌+◌, ◌<◌, ◌≤◌, max, ◌⊎◌, inl, inr, Bool, true, false, List, [], ◌∷◌, ◌++◌, length, length-append, length-drop, drop, Result, Ok, Err, refl, sym, ap, subst, ◌∙◌, arith, add-one, true≢false}
use Rattle.grammars.specs.Grammar.{Test, next, Part, nothing, one, row, both, choose, many, Cst, none, leaf, node, pair, left, right, first, test, d_both, Reads, r_nothing, r_one, r_row, r_both, r_left, r_right, r_more, r_done, r_guard, Settled, Productive, Begun, Stuck}
use Rattle.grammars.proofs.Later.{begun_row, begun_left, begun_right, begun_turn, begun_first, begun_second, begun_more, begun_read, productive}
use Rattle.grammars.proofs.Progress.{shorter}
use Rattle.grammars.proofs.Readings.{derives, followed}
use Rattle.grammars.proofs.Refusals.{stuck_one, stuck_row, stuck_left, stuck_right, stuck_first, stuck_second, stuck_turn, stuck_more}
use Rattle.kc_text.specs.declared.errors.Fail.{Fail}
use Rattle.kc_text.specs.declared.errors.Fail.TheVariants.{Found}
use Rattle.kt_lexer.specs.declared.token.Token.{Token}
use Rattle.kt_grammar.specs.Parsed.{Read, Fails, found, no_memory, Parses, Resumes, Taken}
use Rattle.kt_grammar.specs.Rows.{Row, grammar}

-- ---- one token forward

pub record Next {A : Type 0} (n : ℕ) (ts : List A) (r : List A) : Type 0 where
  pub rest : drop (suc n) ts ≡ r
  pub within : suc n ≤ length ts

pub next_of : {A : Type 0} (n : ℕ) (ts : List A) {t : A} {r : List A} → drop n ts ≡ t ∷ r → Next n ts r
next_of zero [] e = absurd (cc)
next_of zero (x ∷ ts) e = record { rest = cc; within = omega arith }
next_of (suc n) [] e = absurd (cc)
next_of (suc n) (x ∷ ts) e = let k = next_of n ts e in record { rest = k.rest; within = omega (arith, k.within) }

pub first_is : {A : Type 0} (f : A → Bool) (ts : List A) → test f (first ts) ≡ true → (t : A) × (r : List A) × (f t ≡ true) × (ts ≡ t ∷ r)
first_is f [] h = absurd (true≢false (sym h))
first_is f (t ∷ r) h = (t, r, h, refl)

-- the token at the place is taken
pub takes_one : (f : Token → Bool) (ts : List Token) (at : ℕ) → test f (first (drop at ts)) ≡ true → Taken f ts at (at + 1)
takes_one f ts at h =
    let k = first_is f (drop at ts) h in
    let m = next_of at ts k.3 in
    rw add-one (record { token = k.0; is_so = k.2; here = k.3 ∙ ap (λ r. k.0 ∷ r) (sym m.rest); next = refl; within = m.within })

pub standing : {f : Token → Bool} {ts : List Token} {at end : ℕ} (t : Taken f ts at end) → test f (first (drop at ts)) ≡ true
standing {f = f} t = ap (λ m. test f (first m)) t.here ∙ t.is_so

-- ---- readings

-- what is settled with so many tokens left is settled with fewer
pub settled_on : {a : Part Row Token} {ts r : List Token} {x : Cst Token} (m n : ℕ) (d : Reads grammar a ts x r) → n ≤ m → Settled m d → Settled n d
settled_on m n r_nothing le s = tt
settled_on m n (r_one h) le s = tt
settled_on m n (r_row d) le s = settled_on m n d le s
settled_on m n (r_both d e) le s = (settled_on m n d le s.0, settled_on m n e le s.1)
settled_on m n (r_left h d) le s = (omega (arith, le, s.0), settled_on m n d le s.1)
settled_on m n (r_right h d) le s = (omega (arith, le, s.0), settled_on m n d le s.1)
settled_on m n (r_more h d e) le s = (omega (arith, le, s.0), settled_on m n d le s.1, settled_on m n e le s.2)
settled_on m n (r_done h) le s = omega (arith, le, s)
settled_on m n (r_guard h d p) le s = (omega (arith, le, s.0), settled_on m n d le s.1)

pub fewer : {a : Part Row Token} {ts : List Token} {at end looked : ℕ} {x : Cst Token} (p : Read a ts at end looked x) → length (drop end ts) ≤ length (drop at ts)
fewer p = shorter grammar (derives grammar p.reads)

pub fewer_behind : (n m : ℕ) (ts : List Token) → n ≤ m → length (drop m ts) ≤ length (drop n ts)
fewer_behind n m ts le = omega (arith, le, length-drop n ts, length-drop m ts)

-- ---- how far tests have looked

pub by_order : (n m : ℕ) → (n ≤ m) ⊎ (m < n)
by_order zero m = inl (omega arith)
by_order (suc n) zero = inr (omega arith)
by_order (suc n) (suc m) = elim (by_order n m) [ inl h ↦ inl (omega (arith, h)) | inr h ↦ inr (omega (arith, h)) ]

abbrev pub BegunAt : Part Row Token → List Token → ℕ → ℕ → Type 0
BegunAt a ts at n = Begun grammar a (drop at ts) (drop n ts)

pub begun_to : (a : Part Row Token) (ts : List Token) (at n m : ℕ) → n ≡ m → BegunAt a ts at n → BegunAt a ts at m
begun_to a ts at n m e k = subst (λ i. BegunAt a ts at i) e k

-- up to the farther of two places
pub begun_farther : (a : Part Row Token) (ts : List Token) (at n m k : ℕ) → k ≡ max n m → BegunAt a ts at n → BegunAt a ts at m → BegunAt a ts at k
begun_farther a ts at n m k e p q = elim (by_order n m) [ inl h ↦ begun_to a ts at m k (omega (arith, e, h)) q | inr h ↦ begun_to a ts at n k (omega (arith, e, h)) p ]

-- no test has looked behind the next token
pub near : {a : Part Row Token} {ts : List Token} {at end : ℕ} {x : Cst Token} (d : Reads grammar a (drop at ts) x (drop end ts)) → Settled (length (drop end ts)) d → at ≤ end → end ≤ length ts
    → Read a ts at end 0 x
near {a = a} {ts = ts} {at = at} {end = end} d s h w =
    let e : max end 0 ≡ end = omega arith in
    record {
      reads = d;
      settled = subst (λ n. Settled (length (drop n ts)) d) (sym e) s;
      begun = begun_to a ts at end (max end 0) (sym e) (begun_read grammar d);
      ahead = h;
      within = w;
      seen = omega arith;
    }

-- a test has looked farther than the reading knows
pub wider : {a : Part Row Token} {ts : List Token} {at end looked : ℕ} {x : Cst Token} (n : ℕ) → n ≤ length ts → BegunAt a ts at n → Read a ts at end looked x → Read a ts at end (max n looked) x
wider {a = a} {ts = ts} {at = at} {end = end} {looked = looked} n w k p = record {
  reads = p.reads;
  settled = settled_on _ _ p.reads (fewer_behind (max end looked) (max end (max n looked)) ts (omega arith)) p.settled;
  begun = begun_farther a ts at n (max end looked) (max end (max n looked)) (omega arith) k p.begun;
  ahead = p.ahead;
  within = p.within;
  seen = omega (arith, w, p.seen);
}

pub read_one : {f : Token → Bool} {ts : List Token} {at end : ℕ} (t : Taken f ts at end) → Read (one f) ts at end 0 (leaf t.token)
read_one {f = f} {ts = ts} {at = at} {end = end} t =
    let k = subst (λ us. (d : Reads grammar (one f) us (leaf t.token) (drop end ts)) × Settled (length (drop end ts)) d) (sym t.here) (r_one t.is_so, tt) in
    near k.0 k.1 (omega (arith, t.next)) t.within

pub read_row : {n : Row} {ts : List Token} {at end looked : ℕ} {x : Cst Token} → Read (grammar n) ts at end looked x → Read (row n) ts at end looked (node x)
read_row p = record { reads = r_row p.reads; settled = p.settled; begun = begun_row grammar p.begun; ahead = p.ahead; within = p.within; seen = p.seen }

settled_first : {a : Part Row Token} {ts : List Token} {at mid end l : ℕ} {x : Cst Token} (m : ℕ) (p : Read a ts at mid l x) → mid ≤ end → Settled (length (drop (max end (max l m)) ts)) p.reads
settled_first {ts = ts} {mid = mid} {end = end} {l = l} m p h = settled_on _ _ p.reads (fewer_behind (max mid l) (max end (max l m)) ts (omega (arith, h))) p.settled

settled_second : {a : Part Row Token} {ts : List Token} {at end m : ℕ} {x : Cst Token} (l : ℕ) (p : Read a ts at end m x) → Settled (length (drop (max end (max l m)) ts)) p.reads
settled_second {ts = ts} {end = end} {m = m} l p = settled_on _ _ p.reads (fewer_behind (max end m) (max end (max l m)) ts (omega arith)) p.settled

pub read_both : {a b : Part Row Token} {ts : List Token} {at mid end l m : ℕ} {x y : Cst Token} → Read a ts at mid l x → Read b ts mid end m y → Read (both a b) ts at end (max l m) (pair x y)
read_both {a = a} {b = b} {ts = ts} {at = at} {mid = mid} {end = end} {l = l} {m = m} p q = record {
  reads = r_both p.reads q.reads;
  settled = (settled_first m p q.ahead, settled_second l q);
  begun = begun_farther (both a b) ts at (max mid l) (max end m) (max end (max l m)) (omega (arith, q.ahead)) (begun_first grammar p.begun (productive grammar q.begun)) (begun_second grammar p.reads q.begun);
  ahead = omega (arith, p.ahead, q.ahead);
  within = q.within;
  seen = omega (arith, p.seen, q.seen);
}

pub read_nothing : {ts : List Token} {at : ℕ} → at ≤ length ts → Read nothing ts at at 0 none
read_nothing h = near r_nothing tt (omega arith) h

-- the test has looked no farther than the reading
abbrev pub Covers : Test Token → List Token → ℕ → ℕ → ℕ → Type 0
Covers f ts at end looked = at + f.far (drop at ts) ≤ max end looked

pub covered : (f : Test Token) (ts : List Token) (at end looked : ℕ) → Covers f ts at end looked → end ≤ length ts → looked ≤ length ts → length (drop (max end looked) ts) + f.far (drop at ts) ≤ length (drop at ts)
covered f ts at end looked c w s = omega (arith, c, w, s, length-drop at ts, length-drop (max end looked) ts)

pub read_left : {f : Test Token} {a b : Part Row Token} {ts : List Token} {at end looked : ℕ} {x : Cst Token} → f.holds (drop at ts) ≡ true
    → Covers f ts at end looked → Read a ts at end looked x → Read (choose f a b) ts at end looked (left x)
read_left {f = f} {ts = ts} {at = at} {end = end} {looked = looked} h c p = record {
  reads = r_left h p.reads;
  settled = (covered f ts at end looked c p.within p.seen, p.settled);
  begun = begun_left grammar p.begun;
  ahead = p.ahead;
  within = p.within;
  seen = p.seen;
}

pub read_right : {f : Test Token} {a b : Part Row Token} {ts : List Token} {at end looked : ℕ} {x : Cst Token} → f.holds (drop at ts) ≡ false
    → Covers f ts at end looked → Read b ts at end looked x → Read (choose f a b) ts at end looked (right x)
read_right {f = f} {ts = ts} {at = at} {end = end} {looked = looked} h c p = record {
  reads = r_right h p.reads;
  settled = (covered f ts at end looked c p.within p.seen, p.settled);
  begun = begun_right grammar p.begun;
  ahead = p.ahead;
  within = p.within;
  seen = p.seen;
}

-- the first part could begin with all tokens that the test has looked at
pub read_instead : {f : Test Token} {a b : Part Row Token} {ts : List Token} {at end looked : ℕ} {x : Cst Token} (n : ℕ) → f.holds (drop at ts) ≡ false
    → n ≡ at + f.far (drop at ts) → n ≤ length ts → BegunAt a ts at n → Read b ts at end looked x → Read (choose f a b) ts at end (max n looked) (right x)
read_instead {f = f} {a = a} {b = b} {ts = ts} {at = at} {end = end} {looked = looked} n h e w k p = record {
  reads = r_right h p.reads;
  settled = (covered f ts at end (max n looked) (omega (arith, e)) p.within (omega (arith, w, p.seen)), settled_second n p);
  begun = begun_farther (choose f a b) ts at n (max end looked) (max end (max n looked)) (omega arith) (begun_left grammar k) (begun_right grammar p.begun);
  ahead = p.ahead;
  within = p.within;
  seen = omega (arith, w, p.seen);
}

-- the same of a test of the next token
pub read_first : {f : Token → Bool} {a b : Part Row Token} {ts : List Token} {at end looked : ℕ} {x : Cst Token} → test f (first (drop at ts)) ≡ true
    → Read a ts at end looked x → Read (choose (next f) a b) ts at end looked (left x)
read_first h p = read_left h (omega (arith, p.ahead)) p

pub read_second : {f : Token → Bool} {a b : Part Row Token} {ts : List Token} {at end looked : ℕ} {x : Cst Token} → test f (first (drop at ts)) ≡ false
    → Read b ts at end looked x → Read (choose (next f) a b) ts at end looked (right x)
read_second h p = read_right h (omega (arith, p.ahead)) p

pub read_more : {f : Test Token} {a : Part Row Token} {ts : List Token} {at mid end l m : ℕ} {x y : Cst Token} → f.holds (drop at ts) ≡ true → Covers f ts at end (max l m)
    → Read a ts at mid l x → Read (many f a) ts mid end m y → Read (many f a) ts at end (max l m) (pair x y)
read_more {f = f} {a = a} {ts = ts} {at = at} {mid = mid} {end = end} {l = l} {m = m} h c p q = record {
  reads = r_more h p.reads q.reads;
  settled = (covered f ts at end (max l m) c q.within (omega (arith, p.seen, q.seen)), settled_first m p q.ahead, settled_second l q);
  begun = begun_farther (many f a) ts at (max mid l) (max end m) (max end (max l m)) (omega (arith, q.ahead)) (begun_turn grammar p.begun) (begun_more grammar p.reads q.begun);
  ahead = omega (arith, p.ahead, q.ahead);
  within = q.within;
  seen = omega (arith, p.seen, q.seen);
}

pub read_turn : {f : Token → Bool} {a : Part Row Token} {ts : List Token} {at mid end l m : ℕ} {x y : Cst Token} → test f (first (drop at ts)) ≡ true
    → Read a ts at mid l x → Read (many (next f) a) ts mid end m y → Read (many (next f) a) ts at end (max l m) (pair x y)
read_turn h p q = read_more h (omega (arith, p.ahead, q.ahead)) p q

pub read_done : {f : Token → Bool} {a : Part Row Token} {ts : List Token} {at : ℕ} → at ≤ length ts → test f (first (drop at ts)) ≡ false → Read (many (next f) a) ts at at 0 none
read_done w h = near (r_done h) (omega arith) (omega arith) w

-- a loop may stop where its test has looked on, if a turn could begin with all of those tokens
pub read_stop : {f : Test Token} {a : Part Row Token} {ts : List Token} {at : ℕ} (n : ℕ) → f.holds (drop at ts) ≡ false → n ≡ at + f.far (drop at ts) → at ≤ length ts → n ≤ length ts
    → BegunAt a ts at n → Read (many f a) ts at at n none
read_stop {f = f} {a = a} {ts = ts} {at = at} n h e v w k = record {
  reads = r_done h;
  settled = covered f ts at at n (omega (arith, e)) v w;
  begun = begun_to (many f a) ts at n (max at n) (omega (arith, e)) (begun_turn grammar k);
  ahead = omega arith;
  within = v;
  seen = w;
}

-- ---- refusals

pub has_both : {a b : Part Row Token} → Productive grammar a → Productive grammar b → Productive grammar (both a b)
has_both p q = (p.0 ++ q.0, pair p.1 q.1, d_both (followed grammar p.2 q.0) q.2)

pub fails_one : {f : Token → Bool} {ts : List Token} {at : ℕ} (t : Token) → f t ≡ true → at ≤ length ts → test f (first (drop at ts)) ≡ false → Fails (one f) ts at (Found at)
fails_one {f = f} {ts = ts} {at = at} t e w h = found (record { stuck = stuck_one grammar f (drop at ts) h t e; within = w })

pub fails_row : {n : Row} {ts : List Token} {at : ℕ} {e : Fail ℕ} → Fails (grammar n) ts at e → Fails (row n) ts at e
fails_row (found k) = found (record { stuck = stuck_row grammar k.stuck; within = k.within })
fails_row no_memory = no_memory

pub fails_left : {f : Token → Bool} {a b : Part Row Token} {ts : List Token} {at : ℕ} {e : Fail ℕ} → test f (first (drop at ts)) ≡ true → Fails a ts at e → Fails (choose (next f) a b) ts at e
fails_left h (found k) = found (record { stuck = stuck_left grammar h k.stuck (omega arith); within = k.within })
fails_left h no_memory = no_memory

pub fails_right : {f : Token → Bool} {a b : Part Row Token} {ts : List Token} {at : ℕ} {e : Fail ℕ} → test f (first (drop at ts)) ≡ false → Fails b ts at e → Fails (choose (next f) a b) ts at e
fails_right h (found k) = found (record { stuck = stuck_right grammar h k.stuck (omega arith); within = k.within })
fails_right h no_memory = no_memory

pub fails_first : {a b : Part Row Token} {ts : List Token} {at : ℕ} {e : Fail ℕ} → Productive grammar b → Fails a ts at e → Fails (both a b) ts at e
fails_first p (found k) = found (record { stuck = stuck_first grammar k.stuck p; within = k.within })
fails_first p no_memory = no_memory

pub behind_stuck : {a : Part Row Token} {ts rest : List Token} (k : Stuck grammar a ts rest) → length rest ≤ length ts
behind_stuck {ts = ts} {rest = rest} k = omega (arith, ap length k.split, length-append k.before rest)

-- nothing is looked at but the next token
pub settled_near : {a : Part Row Token} {ts : List Token} {at mid : ℕ} {x : Cst Token} (place : ℕ) (p : Read a ts at mid 0 x) → length (drop place ts) ≤ length (drop mid ts) → Settled (length (drop place ts)) p.reads
settled_near {ts = ts} {mid = mid} place p le =
    let e : max mid 0 ≡ mid = omega arith in settled_on _ _ p.reads (omega (arith, le, ap (λ n. length (drop n ts)) e)) p.settled

pub fails_second : {a b : Part Row Token} {ts : List Token} {at mid : ℕ} {x : Cst Token} {e : Fail ℕ} → Read a ts at mid 0 x → Fails b ts mid e → Fails (both a b) ts at e
fails_second p (found {place = place} k) = found (record { stuck = stuck_second grammar p.reads k.stuck (settled_near place p (behind_stuck k.stuck)); within = k.within })
fails_second p no_memory = no_memory

-- behind a token
pub fails_after : {f : Token → Bool} {b : Part Row Token} {ts : List Token} {at mid : ℕ} {e : Fail ℕ} → Taken f ts at mid → Fails b ts mid e → Fails (both (one f) b) ts at e
fails_after t k = fails_second (read_one t) k

pub fails_turn : {f : Token → Bool} {a : Part Row Token} {ts : List Token} {at : ℕ} {e : Fail ℕ} → test f (first (drop at ts)) ≡ true → Fails a ts at e → Fails (many (next f) a) ts at e
fails_turn h (found k) = found (record { stuck = stuck_turn grammar h k.stuck (omega arith); within = k.within })
fails_turn h no_memory = no_memory

pub fails_more : {f : Token → Bool} {a : Part Row Token} {ts : List Token} {at mid : ℕ} {x : Cst Token} {e : Fail ℕ} → test f (first (drop at ts)) ≡ true → Read a ts at mid 0 x → Fails (many (next f) a) ts mid e → Fails (many (next f) a) ts at e
fails_more h p (found {place = place} k) = found (record {
  stuck = stuck_more grammar h (omega (arith, behind_stuck k.stuck, fewer p)) p.reads k.stuck (settled_near place p (behind_stuck k.stuck));
  within = k.within;
})
fails_more h p no_memory = no_memory

-- ---- loops

-- What comes of the rest of a loop is what comes of the whole.
pub turn : {X : Type 0} (f : Token → Bool) (a : Part Row Token) (all_of : X → Cst Token → X) {ts : List Token} {at mid : ℕ} {c : Cst Token} (x y : X)
    → ((d : Cst Token) → all_of x (pair c d) ≡ all_of y d)
    → test f (first (drop at ts)) ≡ true → Read a ts at mid 0 c
    → (r : Result (X × ℕ) (Fail ℕ)) → Parses (many (next f) a) (all_of y) ts mid r → Parses (many (next f) a) (all_of x) ts at r
turn f a all_of {c = c} x y law h p (Ok r) q = record {
  tree = pair c q.tree;
  read = read_turn h p q.read;
  builds = q.builds ∙ sym (law q.tree);
}
turn f a all_of x y law h p (Err e) q = fails_more h p q

-- a loop begins
pub resumes : {X : Type 0} (a : Part Row Token) (all_of : X → Cst Token → X) (ts : List Token) (at : ℕ) (x : X) → at ≤ length ts → Resumes a all_of ts at x at x
resumes a all_of ts at x h = record { ahead = omega arith; within = h; whole = λ r q. q }

-- The steps of the parser where tests look farther than the next token.
use Rattle.std.proofs.Common.{◌≡◌, ℕ, zero, suc, ◌+◌, ◌<◌, ◌≤◌, max, inl, inr, Bool, true, false, List, [], ◌∷◌, ◌++◌, length, length-append, length-drop, drop, Result, Ok, Err, refl, sym, ap, subst, ◌∙◌, arith}
use Rattle.grammars.specs.Grammar.{Test, next, Part, one, row, both, choose, many, Cst, none, node, pair, left, right, first, test, Settled, Productive, Begun, guard, r_guard}
use Rattle.grammars.specs.Tables.{is_empty}
use Rattle.grammars.proofs.Refusals.{stuck_one, stuck_unguarded}
use Rattle.grammars.proofs.Later.{begun_here, begun_guard, dead_guard, begun_row, begun_left, begun_right, begun_turn, begun_first, begun_second, begun_more, begun_of, productive, Dead, dead_of, dead_later, dead_row, dead_first, dead_left, dead_right, dead_turn, dead_second, dead_more, stuck_of}
use Rattle.kc_text.specs.declared.errors.Fail.{Fail}
use Rattle.kc_text.specs.declared.errors.Fail.TheVariants.{Found, Memory}
use Rattle.kt_lexer.specs.declared.token.Token.{Token}
use Rattle.kt_grammar.specs.declared.cursor.Cursor.{Cursor}
use Rattle.kt_grammar.specs.Parsed.{Read, Refused, found, no_memory, Parses, Advanced, Halts, halt, halt_memory, Advances, ResumesOn, Taken}
use Rattle.kt_grammar.specs.Moves.{Moved}
use Rattle.kt_grammar.specs.Behind.{behind}
use Rattle.kt_grammar.specs.Rows.{Row, grammar}
use Rattle.kt_grammar.proofs.Progress.{empty, shortens, goes_on}
use Rattle.kt_grammar.proofs.Steps.{by_order, begun_to, covered, settled_on, fewer_behind, BegunAt, begun_farther, read_one, read_both, read_row, read_first, read_second, read_turn, read_done, behind_stuck}

-- ---- refusals

cut : (n m : ℕ) (ts : List Token) → n ≤ m → (front : List Token) × (drop n ts ≡ front ++ drop m ts)
cut zero zero ts h = ([], refl)
cut zero (suc m) [] h = ([], refl)
cut zero (suc m) (t ∷ ts) h = let k = cut zero m ts (omega arith) in (t ∷ k.0, ap (λ us. t ∷ us) k.1)
cut (suc n) zero ts h = absurd (omega (arith, h))
cut (suc n) (suc m) [] h = ([], refl)
cut (suc n) (suc m) (t ∷ ts) h = cut n m ts (omega (arith, h))

abbrev DeadAt : Part Row Token → List Token → ℕ → ℕ → Type 0
DeadAt a ts at n = Dead grammar a (drop at ts) (drop n ts)

pub not_before : {a : Part Row Token} {ts : List Token} {at place : ℕ} → at ≤ length ts → Refused a ts at place → at ≤ place
not_before {ts = ts} {at = at} {place = place} w k = omega (arith, w, k.within, behind_stuck k.stuck, length-drop at ts, length-drop place ts)

dead_from : {a : Part Row Token} {ts : List Token} {at place : ℕ} (n : ℕ) → at ≤ length ts → place ≤ n → Refused a ts at place → DeadAt a ts at n
dead_from {ts = ts} {at = at} {place = place} n w le k =
    let c = cut at n ts (omega (arith, le, not_before w k)) in dead_later grammar (dead_of grammar k.stuck) c.0 c.1 (fewer_behind place n ts le)

-- a test has looked farther than the place
pub refused_wider : {a : Part Row Token} {ts : List Token} {at place : ℕ} (n : ℕ) → at ≤ length ts → n ≤ length ts → BegunAt a ts at n → Refused a ts at place → Refused a ts at (max n place)
refused_wider {a = a} {ts = ts} {at = at} {place = place} n v w k r = record {
  stuck = stuck_of grammar (begun_farther a ts at n place (max n place) refl k (begun_of grammar r.stuck)) (dead_from (max n place) v (omega arith) r);
  within = omega (arith, w, r.within);
}

refused_by : {a b : Part Row Token} {ts : List Token} {at place : ℕ} → (Begun grammar a (drop at ts) (drop place ts) → Begun grammar b (drop at ts) (drop place ts))
    → (DeadAt a ts at place → DeadAt b ts at place) → Refused a ts at place → Refused b ts at place
refused_by f g r = record { stuck = stuck_of grammar (f (begun_of grammar r.stuck)) (g (dead_of grammar r.stuck)); within = r.within }

pub refused_row : {n : Row} {ts : List Token} {at place : ℕ} → Refused (grammar n) ts at place → Refused (row n) ts at place
refused_row r = refused_by (begun_row grammar) (dead_row grammar) r

pub refused_first : {a b : Part Row Token} {ts : List Token} {at place : ℕ} → Productive grammar b → Refused a ts at place → Refused (both a b) ts at place
refused_first p r = refused_by (λ k. begun_first grammar k p) (dead_first grammar) r

looked_to : (f : Test Token) (ts : List Token) (at n : ℕ) → at ≤ length ts → at + f.far (drop at ts) ≤ n → n ≤ length ts → length (drop n ts) + f.far (drop at ts) ≤ length (drop at ts)
looked_to f ts at n v c w = omega (arith, v, c, w, length-drop at ts, length-drop n ts)

pub refused_left : {f : Test Token} {a b : Part Row Token} {ts : List Token} {at place : ℕ} → at ≤ length ts → f.holds (drop at ts) ≡ true → at + f.far (drop at ts) ≤ place
    → Refused a ts at place → Refused (choose f a b) ts at place
refused_left {f = f} {ts = ts} {at = at} {place = place} v h c r = refused_by (begun_left grammar) (λ k. dead_left grammar h k (looked_to f ts at place v c r.within)) r

pub refused_right : {f : Test Token} {a b : Part Row Token} {ts : List Token} {at place : ℕ} → at ≤ length ts → f.holds (drop at ts) ≡ false → at + f.far (drop at ts) ≤ place
    → Refused b ts at place → Refused (choose f a b) ts at place
refused_right {f = f} {ts = ts} {at = at} {place = place} v h c r = refused_by (begun_right grammar) (λ k. dead_right grammar h k (looked_to f ts at place v c r.within)) r

-- the first part could begin with all tokens that the test has looked at
pub refused_instead : {f : Test Token} {a b : Part Row Token} {ts : List Token} {at place : ℕ} (n : ℕ) → at ≤ length ts → n ≤ length ts → f.holds (drop at ts) ≡ false → n ≡ at + f.far (drop at ts)
    → BegunAt a ts at n → Refused b ts at place → Refused (choose f a b) ts at (max n place)
refused_instead {f = f} {a = a} {b = b} {ts = ts} {at = at} {place = place} n v w h e k r = record {
  stuck = stuck_of grammar (begun_farther (choose f a b) ts at n place (max n place) refl (begun_left grammar k) (begun_right grammar (begun_of grammar r.stuck)))
      (dead_right grammar h (dead_from (max n place) v (omega arith) r) (looked_to f ts at (max n place) v (omega (arith, e)) (omega (arith, w, r.within))));
  within = omega (arith, w, r.within);
}

pub refused_turn : {f : Test Token} {a : Part Row Token} {ts : List Token} {at place : ℕ} → at ≤ length ts → f.holds (drop at ts) ≡ true → at + f.far (drop at ts) ≤ place
    → Refused a ts at place → Refused (many f a) ts at place
refused_turn {f = f} {ts = ts} {at = at} {place = place} v h c r = refused_by (begun_turn grammar) (λ k. dead_turn grammar h k (looked_to f ts at place v c r.within)) r

settled_at : {a : Part Row Token} {ts : List Token} {at mid l : ℕ} {x : Cst Token} (n : ℕ) (p : Read a ts at mid l x) → max mid l ≤ n → Settled (length (drop n ts)) p.reads
settled_at {ts = ts} {mid = mid} {l = l} n p le = settled_on _ _ p.reads (fewer_behind (max mid l) n ts le) p.settled

pub refused_second : {a b : Part Row Token} {ts : List Token} {at mid l place : ℕ} {x : Cst Token} → Read a ts at mid l x → Refused b ts mid place → Refused (both a b) ts at (max l place)
refused_second {a = a} {b = b} {ts = ts} {at = at} {mid = mid} {l = l} {place = place} p r =
    let le : mid ≤ place = not_before p.within r in
    let k = begun_of grammar r.stuck in
    record {
      stuck = stuck_of grammar (begun_farther (both a b) ts at (max mid l) place (max l place) (omega (arith, le)) (begun_first grammar p.begun (productive grammar k)) (begun_second grammar p.reads k))
          (dead_second grammar p.reads (dead_from (max l place) p.within (omega arith) r) (settled_at (max l place) p (omega (arith, le))));
      within = omega (arith, p.seen, r.within);
    }

pub refused_more : {f : Test Token} {a : Part Row Token} {ts : List Token} {at mid l place : ℕ} {x : Cst Token} → f.holds (drop at ts) ≡ true → at + f.far (drop at ts) ≤ max mid l
    → Read a ts at mid l x → Refused (many f a) ts mid place → Refused (many f a) ts at (max l place)
refused_more {f = f} {a = a} {ts = ts} {at = at} {mid = mid} {l = l} {place = place} h c p r =
    let le : mid ≤ place = not_before p.within r in
    let w : max l place ≤ length ts = omega (arith, p.seen, r.within) in
    record {
      stuck = stuck_of grammar (begun_farther (many f a) ts at (max mid l) place (max l place) (omega (arith, le)) (begun_turn grammar p.begun) (begun_more grammar p.reads (begun_of grammar r.stuck)))
          (dead_more grammar h (looked_to f ts at (max l place) (omega (arith, p.ahead, p.within)) (omega (arith, c, le)) w) p.reads (dead_from (max l place) p.within (omega arith) r) (settled_at (max l place) p (omega (arith, le))));
      within = w;
    }

-- ---- with how far tests have looked before

pub halts_as : {a b : Part Row Token} {ts : List Token} {start : Cursor} {e : Fail ℕ} → ((place : ℕ) → Refused a ts start.at place → Refused b ts start.at place) → Halts a ts start e → Halts b ts start e
halts_as f (halt {place = place} r i) = halt (f place r) i
halts_as f halt_memory = halt_memory

-- a test has looked as far as l
pub halts_on : {a b : Part Row Token} {ts : List Token} {start mid : Cursor} {e : Fail ℕ} (l : ℕ) → mid.looked ≡ max start.looked l
    → ((place : ℕ) → Refused b ts mid.at place → Refused a ts start.at (max l place)) → Halts b ts mid e → Halts a ts start e
halts_on l e f (halt {place = place} r i) = halt (f place r) (omega (arith, e, i))
halts_on l e f halt_memory = halt_memory

pub halts_row : {n : Row} {ts : List Token} {start : Cursor} {e : Fail ℕ} → Halts (grammar n) ts start e → Halts (row n) ts start e
halts_row k = halts_as (λ place r. refused_row r) k

pub halts_first : {a b : Part Row Token} {ts : List Token} {start : Cursor} {e : Fail ℕ} → Productive grammar b → Halts a ts start e → Halts (both a b) ts start e
halts_first p k = halts_as (λ place r. refused_first p r) k

pub halts_second : {a b : Part Row Token} {ts : List Token} {start mid : Cursor} {l : ℕ} {x : Cst Token} {e : Fail ℕ} → Read a ts start.at mid.at l x → mid.looked ≡ max start.looked l
    → Halts b ts mid e → Halts (both a b) ts start e
halts_second {l = l} p i k = halts_on l i (λ place r. refused_second p r) k

pub halts_left : {f : Token → Bool} {a b : Part Row Token} {ts : List Token} {start : Cursor} {e : Fail ℕ} → start.at ≤ length ts → test f (first (drop start.at ts)) ≡ true
    → Halts a ts start e → Halts (choose (next f) a b) ts start e
halts_left w h k = halts_as (λ place r. refused_left w h (omega (arith, not_before w r)) r) k

pub halts_right : {f : Token → Bool} {a b : Part Row Token} {ts : List Token} {start : Cursor} {e : Fail ℕ} → start.at ≤ length ts → test f (first (drop start.at ts)) ≡ false
    → Halts b ts start e → Halts (choose (next f) a b) ts start e
halts_right w h k = halts_as (λ place r. refused_right w h (omega (arith, not_before w r)) r) k

-- what is read, or refused, with no test that looked on
pub behind_near : {X : Type 0} (a : Part Row Token) (build : Cst Token → X) (ts : List Token) (start : Cursor) (r : Result (X × ℕ) (Fail ℕ)) → Parses a build ts start.at r → Advances a build ts start (behind start.looked r)
behind_near a build ts start (Ok p) q = record { tree = q.tree; looked = 0; read = q.read; builds = q.builds; so_far = omega arith }
behind_near a build ts start (Err (Found place)) (found r) = halt r refl
behind_near a build ts start (Err Memory) no_memory = halt_memory

-- ---- tokens and loops

pub halts_after : {f : Token → Bool} {b : Part Row Token} {ts : List Token} {start mid : Cursor} {e : Fail ℕ} → Taken f ts start.at mid.at → mid.looked ≡ start.looked → Halts b ts mid e → Halts (both (one f) b) ts start e
halts_after t i k = halts_second (read_one t) (omega (arith, i)) k

pub halts_turn : {f : Token → Bool} {a : Part Row Token} {ts : List Token} {start : Cursor} {e : Fail ℕ} → start.at ≤ length ts → test f (first (drop start.at ts)) ≡ true → Halts a ts start e → Halts (many (next f) a) ts start e
halts_turn w h k = halts_as (λ place r. refused_turn w h (omega (arith, not_before w r)) r) k

-- What comes of the rest of a loop is what comes of the whole.
pub turn_on : {X : Type 0} (f : Token → Bool) (a : Part Row Token) (all_of : X → Cst Token → X) {ts : List Token} (start mid : Cursor) {l : ℕ} {c : Cst Token} (x y : X)
    → ((d : Cst Token) → all_of x (pair c d) ≡ all_of y d)
    → test f (first (drop start.at ts)) ≡ true → Read a ts start.at mid.at l c → mid.looked ≡ max start.looked l
    → (r : Result (X × Cursor) (Fail ℕ)) → Advances (many (next f) a) (all_of y) ts mid r → Advances (many (next f) a) (all_of x) ts start r
turn_on f a all_of start mid {l = l} {c = c} x y law h p i (Ok r) q = record {
  tree = pair c q.tree;
  looked = max l q.looked;
  read = read_turn h p q.read;
  builds = q.builds ∙ sym (law q.tree);
  so_far = omega (arith, i, q.so_far);
}
turn_on f a all_of start mid {l = l} x y law h p i (Err e) q = halts_on l i (λ place r. refused_more h (omega (arith, p.ahead)) p r) q

pub turns_end : {X : Type 0} (f : Token → Bool) (a : Part Row Token) (all_of : X → Cst Token → X) {ts : List Token} {start : Cursor} (x : X) → ((y : X) → all_of y none ≡ y)
    → start.at ≤ length ts → test f (first (drop start.at ts)) ≡ false → Advanced (many (next f) a) (all_of x) ts start start x
turns_end f a all_of x law w h = record { tree = none; looked = 0; read = read_done w h; builds = sym (law x); so_far = omega arith }

pub resumes_on : {X : Type 0} (a : Part Row Token) (all_of : X → Cst Token → X) (ts : List Token) (at : Cursor) (x : X) → at.at ≤ length ts → ResumesOn a all_of ts at x at x
resumes_on a all_of ts at x h = record { ahead = omega arith; within = h; whole = λ r q. q }

-- an operand, and what follows it on its level
pub level_from : {X Y : Type 0} (n m : Row) (part : Part Row Token) (lower : Cst Token → Y) (turns : Y → Cst Token → X) (whole : Cst Token → X) → grammar n ≡ both (row m) part
    → ((c d : Cst Token) → whole (node (pair c d)) ≡ turns (lower c) d) → {ts : List Token} {start mid : Cursor} {x : Y} → Advanced (row m) lower ts start mid x
    → (r : Result (X × Cursor) (Fail ℕ)) → Advances part (turns x) ts mid r → Advances (row n) whole ts start r
level_from n m part lower turns whole is law {ts = ts} {start = start} p (Ok k) q = record {
  tree = node (pair p.tree q.tree);
  looked = max p.looked q.looked;
  read = read_row (subst (λ b. Read b ts start.at k.1.at (max p.looked q.looked) (pair p.tree q.tree)) (sym is) (read_both p.read q.read));
  builds = q.builds ∙ ap (λ y. turns y q.tree) p.builds ∙ sym (law p.tree q.tree);
  so_far = omega (arith, p.so_far, q.so_far);
}
level_from n m part lower turns whole is law {ts = ts} {start = start} p (Err e) q = halts_row (subst (λ b. Halts b ts start e) (sym is) (halts_second p.read p.so_far q))

pub level_halts : (n m : Row) (part : Part Row Token) → grammar n ≡ both (row m) part → Productive grammar part → {ts : List Token} {start : Cursor} {e : Fail ℕ} → Halts (row m) ts start e → Halts (row n) ts start e
level_halts n m part is p {ts = ts} {start = start} {e = e} k = halts_row (subst (λ b. Halts b ts start e) (sym is) (halts_first p k))

-- ---- parts that have to begin with certain tokens

-- something is gone over where a place is farther
gone : {a : Part Row Token} (ts : List Token) (at place : ℕ) (k : Begun grammar a (drop at ts) (drop place ts)) → at < place → place ≤ length ts → 0 < length k.before
gone ts at place k h w = omega (arith, h, w, ap length k.split, length-append k.before (drop place ts), length-drop at ts, length-drop place ts)

begun_guarded : (f : Token → Bool) (a : Part Row Token) (ts : List Token) (at place : ℕ) → test f (first (drop at ts)) ≡ true → Productive grammar (guard (next f) a) → at ≤ place → place ≤ length ts
    → BegunAt a ts at place → BegunAt (guard (next f) a) ts at place
begun_guarded f a ts at place h p le w k =
    elim (by_order place at) [ inl s ↦ begun_to (guard (next f) a) ts at at place (omega (arith, s, le)) (begun_here grammar (drop at ts) p) | inr s ↦ begun_guard grammar h k (gone ts at place k s w) ]

pub refused_guard : {f : Token → Bool} {a : Part Row Token} {ts : List Token} {at place : ℕ} → at ≤ length ts → test f (first (drop at ts)) ≡ true → Productive grammar (guard (next f) a)
    → Refused a ts at place → Refused (guard (next f) a) ts at place
refused_guard {f = f} {a = a} {ts = ts} {at = at} {place = place} v h p r = record {
  stuck = stuck_of grammar (begun_guarded f a ts at place h p (not_before v r) r.within (begun_of grammar r.stuck)) (dead_guard grammar (dead_of grammar r.stuck));
  within = r.within;
}

pub refused_unguarded : {f : Token → Bool} {a : Part Row Token} {ts : List Token} {at : ℕ} → at ≤ length ts → test f (first (drop at ts)) ≡ false → Productive grammar (guard (next f) a)
    → Refused (guard (next f) a) ts at at
refused_unguarded {ts = ts} {at = at} v h p = record { stuck = stuck_unguarded grammar (drop at ts) h refl p; within = v }

pub read_guard : {f : Token → Bool} {a : Part Row Token} {ts : List Token} {at end looked : ℕ} {x : Cst Token} → is_empty empty a ≡ false → test f (first (drop at ts)) ≡ true
    → Read a ts at end looked x → Read (guard (next f) a) ts at end looked (node x)
read_guard {f = f} {ts = ts} {at = at} {end = end} {looked = looked} z h p =
    let l : at < end = goes_on z p in
    record {
      reads = r_guard h p.reads (omega (arith, shortens z p));
      settled = (covered (next f) ts at end looked (omega (arith, l)) p.within p.seen, p.settled);
      begun = begun_guard grammar h p.begun (gone ts at (max end looked) p.begun (omega (arith, l)) (omega (arith, p.within, p.seen)));
      ahead = p.ahead;
      within = p.within;
      seen = p.seen;
    }

pub not_guarded : {f : Token → Bool} {a : Part Row Token} {ts : List Token} {start : Cursor} {e : Fail ℕ} → start.at ≤ length ts → test f (first (drop start.at ts)) ≡ false → Productive grammar (guard (next f) a)
    → e ≡ (let x : Fail ℕ = Found (max start.looked start.at) in x) → Halts (guard (next f) a) ts start e
not_guarded {f = f} {a = a} {ts = ts} {start = start} v h p i = subst (λ x. Halts (guard (next f) a) ts start x) (sym i) (halt (refused_unguarded v h p) refl)

-- no token that the test holds of stands at the place
pub not_one : {f : Token → Bool} {ts : List Token} {start : Cursor} {e : Fail ℕ} (t : Token) → f t ≡ true → start.at ≤ length ts → test f (first (drop start.at ts)) ≡ false
    → e ≡ (let x : Fail ℕ = Found (max start.looked start.at) in x) → Halts (one f) ts start e
not_one {f = f} {ts = ts} {start = start} t w v h i = subst (λ x. Halts (one f) ts start x) (sym i) (halt (record { stuck = stuck_one grammar f (drop start.at ts) h t w; within = v }) refl)

pub moves : {f : Token → Bool} {ts : List Token} {start end : Cursor} {n : ℕ} → Taken f ts start.at n → end ≡ record { at = n; looked = start.looked } → Moved f ts start end
moves {f = f} {ts = ts} {start = start} o e = subst (λ (c : Cursor). Moved f ts start c) (sym e) (record { taken = o; so_far = refl })

-- ---- functions that choose by the next token, and hand on

pub chosen_first : {X : Type 0} (f : Token → Bool) (a b : Part Row Token) (build whole : Cst Token → X) → ((c : Cst Token) → whole (left c) ≡ build c) → (ts : List Token) (start : Cursor) → start.at ≤ length ts
    → test f (first (drop start.at ts)) ≡ true → (r : Result (X × Cursor) (Fail ℕ)) → Advances a build ts start r → Advances (choose (next f) a b) whole ts start r
chosen_first f a b build whole law ts start w h (Ok k) q = record { tree = left q.tree; looked = q.looked; read = read_first h q.read; builds = q.builds ∙ sym (law q.tree); so_far = q.so_far }
chosen_first f a b build whole law ts start w h (Err x) q = halts_left w h q

pub chosen_second : {X : Type 0} (f : Token → Bool) (a b : Part Row Token) (build whole : Cst Token → X) → ((c : Cst Token) → whole (right c) ≡ build c) → (ts : List Token) (start : Cursor) → start.at ≤ length ts
    → test f (first (drop start.at ts)) ≡ false → (r : Result (X × Cursor) (Fail ℕ)) → Advances b build ts start r → Advances (choose (next f) a b) whole ts start r
chosen_second f a b build whole law ts start w h (Ok k) q = record { tree = right q.tree; looked = q.looked; read = read_second h q.read; builds = q.builds ∙ sym (law q.tree); so_far = q.so_far }
chosen_second f a b build whole law ts start w h (Err x) q = halts_right w h q

-- a row, by what it stands for
pub of_row : {X : Type 0} (n : Row) (part : Part Row Token) → grammar n ≡ part → (build whole : Cst Token → X) → ((c : Cst Token) → whole (node c) ≡ build c) → (ts : List Token) (start : Cursor)
    → (r : Result (X × Cursor) (Fail ℕ)) → Advances part build ts start r → Advances (row n) whole ts start r
of_row n part is build whole law ts start (Ok k) q = record {
  tree = node q.tree;
  looked = q.looked;
  read = read_row (subst (λ b. Read b ts start.at k.1.at q.looked q.tree) (sym is) q.read);
  builds = q.builds ∙ sym (law q.tree);
  so_far = q.so_far;
}
of_row n part is build whole law ts start (Err e) q = halts_row (subst (λ b. Halts b ts start e) (sym is) q)

-- Where tables of first tokens decide what a test says of derivations, and which tests a reading has left behind.
use Rattle.std.proofs.Common.{◌≡◌, ℕ, ◌+◌, ◌<◌, ◌≤◌, Bool, true, false, ◌&&◌, List, [], ◌∷◌, length, refl, arith}
use Rattle.grammars.specs.Grammar.{Test, next, Part, nothing, one, row, both, choose, many, guard, Cst, first, test, Derives, d_nothing, d_one, d_row, d_both, d_left, d_right, d_more, d_done, d_guard, Reads, r_nothing, r_one, r_row, r_both, r_left, r_right, r_more, r_done, r_guard, Settled}
use Rattle.grammars.specs.Tables.{is_empty, begins, IsEmptyTable, IsBeginTable, Under, Apart, Picks, Leaves, Covers, IsNear}
use Rattle.grammars.specs.Tests.{and_then}
use Rattle.grammars.specs.Fair.{Fair, f_choose, f_nothing}
use Rattle.grammars.proofs.Readings.{never, derives}
use Rattle.grammars.proofs.Progress.{shorter, progress}
use Rattle.grammars.proofs.Normal.{or_left, or_right, and_both}

module _ {R A : Type 0} (G : R → Part R A) (empty : R → Bool) (begin : R → A → Bool) (empties : IsEmptyTable G empty) (starts : IsBeginTable G empty begin) where
  -- a derivation takes no token, or begins with one of the first ones
  pub data Start (a : Part R A) : List A → List A → Type 0 where
    nothing_taken : {ts : List A} → is_empty empty a ≡ true → Start a ts ts
    takes : {t : A} {ts r : List A} → begins empty begin a t ≡ true → Start a (t ∷ ts) r

  start_both : {a b : Part R A} {ts r s : List A} → Start a ts r → Start b r s → Start (both a b) ts s
  start_both (nothing_taken n) (nothing_taken m) = nothing_taken (and_both _ _ n m)
  start_both (nothing_taken n) (takes h) = takes (or_right _ _ (and_both _ _ n h))
  start_both (takes h) k = takes (or_left _ _ h)

  start_row : {n : R} {ts r : List A} → Start (G n) ts r → Start (row n) ts r
  start_row {n = n} (nothing_taken h) = nothing_taken (empties n h)
  start_row {n = n} (takes {t = t} h) = takes (starts n t h)

  start_left : {f : Test A} {a b : Part R A} {ts r : List A} → Start a ts r → Start (choose f a b) ts r
  start_left (nothing_taken n) = nothing_taken (or_left _ _ n)
  start_left (takes h) = takes (or_left _ _ h)

  start_right : {f : Test A} {a b : Part R A} {ts r : List A} → Start b ts r → Start (choose f a b) ts r
  start_right (nothing_taken n) = nothing_taken (or_right _ _ n)
  start_right (takes h) = takes (or_right _ _ h)

  start_turn : {f : Test A} {a : Part R A} {ts r s : List A} → Start a ts r → Start (many f a) r s → Start (many f a) ts s
  start_turn (nothing_taken n) k = k
  start_turn (takes h) k = takes h

  start_guard : {f : Test A} {a : Part R A} {ts r : List A} (n : ℕ) → Start a ts r → length r + n < length ts → Start (guard f a) ts r
  start_guard n (nothing_taken h) p = absurd (omega (arith, p))
  start_guard n (takes h) p = takes h

  pub start : {a : Part R A} {ts r : List A} {x : Cst A} → Derives G a ts x r → Start a ts r
  start d_nothing = nothing_taken refl
  start (d_one h) = takes h
  start (d_row d) = start_row (start d)
  start (d_both d e) = start_both (start d) (start e)
  start (d_left d) = start_left (start d)
  start (d_right d) = start_right (start d)
  start (d_more d e) = start_turn (start d) (start e)
  start (d_guard {f = f} {ts = ts} h d p) = start_guard (f.far ts) (start d) p
  start d_done = nothing_taken refl

  picked : {f : A → Bool} {a : Part R A} {ts r : List A} → is_empty empty a ≡ false → Under (begins empty begin a) f → Start a ts r → test f (first ts) ≡ true
  picked z u (nothing_taken h) = never h z
  picked z u (takes {t = t} h) = u t h

  left_alone : {f : A → Bool} {a : Part R A} {ts r : List A} → Apart (begins empty begin a) f → Start a ts r → length r < length ts → test f (first ts) ≡ false
  left_alone u (nothing_taken h) p = absurd (omega (arith, p))
  left_alone u (takes {t = t} h) p = u t h

  -- a test of the next token holds of the first tokens of the part
  pub picks_next : {f : A → Bool} {a : Part R A} → is_empty empty a ≡ false → Under (begins empty begin a) f → Picks G (next f) a
  picks_next z u = record { picks = λ ts r x d. picked z u (start d) }

  -- and of none of them
  pub leaves_next : {f : A → Bool} {a : Part R A} → Apart (begins empty begin a) f → Leaves G (next f) a
  leaves_next u = record { leaves = λ ts r x d p. left_alone u (start d) p }

  pub covers_next : {f : A → Bool} {a : Part R A} → is_empty empty a ≡ false → Covers G (next f) a
  covers_next z = record { covers = λ ts r x h d. omega (arith, progress G empty empties d z) }

  behind_one : {f : A → Bool} {g : Test A} {b : Part R A} {ts r : List A} {x : Cst A} → Picks G g b → Derives G (both (one f) b) ts x r → (and_then f g).holds ts ≡ true
  behind_one k (d_both (d_one h) e) = and_both _ _ h (k.picks _ _ _ e)

  -- a test of the next token and those behind it, of a part that begins with that token
  pub picks_then : {f : A → Bool} {g : Test A} {b : Part R A} → Picks G g b → Picks G (and_then f g) (both (one f) b)
  picks_then k = record { picks = λ ts r x d. behind_one k d }

  not_then : (f : A → Bool) (g : Test A) (ts : List A) → test f (first ts) ≡ false → (and_then f g).holds ts ≡ false
  not_then f g [] h = refl
  not_then f g (t ∷ ts) h = no_and (f t) (g.holds ts) h
    where
      no_and : (a b : Bool) → a ≡ false → (a && b) ≡ false
      no_and true b e = never refl e
      no_and false b e = refl

  pub leaves_then : (f : A → Bool) (g : Test A) {a : Part R A} → Apart (begins empty begin a) f → Leaves G (and_then f g) a
  leaves_then f g u = record { leaves = λ ts r x d p. not_then f g ts (left_alone u (start d) p) }

module _ {R A : Type 0} (G : R → Part R A) where
  -- at a later place the tests have looked no further
  pub settled_later : {a : Part R A} {ts r : List A} {x : Cst A} (m n : ℕ) → m ≤ n → (d : Reads G a ts x r) → Settled n d → Settled m d
  settled_later m n le r_nothing w = tt
  settled_later m n le (r_one h) w = tt
  settled_later m n le (r_row d) w = settled_later m n le d w
  settled_later m n le (r_both d e) w = (settled_later m n le d w.0, settled_later m n le e w.1)
  settled_later m n le (r_left h d) w = (omega (arith, le, w.0), settled_later m n le d w.1)
  settled_later m n le (r_right h d) w = (omega (arith, le, w.0), settled_later m n le d w.1)
  settled_later m n le (r_more h d e) w = (omega (arith, le, w.0), settled_later m n le d w.1, settled_later m n le e w.2)
  settled_later m n le (r_done h) w = omega (arith, le, w)
  settled_later m n le (r_guard h d p) w = (omega (arith, le, w.0), settled_later m n le d w.1)

  -- in a grammar that looks at the next token alone the tests are settled where the reading ends
  module _ (near : (n : R) → IsNear (G n)) where
    pub settled_near : {a : Part R A} {ts r : List A} {x : Cst A} (m : ℕ) → IsNear a → (d : Reads G a ts x r) → m ≤ length r → Settled m d
    settled_near m k r_nothing le = tt
    settled_near m k (r_one h) le = tt
    settled_near m k (r_row {n = n} d) le = settled_near m (near n) d le
    settled_near m k (r_both d e) le = (settled_near m k.0 d (omega (arith, le, shorter G (derives G e))), settled_near m k.1 e le)
    settled_near m k (r_left {ts = ts} h d) le = (omega (arith, le, k.0 ts, shorter G (derives G d)), settled_near m k.1 d le)
    settled_near m k (r_right {ts = ts} h d) le = (omega (arith, le, k.0 ts, shorter G (derives G d)), settled_near m k.2 d le)
    settled_near m k (r_more {ts = ts} h d e) le =
        (omega (arith, le, k.0 ts, shorter G (derives G d), shorter G (derives G e)), settled_near m k.1 d (omega (arith, le, shorter G (derives G e))), settled_near m k e le)
    settled_near m k (r_done {ts = ts} h) le = omega (arith, le, k.0 ts)
    settled_near m k (r_guard {ts = ts} h d p) le = (omega (arith, le, k.0 ts, shorter G (derives G d)), settled_near m k.1 d le)

module _ {R A : Type 0} (G : R → Part R A) (empty : R → Bool) where
  leaves_nothing : (f : Test A) → Leaves G f nothing
  leaves_nothing f = record { leaves = λ ts r x d p. none_taken ts r x d p }
    where
      none_taken : (ts r : List A) (x : Cst A) → Derives G nothing ts x r → length r < length ts → f.holds ts ≡ false
      none_taken ts r x d_nothing p = absurd (omega (arith, p))

  -- a part that may be left out
  pub fair_maybe : {f : Test A} {a : Part R A} → Fair G empty a → Picks G f a → Fair G empty (choose f a nothing)
  fair_maybe {f = f} k u = f_choose k f_nothing u (leaves_nothing f)

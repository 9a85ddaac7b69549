-- Grammars whose conditions are computed over finitely many tokens. Each token looks like one of them to all tests of the next token.
use Rattle.std.proofs.Common.{◌≡◌, ℕ, ◌+◌, ◌<◌, Bool, true, false, not, ◌&&◌, ◌||◌, List, [], ◌∷◌, ◌++◌, length, ◌⊎◌, inl, inr, refl, sym, ap, subst, ◌∙◌, arith}
use Rattle.grammars.specs.Grammar.{Test, next, Part, nothing, one, row, both, choose, many, guard, Cst, first, test, Derives, d_nothing, d_one, d_row, d_both, d_left, d_right, d_more, d_done, d_guard}
use Rattle.grammars.specs.Tables.{is_empty, IsEmptyTable, Picks, Leaves}
use Rattle.grammars.specs.Fair.{Edge, e_many, e_inside, e_maybe, e_left, e_right, e_guard, e_row, e_second, e_first}
use Rattle.grammars.proofs.Readings.{never}
use Rattle.grammars.proofs.Normal.{or_left, or_right, and_both}
use Rattle.bound_grammars.specs.Obeying.{Among, here, there}
use Rattle.bound_grammars.specs.Clear.{Decided, IsDecidedBut, Apart, IsClearBut}

pub in_front : {A : Type 0} {f : Test A} {fs : List (Test A)} (gs : List (Test A)) → Among fs f → Among (fs ++ gs) f
in_front gs here = here
in_front gs (there k) = there (in_front gs k)

pub behind : {A : Type 0} {f : Test A} (fs : List (Test A)) {gs : List (Test A)} → Among gs f → Among (fs ++ gs) f
behind [] k = k
behind (g ∷ fs) k = there (behind fs k)

abbrev pub all : {A : Type 0} → (A → Bool) → List A → Bool
all f [] = true
all f (t ∷ ts) = f t && all f ts

abbrev pub implies : Bool → Bool → Bool
implies b c = not b || c

abbrev pub excludes : Bool → Bool → Bool
excludes b c = not (b && c)

-- a test that sees no difference between a token and the one that it looks like
pub record Sight {A : Type 0} (like : A → A) : Type 0 where
  pub sees : A → Bool
  pub blind : (t : A) → sees t ≡ sees (like t)

-- how a choice is decided: by the next token, by a rule on the next token, or by a rule that looks farther
pub data Way {A : Type 0} (like : A → A) (far near : List (Test A)) : Type 0 where
  free : Sight like → Way like far near
  ruled : (s : Sight like) → Among near (next s.sees) → Way like far near
  farther : (f : Test A) → Among far f → Way like far near

-- a part with its ways
pub data Shape (R : Type 0) {A : Type 0} (like : A → A) (far near : List (Test A)) : Type 0 where
  s_nothing : Shape R like far near
  s_one : Sight like → Shape R like far near
  s_row : R → Shape R like far near
  s_both : Shape R like far near → Shape R like far near → Shape R like far near
  s_choose : Way like far near → Shape R like far near → Shape R like far near → Shape R like far near
  s_many : Way like far near → Shape R like far near → Shape R like far near
  s_guard : Sight like → Shape R like far near → Shape R like far near

module _ {A : Type 0} {like : A → A} {far near : List (Test A)} where
  abbrev pub test_of : Way like far near → Test A
  test_of (free s) = next s.sees
  test_of (ruled s k) = next s.sees
  test_of (farther f k) = f

  -- with which tokens a loop goes on that no rule decides
  abbrev pub own : Way like far near → A → Bool
  own (free s) t = s.sees t
  own (ruled s u) t = false
  own (farther f u) t = false

module _ {R A : Type 0} {like : A → A} {far near : List (Test A)} where
  abbrev pub plain : Shape R like far near → Part R A
  plain s_nothing = nothing
  plain (s_one s) = one s.sees
  plain (s_row n) = row n
  plain (s_both a b) = both (plain a) (plain b)
  plain (s_choose w a b) = choose (test_of w) (plain a) (plain b)
  plain (s_many w a) = many (test_of w) (plain a)
  plain (s_guard s a) = guard (next s.sees) (plain a)

  -- the part of a shape, as an index
  pub data View : Shape R like far near → Part R A → Type 0 where
    v_nothing : View s_nothing nothing
    v_one : {s : Sight like} → View (s_one s) (one s.sees)
    v_row : {n : R} → View (s_row n) (row n)
    v_both : {a b : Shape R like far near} → View (s_both a b) (both (plain a) (plain b))
    v_choose : {w : Way like far near} {a b : Shape R like far near} → View (s_choose w a b) (choose (test_of w) (plain a) (plain b))
    v_many : {w : Way like far near} {a : Shape R like far near} → View (s_many w a) (many (test_of w) (plain a))
    v_guard : {s : Sight like} {a : Shape R like far near} → View (s_guard s a) (guard (next s.sees) (plain a))

  pub view : (a : Shape R like far near) → View a (plain a)
  view s_nothing = v_nothing
  view (s_one s) = v_one
  view (s_row n) = v_row
  view (s_both a b) = v_both
  view (s_choose w a b) = v_choose
  view (s_many w a) = v_many
  view (s_guard s a) = v_guard

-- which rows may be empty, with which tokens they begin, and with which their loops and optional parts go on that no rule decides
pub record Tables (R : Type 0) {A : Type 0} (like : A → A) : Type 0 where
  pub empty : R → Bool
  pub begin : R → Sight like
  pub go : R → Sight like

module _ {R A : Type 0} {like : A → A} {far near : List (Test A)} (k : Tables R like) where
  abbrev pub vacant : Shape R like far near → Bool
  vacant a = is_empty k.empty (plain a)

  abbrev pub starts : Shape R like far near → A → Bool
  starts s_nothing t = false
  starts (s_one s) t = s.sees t
  starts (s_row n) t = (k.begin n).sees t
  starts (s_both a b) t = starts a t || (vacant a && starts b t)
  starts (s_choose w a b) t = starts a t || starts b t
  starts (s_many w a) t = starts a t
  starts (s_guard s a) t = s.sees t && starts a t

  abbrev pub goes : Shape R like far near → A → Bool
  goes s_nothing t = false
  goes (s_one s) t = false
  goes (s_row n) t = (k.go n).sees t
  goes (s_both a b) t = goes b t || (vacant b && goes a t)
  goes (s_choose w a b) t = goes a t || (goes b t || (vacant b && own w t))
  goes (s_many w a) t = own w t || goes a t
  goes (s_guard s a) t = goes a t

  -- ---- what is computed over the tokens

  module _ (tokens : List A) where
    abbrev pub picked : Sight like → Shape R like far near → Bool
    picked s a = not (vacant a) && all (λ t. implies (starts a t) (s.sees t)) tokens

    abbrev pub left_out : Sight like → Shape R like far near → Bool
    left_out s b = all (λ t. excludes (starts b t) (s.sees t)) tokens

    abbrev pub chosen : Way like far near → Shape R like far near → Shape R like far near → Bool
    chosen (free s) a b = picked s a && left_out s b
    chosen (ruled s u) a b = picked s a && left_out s b
    chosen (farther f u) a b = true

    abbrev pub turned : Way like far near → Shape R like far near → Bool
    turned (free s) a = picked s a
    turned (ruled s u) a = picked s a
    turned (farther f u) a = true

    abbrev pub parted : Shape R like far near → Shape R like far near → Bool
    parted a b = all (λ t. excludes (goes a t) (starts b t)) tokens

    abbrev pub sound : Shape R like far near → Bool
    sound s_nothing = true
    sound (s_one s) = true
    sound (s_row n) = true
    sound (s_both a b) = parted a b && (sound a && sound b)
    sound (s_choose w a b) = chosen w a b && (sound a && sound b)
    sound (s_many w a) = turned w a && (parted a a && sound a)
    sound (s_guard s a) = sound a

    -- a row with its tables
    abbrev pub fits : R → Shape R like far near → Bool
    fits n a = implies (vacant a) (k.empty n) && (all (λ t. implies (starts a t) ((k.begin n).sees t)) tokens
        && (all (λ t. implies (goes a t) ((k.go n).sees t)) tokens && sound a))

implied : (b c : Bool) → (not b || c) ≡ true → b ≡ true → c ≡ true
implied true c h e = h
implied false c h e = never e refl

excluded : (b c : Bool) → not (b && c) ≡ true → b ≡ true → c ≡ false
excluded true true h e = sym h
excluded true false h e = refl
excluded false c h e = never e refl

and_first : (b c : Bool) → (b && c) ≡ true → b ≡ true
and_first true c h = refl
and_first false c h = h

and_second : (b c : Bool) → (b && c) ≡ true → c ≡ true
and_second true c h = h
and_second false c h = never h refl

or_cases : (b c : Bool) → (b || c) ≡ true → (b ≡ true) ⊎ (c ≡ true)
or_cases true c h = inl refl
or_cases false c h = inr h

is_false : (b : Bool) → (b ≡ true → ⊥) → b ≡ false
is_false true h = absurd (h refl)
is_false false h = refl

no : (b : Bool) → not b ≡ true → b ≡ false
no true h = sym h
no false h = refl

-- each token looks like one of the list
abbrev pub Covers : {A : Type 0} → (A → A) → List A → Type 0
Covers {A = A} like tokens = (f : A → Bool) → all f tokens ≡ true → (t : A) → f (like t) ≡ true

module _ {R A : Type 0} {like : A → A} {far near : List (Test A)} (k : Tables R like) (tokens : List A) (covers : Covers like tokens)
    (S : R → Shape R like far near) (fit : (n : R) → fits k tokens n (S n) ≡ true) where
  abbrev pub H : R → Part R A
  H n = plain (S n)

  empties : IsEmptyTable H k.empty
  empties n h = implied _ _ (and_first _ _ (fit n)) h

  same_or : {a b c d : Bool} → a ≡ b → c ≡ d → (a || c) ≡ (b || d)
  same_or p q = cc

  same_and : {a b c d : Bool} → a ≡ b → c ≡ d → (a && c) ≡ (b && d)
  same_and p q = cc

  starts_seen : (a : Shape R like far near) (t : A) → starts k a t ≡ starts k a (like t)
  starts_seen s_nothing t = refl
  starts_seen (s_one s) t = s.blind t
  starts_seen (s_row n) t = (k.begin n).blind t
  starts_seen (s_both a b) t = same_or (starts_seen a t) (same_and {a = vacant k a} {b = vacant k a} refl (starts_seen b t))
  starts_seen (s_choose w a b) t = same_or (starts_seen a t) (starts_seen b t)
  starts_seen (s_many w a) t = starts_seen a t
  starts_seen (s_guard s a) t = same_and (s.blind t) (starts_seen a t)

  own_seen : (w : Way like far near) (t : A) → own w t ≡ own w (like t)
  own_seen (free s) t = s.blind t
  own_seen (ruled s u) t = refl
  own_seen (farther f u) t = refl

  goes_seen : (a : Shape R like far near) (t : A) → goes k a t ≡ goes k a (like t)
  goes_seen s_nothing t = refl
  goes_seen (s_one s) t = refl
  goes_seen (s_row n) t = (k.go n).blind t
  goes_seen (s_both a b) t = same_or (goes_seen b t) (same_and {a = vacant k b} {b = vacant k b} refl (goes_seen a t))
  goes_seen (s_choose w a b) t = same_or (goes_seen a t) (same_or (goes_seen b t) (same_and {a = vacant k b} {b = vacant k b} refl (own_seen w t)))
  goes_seen (s_many w a) t = same_or (own_seen w t) (goes_seen a t)
  goes_seen (s_guard s a) t = goes_seen a t

  -- what is computed holds of each token
  under : (f g : A → Bool) → ((t : A) → f t ≡ f (like t)) → ((t : A) → g t ≡ g (like t)) → all (λ t. not (f t) || g t) tokens ≡ true → (t : A) → f t ≡ true → g t ≡ true
  under f g p q h t e = q t ∙ implied (f (like t)) (g (like t)) (covers (λ t. not (f t) || g t) h t) (sym (p t) ∙ e)

  beside : (f g : A → Bool) → ((t : A) → f t ≡ f (like t)) → ((t : A) → g t ≡ g (like t)) → all (λ t. not (f t && g t)) tokens ≡ true → (t : A) → f t ≡ true → g t ≡ false
  beside f g p q h t e = q t ∙ excluded (f (like t)) (g (like t)) (covers (λ t. not (f t && g t)) h t) (sym (p t) ∙ e)

  begun : (n : R) (t : A) → starts k (S n) t ≡ true → (k.begin n).sees t ≡ true
  begun n t e = under (λ t. starts k (S n) t) (λ t. (k.begin n).sees t) (starts_seen (S n)) (λ t. (k.begin n).blind t) (and_first _ _ (and_second _ _ (fit n))) t e

  gone : (n : R) (t : A) → goes k (S n) t ≡ true → (k.go n).sees t ≡ true
  gone n t e = under (λ t. goes k (S n) t) (λ t. (k.go n).sees t) (goes_seen (S n)) (λ t. (k.go n).blind t) (and_first _ _ (and_second _ _ (and_second _ _ (fit n)))) t e

  -- a derivation takes no token, or begins with one of the first ones
  data Start (a : Shape R like far near) : List A → List A → Type 0 where
    nothing_taken : {ts : List A} → vacant k a ≡ true → Start a ts ts
    takes : {t : A} {ts r : List A} → starts k a t ≡ true → Start a (t ∷ ts) r

  start_both : {a b : Shape R like far near} {ts r s : List A} → Start a ts r → Start b r s → Start (s_both a b) ts s
  start_both (nothing_taken n) (nothing_taken m) = nothing_taken (and_both _ _ n m)
  start_both (nothing_taken n) (takes h) = takes (or_right _ _ (and_both _ _ n h))
  start_both (takes h) u = takes (or_left _ _ h)

  start_row : {n : R} {ts r : List A} → Start (S n) ts r → Start (s_row n) ts r
  start_row {n = n} (nothing_taken h) = nothing_taken (empties n h)
  start_row {n = n} (takes {t = t} h) = takes (begun n t h)

  start_left : {w : Way like far near} {a b : Shape R like far near} {ts r : List A} → Start a ts r → Start (s_choose w a b) ts r
  start_left (nothing_taken n) = nothing_taken (or_left _ _ n)
  start_left (takes h) = takes (or_left _ _ h)

  start_right : {w : Way like far near} {a b : Shape R like far near} {ts r : List A} → Start b ts r → Start (s_choose w a b) ts r
  start_right (nothing_taken n) = nothing_taken (or_right _ _ n)
  start_right (takes h) = takes (or_right _ _ h)

  start_turn : {w : Way like far near} {a : Shape R like far near} {ts r s : List A} → Start a ts r → Start (s_many w a) r s → Start (s_many w a) ts s
  start_turn (nothing_taken n) u = u
  start_turn (takes h) u = takes h

  start_guard : {s : Sight like} {a : Shape R like far near} {ts r : List A} (n : ℕ) → test s.sees (first ts) ≡ true → Start a ts r → length r + n < length ts → Start (s_guard s a) ts r
  start_guard n e (nothing_taken h) p = absurd (omega (arith, p))
  start_guard n e (takes h) p = takes (and_both _ _ e h)

  start_of : {p : Part R A} {ts r : List A} {x : Cst A} → Derives H p ts x r → (a : Shape R like far near) → View a p → Start a ts r
  start_of d_nothing _ v_nothing = nothing_taken refl
  start_of (d_one h) _ v_one = takes h
  start_of (d_row {n = n} d) _ v_row = start_row (start_of d (S n) (view (S n)))
  start_of (d_both d e) _ (v_both {a = a} {b = b}) = start_both (start_of d a (view a)) (start_of e b (view b))
  start_of (d_left d) _ (v_choose {a = a}) = start_left (start_of d a (view a))
  start_of (d_right d) _ (v_choose {b = b}) = start_right (start_of d b (view b))
  start_of (d_more d e) _ (v_many {w = w} {a = a}) = start_turn (start_of d a (view a)) (start_of e (s_many w a) v_many)
  start_of d_done _ v_many = nothing_taken refl
  start_of (d_guard h d p) _ (v_guard {a = a}) = start_guard _ h (start_of d a (view a)) p

  start : (a : Shape R like far near) {ts r : List A} {x : Cst A} → Derives H (plain a) ts x r → Start a ts r
  start a d = start_of d a (view a)

  holds_first : (s : Sight like) (a : Shape R like far near) {ts r : List A} → vacant k a ≡ false → ((t : A) → starts k a t ≡ true → s.sees t ≡ true) → Start a ts r → test s.sees (first ts) ≡ true
  holds_first s a z u (nothing_taken h) = never h z
  holds_first s a z u (takes {t = t} h) = u t h

  picks : (s : Sight like) (a : Shape R like far near) → picked k tokens s a ≡ true → Picks H (next s.sees) (plain a)
  picks s a h = record { picks = λ ts r x d. holds_first s a (no _ (and_first _ _ h)) (λ t e. under (λ t. starts k a t) (λ t. s.sees t) (starts_seen a) (λ t. s.blind t) (and_second _ _ h) t e) (start a d) }

  fails_first : (s : Sight like) (a : Shape R like far near) {ts r : List A} → ((t : A) → starts k a t ≡ true → s.sees t ≡ false) → Start a ts r → length r < length ts → test s.sees (first ts) ≡ false
  fails_first s a u (nothing_taken h) p = absurd (omega (arith, p))
  fails_first s a u (takes {t = t} h) p = u t h

  leaves : (s : Sight like) (b : Shape R like far near) → left_out k tokens s b ≡ true → Leaves H (next s.sees) (plain b)
  leaves s b h = record { leaves = λ ts r x d p. fails_first s b (λ t e. beside (λ t. starts k b t) (λ t. s.sees t) (starts_seen b) (λ t. s.blind t) h t e) (start b d) p }

  -- the rules that look farther are enough to decide the tests
  pub decided : (a : Shape R like far near) → sound k tokens a ≡ true → Decided H (Among far) (plain a)
  decided s_nothing h = tt
  decided (s_one s) h = tt
  decided (s_row n) h = tt
  decided (s_both a b) h = (decided a (and_first _ _ (and_second (parted k tokens a b) _ h)), decided b (and_second _ _ (and_second (parted k tokens a b) _ h)))
  decided (s_choose w a b) h = (choice w (and_first (chosen k tokens w a b) _ h), decided a (and_first _ _ (and_second (chosen k tokens w a b) _ h)), decided b (and_second _ _ (and_second (chosen k tokens w a b) _ h)))
    where
      choice : (w : Way like far near) → chosen k tokens w a b ≡ true → Among far (test_of w) ⊎ (Picks H (test_of w) (plain a) × Leaves H (test_of w) (plain b))
      choice (free s) h = inr (picks s a (and_first _ _ h), leaves s b (and_second (picked k tokens s a) _ h))
      choice (ruled s u) h = inr (picks s a (and_first _ _ h), leaves s b (and_second (picked k tokens s a) _ h))
      choice (farther f u) h = inl u
  decided (s_many w a) h = (choice w (and_first (turned k tokens w a) _ h), decided a (and_second _ _ (and_second (turned k tokens w a) _ h)))
    where
      choice : (w : Way like far near) → turned k tokens w a ≡ true → Among far (test_of w) ⊎ Picks H (test_of w) (plain a)
      choice (free s) h = inr (picks s a h)
      choice (ruled s u) h = inr (picks s a h)
      choice (farther f u) h = inl u
  decided (s_guard s a) h = decided a h

  pub more_decided : (a : Part R A) → Decided H (Among far) a → Decided H (Among (far ++ near)) a
  more_decided nothing d = tt
  more_decided (one f) d = tt
  more_decided (row n) d = tt
  more_decided (both a b) d = (more_decided a d.0, more_decided b d.1)
  more_decided (choose f a b) d = (elim d.0 [ inl u ↦ inl (in_front near u) | inr u ↦ inr u ], more_decided a d.1, more_decided b d.2)
  more_decided (many f a) d = (elim d.0 [ inl u ↦ inl (in_front near u) | inr u ↦ inr u ], more_decided a d.1)
  more_decided (guard f a) d = more_decided a d

  -- ---- the loops and optional parts that may stand last in a part

  pub data Bound (h : A → Bool) (g : Test A) : Type 0 where
    by_rule : Among (far ++ near) g → Bound h g
    by_token : ((t : A) (us : List A) → g.holds (t ∷ us) ≡ true → h t ≡ true) → Bound h g

  wider : {h h' : A → Bool} {g : Test A} → ((t : A) → h t ≡ true → h' t ≡ true) → Bound h g → Bound h' g
  wider u (by_rule r) = by_rule r
  wider u (by_token b) = by_token (λ t us e. u t (b t us e))

  bound_own : (w : Way like far near) → Bound (λ t. own w t) (test_of w)
  bound_own (free s) = by_token (λ t us e. e)
  bound_own (ruled s u) = by_rule (behind far u)
  bound_own (farther f u) = by_rule (in_front near u)

  bound_of : {p : Part R A} {c : Bool} {g : Test A} {q : Part R A} → Edge H k.empty c p g q → (a : Shape R like far near) → View a p → Bound (λ t. goes k a t) g
  bound_of (e_row {r = n} i) _ v_row = wider (λ t e. gone n t e) (bound_of i (S n) (view (S n)))
  bound_of (e_second i) _ (v_both {b = b}) = wider (λ t e. or_left _ _ e) (bound_of i b (view b))
  bound_of (e_first z i) _ (v_both {a = a} {b = b}) = wider (λ t e. or_right (goes k b t) _ (and_both _ _ z e)) (bound_of i a (view a))
  bound_of (e_left i) _ (v_choose {a = a}) = wider (λ t e. or_left _ _ e) (bound_of i a (view a))
  bound_of (e_right i) _ (v_choose {a = a} {b = b}) = wider (λ t e. or_right (goes k a t) _ (or_left _ _ e)) (bound_of i b (view b))
  bound_of (e_maybe z) _ (v_choose {w = w} {a = a} {b = b}) = wider (λ t e. or_right (goes k a t) _ (or_right (goes k b t) _ (and_both _ _ z e))) (bound_own w)
  bound_of e_many _ (v_many {w = w}) = wider (λ t e. or_left _ _ e) (bound_own w)
  bound_of (e_inside i) _ (v_many {w = w} {a = a}) = wider (λ t e. or_right (own w t) _ e) (bound_of i a (view a))
  bound_of (e_guard i) _ (v_guard {a = a}) = bound_of i a (view a)

  bound : (a : Shape R like far near) {c : Bool} {g : Test A} {q : Part R A} → Edge H k.empty c (plain a) g q → Bound (λ t. goes k a t) g
  bound a i = bound_of i a (view a)

  fails_there : {h : A → Bool} (g : Test A) (b : Shape R like far near) {ts r : List A} → ((t : A) (us : List A) → g.holds (t ∷ us) ≡ true → h t ≡ true) → ((t : A) → h t ≡ true → starts k b t ≡ false)
      → Start b ts r → length r < length ts → g.holds ts ≡ false
  fails_there g b u v (nothing_taken z) p = absurd (omega (arith, p))
  fails_there g b u v (takes {t = t} {ts = us} e) p = is_false _ (λ i. never e (v t (u t us i)))

  apart_from : {h : A → Bool} {g : Test A} (b : Shape R like far near) → Bound h g → ((t : A) → h t ≡ true → starts k b t ≡ false) → Among (far ++ near) g ⊎ Leaves H g (plain b)
  apart_from b (by_rule r) v = inl r
  apart_from {g = g} b (by_token u) v = inr (record { leaves = λ ts r x d p. fails_there g b u v (start b d) p })

  parts : (a b : Shape R like far near) → parted k tokens a b ≡ true → (t : A) → goes k a t ≡ true → starts k b t ≡ false
  parts a b h t e = beside (λ t. goes k a t) (λ t. starts k b t) (goes_seen a) (starts_seen b) h t e

  pub apart : (a : Shape R like far near) → sound k tokens a ≡ true → Apart H k.empty (Among (far ++ near)) (plain a)
  apart s_nothing h = tt
  apart (s_one s) h = tt
  apart (s_row n) h = tt
  apart (s_both a b) h =
      (apart a (and_first _ _ (and_second (parted k tokens a b) _ h)), apart b (and_second _ _ (and_second (parted k tokens a b) _ h)), λ c g q i. apart_from b (bound a i) (parts a b (and_first _ _ h)))
  apart (s_choose w a b) h = (apart a (and_first _ _ (and_second (chosen k tokens w a b) _ h)), apart b (and_second _ _ (and_second (chosen k tokens w a b) _ h)))
  apart (s_many w a) h = (apart a (and_second _ _ (and_second (turned k tokens w a) _ h)), λ c g q i. apart_from a (bound a i) (parts a a (and_first _ _ (and_second (turned k tokens w a) _ h))))
  apart (s_guard s a) h = apart a h

  sound_row : (n : R) → sound k tokens (S n) ≡ true
  sound_row n =
      and_second (all (λ t. implies (goes k (S n) t) ((k.go n).sees t)) tokens) (sound k tokens (S n))
      (and_second (all (λ t. implies (starts k (S n) t) ((k.begin n).sees t)) tokens) (all (λ t. implies (goes k (S n) t) ((k.go n).sees t)) tokens && sound k tokens (S n))
      (and_second (implies (vacant k (S n)) (k.empty n)) _ (fit n)))

  pub row_decided : (n : R) → Decided H (Among far) (H n)
  row_decided n = decided (S n) (sound_row n)

  pub clear : IsClearBut H k.empty (Among (far ++ near))
  clear = record { empties = empties; decided = λ n. more_decided (H n) (row_decided n); apart = λ n. apart (S n) (sound_row n) }

-- the same conditions of a grammar with the same rows
module _ {R A : Type 0} {G H : R → Part R A} (same : (n : R) → G n ≡ H n) where
  as_d : {p p' : Part R A} {ts r : List A} {x : Cst A} → p ≡ p' → Derives H p ts x r → Derives H p' ts x r
  as_d {ts = ts} {r = r} {x = x} e d = subst (λ m. Derives H m ts x r) e d

  pub derived : {a : Part R A} {ts r : List A} {x : Cst A} → Derives G a ts x r → Derives H a ts x r
  derived d_nothing = d_nothing
  derived (d_one h) = d_one h
  derived (d_row {n = n} d) = d_row (as_d (same n) (derived d))
  derived (d_both d e) = d_both (derived d) (derived e)
  derived (d_left d) = d_left (derived d)
  derived (d_right d) = d_right (derived d)
  derived (d_more d e) = d_more (derived d) (derived e)
  derived d_done = d_done
  derived (d_guard h d p) = d_guard h (derived d) p

  same_picks : {f : Test A} {a : Part R A} → Picks H f a → Picks G f a
  same_picks u = record { picks = λ ts r x d. u.picks ts r x (derived d) }

  same_leaves : {f : Test A} {a : Part R A} → Leaves H f a → Leaves G f a
  same_leaves u = record { leaves = λ ts r x d p. u.leaves ts r x (derived d) p }

  same_choice : (Rule : Test A → Type 0) {f : Test A} {a b : Part R A} → Rule f ⊎ (Picks H f a × Leaves H f b) → Rule f ⊎ (Picks G f a × Leaves G f b)
  same_choice Rule (inl u) = inl u
  same_choice Rule (inr u) = inr (same_picks u.0, same_leaves u.1)

  same_turn : (Rule : Test A → Type 0) {f : Test A} {a : Part R A} → Rule f ⊎ Picks H f a → Rule f ⊎ Picks G f a
  same_turn Rule (inl u) = inl u
  same_turn Rule (inr u) = inr (same_picks u)

  module _ (Rule : Test A → Type 0) where
    pub same_decided : (a : Part R A) → Decided H Rule a → Decided G Rule a
    same_decided nothing d = tt
    same_decided (one f) d = tt
    same_decided (row n) d = tt
    same_decided (both a b) d = (same_decided a d.0, same_decided b d.1)
    same_decided (choose f a b) d = (same_choice Rule d.0, same_decided a d.1, same_decided b d.2)
    same_decided (many f a) d = (same_turn Rule d.0, same_decided a d.1)
    same_decided (guard f a) d = same_decided a d

    module _ (empty : R → Bool) where
      as_e : {c : Bool} {p p' q : Part R A} {g : Test A} → p ≡ p' → Edge H empty c p g q → Edge H empty c p' g q
      as_e {c = c} {q = q} {g = g} e i = subst (λ m. Edge H empty c m g q) e i

      edged : {c : Bool} {a q : Part R A} {g : Test A} → Edge G empty c a g q → Edge H empty c a g q
      edged e_many = e_many
      edged (e_inside i) = e_inside (edged i)
      edged (e_maybe z) = e_maybe z
      edged (e_left i) = e_left (edged i)
      edged (e_right i) = e_right (edged i)
      edged (e_guard i) = e_guard (edged i)
      edged (e_row {r = n} i) = e_row (as_e (same n) (edged i))
      edged (e_second i) = e_second (edged i)
      edged (e_first z i) = e_first z (edged i)

      same_end : {g : Test A} {b : Part R A} → Rule g ⊎ Leaves H g b → Rule g ⊎ Leaves G g b
      same_end (inl u) = inl u
      same_end (inr u) = inr (same_leaves u)

      pub same_apart : (a : Part R A) → Apart H empty Rule a → Apart G empty Rule a
      same_apart nothing d = tt
      same_apart (one f) d = tt
      same_apart (row n) d = tt
      same_apart (both a b) d = (same_apart a d.0, same_apart b d.1, λ c g q i. same_end (d.2 c g q (edged i)))
      same_apart (choose f a b) d = (same_apart a d.0, same_apart b d.1)
      same_apart (many f a) d = (same_apart a d.0, λ c g q i. same_end (d.1 c g q (edged i)))
      same_apart (guard f a) d = same_apart a d

      at_row : (P : Part R A → Type 0) {a b : Part R A} → a ≡ b → P b → P a
      at_row P e p = subst P (sym e) p

      pub same_clear : IsClearBut H empty Rule → IsClearBut G empty Rule
      same_clear k = record {
        empties = λ n h. k.empties n (sym (ap (λ m. is_empty empty m) (same n)) ∙ h);
        decided = λ n. same_decided (G n) (at_row (λ m. Decided H Rule m) (same n) (k.decided n));
        apart = λ n. same_apart (G n) (at_row (λ m. Apart H empty Rule m) (same n) (k.apart n));
      }

    pub same_is_decided : ((n : R) → Decided H Rule (H n)) → IsDecidedBut G Rule
    same_is_decided k = record { decided = λ n. same_decided (G n) (subst (λ m. Decided H Rule m) (sym (same n)) (k n)) }

-- A grammar as data, its derivations, and the reading that goes by the next tokens.
use Rattle.std.specs.Prelude.{◌≡◌, ℕ, ◌+◌, ◌<◌, ◌≤◌, length, Bool, true, false, List, [], ◌∷◌, ◌++◌, Option, Some, None, ⊤}
use Rattle.std.proofs.Common.{refl, ap, sym}

abbrev pub first : {A : Type 0} → List A → Option A
first [] = None
first (t ∷ ts) = Some t

abbrev pub test : {A : Type 0} → (A → Bool) → Option A → Bool
test f None = false
test f (Some t) = f t

-- A test on the tokens that come next. It holds at no end. It looks at a token behind so many others, or at the end there, and at
-- none behind that one: other tokens there make no difference.
pub record Test (A : Type 0) : Type 0 where
  pub holds : List A → Bool
  pub far : List A → ℕ
  pub ends : holds [] ≡ false
  pub says : (p r s : List A) → far (p ++ r) ≤ length p → first r ≡ first s → holds (p ++ s) ≡ holds (p ++ r)
  pub looks : (p r s : List A) → far (p ++ r) ≤ length p → first r ≡ first s → far (p ++ s) ≡ far (p ++ r)

pub first_same : {A : Type 0} (p r s : List A) → first r ≡ first s → first (p ++ s) ≡ first (p ++ r)
first_same [] r s e = sym e
first_same (t ∷ p) r s e = refl

-- a test of the next token alone
abbrev pub next : {A : Type 0} → (A → Bool) → Test A
next f = record {
  holds = λ ts. test f (first ts);
  far = λ ts. 0;
  ends = refl;
  says = λ p r s le e. ap (λ t. test f t) (first_same p r s e);
  looks = λ p r s le e. refl;
}

-- The right side of a row. A test says before which tokens a part is taken.
pub data Part (R A : Type 0) : Type 0 where
  nothing : Part R A
  one : (A → Bool) → Part R A
  row : R → Part R A
  both : Part R A → Part R A → Part R A
  -- the first part, or the second; a reading takes the first where the test holds
  choose : Test A → Part R A → Part R A → Part R A
  -- any number of turns; a reading takes one more wherever the test holds
  many : Test A → Part R A → Part R A
  -- the part, only where the test holds, and with every token that the test looks at
  guard : Test A → Part R A → Part R A

-- A tree of a derivation, with every token.
pub data Cst (A : Type 0) : Type 0 where
  none : Cst A
  leaf : A → Cst A
  node : Cst A → Cst A
  pair : Cst A → Cst A → Cst A
  left : Cst A → Cst A
  right : Cst A → Cst A

-- x is a derivation of the part by the tokens of ts before the rest r
pub data Derives {R A : Type 0} (G : R → Part R A) : Part R A → List A → Cst A → List A → Type 0 where
  d_nothing : {ts : List A} → Derives G nothing ts none ts
  d_one : {f : A → Bool} {t : A} {ts : List A} → f t ≡ true → Derives G (one f) (t ∷ ts) (leaf t) ts
  d_row : {n : R} {ts r : List A} {x : Cst A} → Derives G (G n) ts x r → Derives G (row n) ts (node x) r
  d_both : {a b : Part R A} {ts r s : List A} {x y : Cst A} → Derives G a ts x r → Derives G b r y s → Derives G (both a b) ts (pair x y) s
  d_left : {f : Test A} {a b : Part R A} {ts r : List A} {x : Cst A} → Derives G a ts x r → Derives G (choose f a b) ts (left x) r
  d_right : {f : Test A} {a b : Part R A} {ts r : List A} {x : Cst A} → Derives G b ts x r → Derives G (choose f a b) ts (right x) r
  d_more : {f : Test A} {a : Part R A} {ts r s : List A} {x y : Cst A} → Derives G a ts x r → Derives G (many f a) r y s → Derives G (many f a) ts (pair x y) s
  d_done : {f : Test A} {a : Part R A} {ts : List A} → Derives G (many f a) ts none ts
  d_guard : {f : Test A} {a : Part R A} {ts r : List A} {x : Cst A} → f.holds ts ≡ true → Derives G a ts x r → length r + f.far ts < length ts → Derives G (guard f a) ts (node x) r

-- the same, where each choice goes by its test
pub data Reads {R A : Type 0} (G : R → Part R A) : Part R A → List A → Cst A → List A → Type 0 where
  r_nothing : {ts : List A} → Reads G nothing ts none ts
  r_one : {f : A → Bool} {t : A} {ts : List A} → f t ≡ true → Reads G (one f) (t ∷ ts) (leaf t) ts
  r_row : {n : R} {ts r : List A} {x : Cst A} → Reads G (G n) ts x r → Reads G (row n) ts (node x) r
  r_both : {a b : Part R A} {ts r s : List A} {x y : Cst A} → Reads G a ts x r → Reads G b r y s → Reads G (both a b) ts (pair x y) s
  r_left : {f : Test A} {a b : Part R A} {ts r : List A} {x : Cst A} → f.holds ts ≡ true → Reads G a ts x r → Reads G (choose f a b) ts (left x) r
  r_right : {f : Test A} {a b : Part R A} {ts r : List A} {x : Cst A} → f.holds ts ≡ false → Reads G b ts x r → Reads G (choose f a b) ts (right x) r
  r_more : {f : Test A} {a : Part R A} {ts r s : List A} {x y : Cst A} → f.holds ts ≡ true → Reads G a ts x r → Reads G (many f a) r y s → Reads G (many f a) ts (pair x y) s
  r_done : {f : Test A} {a : Part R A} {ts : List A} → f.holds ts ≡ false → Reads G (many f a) ts none ts
  r_guard : {f : Test A} {a : Part R A} {ts r : List A} {x : Cst A} → f.holds ts ≡ true → Reads G a ts x r → length r + f.far ts < length ts → Reads G (guard f a) ts (node x) r

-- At a place with so many tokens left, each test of the reading has looked at no token behind the next one.
abbrev pub Settled : {R A : Type 0} {G : R → Part R A} {a : Part R A} {ts r : List A} {x : Cst A} → ℕ → Reads G a ts x r → Type 0
Settled m r_nothing = ⊤
Settled m (r_one h) = ⊤
Settled m (r_row d) = Settled m d
Settled m (r_both d e) = Settled m d × Settled m e
Settled m (r_left {f = f} {ts = ts} h d) = (m + f.far ts ≤ length ts) × Settled m d
Settled m (r_right {f = f} {ts = ts} h d) = (m + f.far ts ≤ length ts) × Settled m d
Settled m (r_more {f = f} {ts = ts} h d e) = (m + f.far ts ≤ length ts) × Settled m d × Settled m e
Settled m (r_done {f = f} {ts = ts} h) = m + f.far ts ≤ length ts
Settled m (r_guard {f = f} {ts = ts} h d p) = (m + f.far ts ≤ length ts) × Settled m d

-- some tokens are a derivation of the part
abbrev pub Productive : {R A : Type 0} → (R → Part R A) → Part R A → Type 0
Productive {A = A} G a = (ts : List A) × (x : Cst A) × Derives G a ts x []

-- the tokens before rest begin a list with a derivation
pub record Begun {R A : Type 0} (G : R → Part R A) (a : Part R A) (ts rest : List A) : Type 0 where
  pub before : List A
  pub split : ts ≡ before ++ rest
  pub begins : (c : List A) × (x : Cst A) × Derives G a (before ++ c) x []

-- The tokens before rest begin a list with a derivation. With the next token, or the end, none is read.
pub record Stuck {R A : Type 0} (G : R → Part R A) (a : Part R A) (ts rest : List A) : Type 0 where
  pub before : List A
  pub split : ts ≡ before ++ rest
  pub begins : (c : List A) × (x : Cst A) × Derives G a (before ++ c) x []
  pub no_more : (s r : List A) (x : Cst A) → first s ≡ first rest → Reads G a (before ++ s) x r → ⊥

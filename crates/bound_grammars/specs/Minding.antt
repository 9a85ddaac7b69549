-- Derivations that mind two kinds of rules: what is taken at a place, and what is not left out there. And a condition on a grammar under
-- which they need none for what can be taken within or without.
use Rattle.std.specs.Prelude.{◌≡◌, ℕ, suc, ◌<◌, ◌≤◌, ◌+◌, Bool, true, false, List, [], ◌∷◌, ◌++◌, length, ◌⊎◌}
use Rattle.grammars.specs.Grammar.{Test, Part, nothing, one, row, both, choose, many, guard, Cst, none, leaf, node, pair, left, right, first, Derives}
use Rattle.grammars.specs.Tables.{is_empty, IsEmptyTable, Covers}
use Rattle.grammars.specs.Fair.{Edge}

-- the test stands in the list with the condition
pub data Paired {A : Type 0} : List (Test A × (List A → Bool)) → Test A → (List A → Bool) → Type 0 where
  at_first : {f : Test A} {w : List A → Bool} {fs : List (Test A × (List A → Bool))} → Paired ((f, w) ∷ fs) f w
  behind_it : {f : Test A} {w : List A → Bool} {p : Test A × (List A → Bool)} {fs : List (Test A × (List A → Bool))} → Paired fs f w → Paired (p ∷ fs) f w

-- the conditions on the places where the part of the test is taken
abbrev pub Allowed : {A : Type 0} → (Test A → (List A → Bool) → Type 0) → Test A → List A → Type 0
Allowed {A = A} Only f ts = (w : List A → Bool) → Only f w → w ts ≡ true

-- x is a derivation of the part by the tokens of ts before the rest r. The part of a test is taken only where its conditions hold. Where
-- the test is one of the second kind, its part is left out only where the test fails.
pub data Minds {R A : Type 0} (G : R → Part R A) (Only : Test A → (List A → Bool) → Type 0) (Due : Test A → Type 0) : Part R A → List A → Cst A → List A → Type 0 where
  m_nothing : {ts : List A} → Minds G Only Due nothing ts none ts
  m_one : {f : A → Bool} {t : A} {ts : List A} → f t ≡ true → Minds G Only Due (one f) (t ∷ ts) (leaf t) ts
  m_row : {n : R} {ts r : List A} {x : Cst A} → Minds G Only Due (G n) ts x r → Minds G Only Due (row n) ts (node x) r
  m_both : {a b : Part R A} {ts r s : List A} {x y : Cst A} → Minds G Only Due a ts x r → Minds G Only Due b r y s → Minds G Only Due (both a b) ts (pair x y) s
  m_left : {f : Test A} {a b : Part R A} {ts r : List A} {x : Cst A} → Allowed Only f ts → Minds G Only Due a ts x r → Minds G Only Due (choose f a b) ts (left x) r
  m_right : {f : Test A} {a b : Part R A} {ts r : List A} {x : Cst A} → (Due f → f.holds ts ≡ false) → Minds G Only Due b ts x r → Minds G Only Due (choose f a b) ts (right x) r
  m_more : {f : Test A} {a : Part R A} {ts r s : List A} {x y : Cst A} → Allowed Only f ts → Minds G Only Due a ts x r → Minds G Only Due (many f a) r y s → Minds G Only Due (many f a) ts (pair x y) s
  m_done : {f : Test A} {a : Part R A} {ts : List A} → (Due f → f.holds ts ≡ false) → Minds G Only Due (many f a) ts none ts
  m_guard : {f : Test A} {a : Part R A} {ts r : List A} {x : Cst A} → f.holds ts ≡ true → Minds G Only Due a ts x r → length r + f.far ts < length ts → Minds G Only Due (guard f a) ts (node x) r

-- The tokens before rest begin a list with a derivation. With the next token, or the end, no list has one that minds the rules.
pub record IsFaultOf {R A : Type 0} (G : R → Part R A) (Only : Test A → (List A → Bool) → Type 0) (Due : Test A → Type 0) (a : Part R A) (ts rest : List A) : Type 0 where
  pub before : List A
  pub split : ts ≡ before ++ rest
  pub begins : (c : List A) × (x : Cst A) × Derives G a (before ++ c) x []
  pub no_more : (s : List A) (x : Cst A) → first s ≡ first rest → Minds G Only Due a (before ++ s) x [] → ⊥

-- ---- how much a derivation is

-- how many optional parts it takes
abbrev pub options : {A : Type 0} → Cst A → ℕ
options none = 0
options (leaf t) = 0
options (node x) = options x
options (pair x y) = options x + options y
options (left x) = suc (options x)
options (right x) = options x

-- how many steps it has
abbrev pub steps : {A : Type 0} → Cst A → ℕ
steps none = 1
steps (leaf t) = 1
steps (node x) = suc (steps x)
steps (pair x y) = suc (steps x + steps y)
steps (left x) = suc (steps x)
steps (right x) = suc (steps x)

module _ {R A : Type 0} (G : R → Part R A) (Only : Test A → (List A → Bool) → Type 0) (Due : Test A → Type 0) where
  -- ---- what tests say of derivations that mind the rules

  -- the test holds wherever the part may be taken and is derived
  pub record Holds (f : Test A) (a : Part R A) : Type 0 where
    pub holds : (ts r : List A) (x : Cst A) → Allowed Only f ts → Minds G Only Due a ts x r → f.holds ts ≡ true

  -- the test fails wherever the part is derived and takes a token
  pub record Fails (f : Test A) (a : Part R A) : Type 0 where
    pub fails : (ts r : List A) (x : Cst A) → Minds G Only Due a ts x r → length r < length ts → f.holds ts ≡ false

  -- what takes no token at a place takes none at any
  pub record Moves (a : Part R A) : Type 0 where
    pub moves : (ts us : List A) (x : Cst A) → Minds G Only Due a ts x ts → Minds G Only Due a us x us

  -- a derivation of no token and no optional part, at any place
  pub record Skips (a : Part R A) : Type 0 where
    pub skips : (ts : List A) → (x : Cst A) × Minds G Only Due a ts x ts × (options x ≡ 0)

  -- where the test holds, tokens that are a derivation of one part are one of the other
  pub record Serves (g : Test A) (p q : Part R A) : Type 0 where
    pub serves : (ts r : List A) (x : Cst A) → g.holds ts ≡ true → Minds G Only Due p ts x r → (y : Cst A) × Minds G Only Due q ts y r × (options y ≤ options x) × (steps y ≤ steps x)

  module _ (empty : R → Bool) where
    -- Each part of the list begins otherwise than the turns of the loop, or is one whose turns, or whose optional part, serve as its
    -- turns. No part that is passed is one that must not be left out.
    pub data Offers (g : Test A) (q : Part R A) : List (Part R A) → Type 0 where
      o_end : Offers g q []
      o_apart : {k : Part R A} {K : List (Part R A)} → Fails g k → (is_empty empty k ≡ true → Moves k) → (is_empty empty k ≡ true → Offers g q K) → Offers g q (k ∷ K)
      o_many : {f : Test A} {p : Part R A} {K : List (Part R A)} → Serves g p q → (Due f → ⊥) → Offers g q K → Offers g q (many f p ∷ K)
      o_taken : {f : Test A} {a b : Part R A} {K : List (Part R A)} → Serves g a q → (Due f → ⊥) → Skips b → Offers g q (b ∷ K) → Offers g q (choose f a b ∷ K)
      o_left_out : {f : Test A} {a b : Part R A} {K : List (Part R A)} → Fails g a → is_empty empty a ≡ false → (Due f → ⊥) → Offers g q (b ∷ K) → Offers g q (choose f a b ∷ K)
      o_nothing : {K : List (Part R A)} → Offers g q K → Offers g q (nothing ∷ K)
      o_both : {a b : Part R A} {K : List (Part R A)} → Offers g q (a ∷ b ∷ K) → Offers g q (both a b ∷ K)
      o_row : {n : R} {K : List (Part R A)} → Offers g q (G n ∷ K) → Offers g q (row n ∷ K)

    -- whatever offers the loop, the part before it does
    abbrev pub OfferedBy : Part R A → Test A → Part R A → Type 0
    OfferedBy b g q = (K : List (Part R A)) → (is_empty empty b ≡ true → Offers g q K) → Offers g q (b ∷ K)

    pub data FairBut : Part R A → Type 0 where
      f_nothing : FairBut nothing
      f_one : {f : A → Bool} → FairBut (one f)
      f_row : {n : R} → FairBut (row n)
      f_guard : {f : Test A} {a : Part R A} → FairBut a → Covers G f a → FairBut (guard f a)
      f_both : {a b : Part R A} → FairBut a → FairBut b → ((c : Bool) (g : Test A) (q : Part R A) → Edge G empty c a g q → Due g ⊎ OfferedBy b g q) → FairBut (both a b)
      f_choose : {f : Test A} {a b : Part R A} → FairBut a → FairBut b → Holds f a → Due f ⊎ Fails f b → FairBut (choose f a b)
      f_many : {f : Test A} {p : Part R A} → FairBut p → Holds f p → ((c : Bool) (g : Test A) (q : Part R A) → Edge G empty c p g q → Due g ⊎ OfferedBy (many f p) g q) → FairBut (many f p)

    pub record IsFairBut : Type 0 where
      pub empties : IsEmptyTable G empty
      pub fair : (n : R) → FairBut (G n)

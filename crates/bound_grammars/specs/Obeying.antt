-- Derivations that obey rules: tests by which a grammar decides what its rows leave open.
use Rattle.std.specs.Prelude.{◌≡◌, ◌<◌, ◌+◌, Bool, true, false, List, [], ◌∷◌, ◌++◌, length}
use Rattle.grammars.specs.Grammar.{Test, Part, nothing, one, row, both, choose, many, guard, Cst, none, leaf, node, pair, left, right, first, Derives}

-- the test is one of the list
pub data Among {A : Type 0} : List (Test A) → Test A → Type 0 where
  here : {f : Test A} {fs : List (Test A)} → Among (f ∷ fs) f
  there : {f g : Test A} {fs : List (Test A)} → Among fs f → Among (g ∷ fs) f

-- x is a derivation of the part by the tokens of ts before the rest r. Where the test of a choice or of a loop is a rule, its part is
-- taken just where the test holds.
pub data Obeys {R A : Type 0} (G : R → Part R A) (Rule : Test A → Type 0) : Part R A → List A → Cst A → List A → Type 0 where
  b_nothing : {ts : List A} → Obeys G Rule nothing ts none ts
  b_one : {f : A → Bool} {t : A} {ts : List A} → f t ≡ true → Obeys G Rule (one f) (t ∷ ts) (leaf t) ts
  b_row : {n : R} {ts r : List A} {x : Cst A} → Obeys G Rule (G n) ts x r → Obeys G Rule (row n) ts (node x) r
  b_both : {a b : Part R A} {ts r s : List A} {x y : Cst A} → Obeys G Rule a ts x r → Obeys G Rule b r y s → Obeys G Rule (both a b) ts (pair x y) s
  b_left : {f : Test A} {a b : Part R A} {ts r : List A} {x : Cst A} → (Rule f → f.holds ts ≡ true) → Obeys G Rule a ts x r → Obeys G Rule (choose f a b) ts (left x) r
  b_right : {f : Test A} {a b : Part R A} {ts r : List A} {x : Cst A} → (Rule f → f.holds ts ≡ false) → Obeys G Rule b ts x r → Obeys G Rule (choose f a b) ts (right x) r
  b_more : {f : Test A} {a : Part R A} {ts r s : List A} {x y : Cst A} → (Rule f → f.holds ts ≡ true) → Obeys G Rule a ts x r → Obeys G Rule (many f a) r y s → Obeys G Rule (many f a) ts (pair x y) s
  b_done : {f : Test A} {a : Part R A} {ts : List A} → (Rule f → f.holds ts ≡ false) → Obeys G Rule (many f a) ts none ts
  b_guard : {f : Test A} {a : Part R A} {ts r : List A} {x : Cst A} → f.holds ts ≡ true → Obeys G Rule a ts x r → length r + f.far ts < length ts → Obeys G Rule (guard f a) ts (node x) r

-- The tokens before rest begin a list with a derivation. With the next token, or the end, no list has one that obeys the rules.
pub record IsFaultBut {R A : Type 0} (G : R → Part R A) (Rule : Test A → Type 0) (a : Part R A) (ts rest : List A) : Type 0 where
  pub before : List A
  pub split : ts ≡ before ++ rest
  pub begins : (c : List A) × (x : Cst A) × Derives G a (before ++ c) x []
  pub no_more : (s : List A) (x : Cst A) → first s ≡ first rest → Obeys G Rule a (before ++ s) x [] → ⊥

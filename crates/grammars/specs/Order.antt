-- Which of two derivations of the same tokens counts, and what a fault is.
use Rattle.std.specs.Prelude.{◌≡◌, ℕ, ◌<◌, ◌+◌, List, [], ◌++◌}
use Rattle.grammars.specs.Grammar.{Part, Cst, none, leaf, node, pair, left, right, first, Derives}

-- how many tokens a derivation takes
abbrev pub count : {A : Type 0} → Cst A → ℕ
count none = 0
count (leaf t) = 1
count (node x) = count x
count (pair x y) = count x + count y
count (left x) = count x
count (right x) = count x

-- At the first place in written order where they differ, the first derivation takes one more turn, or an optional part, of some
-- tokens, and the second takes none.
pub data Prefers {A : Type 0} : Cst A → Cst A → Type 0 where
  p_turn : {x y : Cst A} → 0 < count x → Prefers (pair x y) none
  p_taken : {x y : Cst A} → 0 < count x → count y ≡ 0 → Prefers (left x) (right y)
  p_node : {x y : Cst A} → Prefers x y → Prefers (node x) (node y)
  p_left : {x y : Cst A} → Prefers x y → Prefers (left x) (left y)
  p_right : {x y : Cst A} → Prefers x y → Prefers (right x) (right y)
  p_first : {x x' y y' : Cst A} → Prefers x x' → Prefers (pair x y) (pair x' y')
  p_second : {x y y' : Cst A} → Prefers y y' → Prefers (pair x y) (pair x y')

-- The tokens before rest begin a list with a derivation. With the next token, or the end, no list has one.
pub record IsFault {R A : Type 0} (G : R → Part R A) (a : Part R A) (ts rest : List A) : Type 0 where
  pub before : List A
  pub split : ts ≡ before ++ rest
  pub begins : (c : List A) × (x : Cst A) × Derives G a (before ++ c) x []
  pub no_more : (s : List A) (x : Cst A) → first s ≡ first rest → Derives G a (before ++ s) x [] → ⊥

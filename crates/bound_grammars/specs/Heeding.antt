-- Derivations that heed tests where they take a part, and the condition under which the reading comes before them.
use Rattle.std.specs.Prelude.{◌≡◌, ◌<◌, ◌+◌, Bool, true, false, ⊤, List, ◌∷◌, length, ◌⊎◌}
use Rattle.grammars.specs.Grammar.{Test, Part, nothing, one, row, both, choose, many, guard, Cst, none, leaf, node, pair, left, right}
use Rattle.grammars.specs.Tables.{is_empty, IsEmptyTable, Picks, Leaves}

-- x is a derivation of the part by the tokens of ts before the rest r. Where the test of a choice or of a loop is one of the first kind,
-- its part is taken only where the test holds; where the test of a choice is one of the second kind, its other part is taken only
-- where the test fails. Nothing is asked where a loop ends.
pub data Heeds {R A : Type 0} (G : R → Part R A) (Taken Strict : Test A → Type 0) : Part R A → List A → Cst A → List A → Type 0 where
  h_nothing : {ts : List A} → Heeds G Taken Strict nothing ts none ts
  h_one : {f : A → Bool} {t : A} {ts : List A} → f t ≡ true → Heeds G Taken Strict (one f) (t ∷ ts) (leaf t) ts
  h_row : {n : R} {ts r : List A} {x : Cst A} → Heeds G Taken Strict (G n) ts x r → Heeds G Taken Strict (row n) ts (node x) r
  h_both : {a b : Part R A} {ts r s : List A} {x y : Cst A} → Heeds G Taken Strict a ts x r → Heeds G Taken Strict b r y s → Heeds G Taken Strict (both a b) ts (pair x y) s
  h_left : {f : Test A} {a b : Part R A} {ts r : List A} {x : Cst A} → (Taken f → f.holds ts ≡ true) → Heeds G Taken Strict a ts x r → Heeds G Taken Strict (choose f a b) ts (left x) r
  h_right : {f : Test A} {a b : Part R A} {ts r : List A} {x : Cst A} → (Strict f → f.holds ts ≡ false) → Heeds G Taken Strict b ts x r → Heeds G Taken Strict (choose f a b) ts (right x) r
  h_more : {f : Test A} {a : Part R A} {ts r s : List A} {x y : Cst A} → (Taken f → f.holds ts ≡ true) → Heeds G Taken Strict a ts x r → Heeds G Taken Strict (many f a) r y s → Heeds G Taken Strict (many f a) ts (pair x y) s
  h_done : {f : Test A} {a : Part R A} {ts : List A} → Heeds G Taken Strict (many f a) ts none ts
  h_guard : {f : Test A} {a : Part R A} {ts r : List A} {x : Cst A} → f.holds ts ≡ true → Heeds G Taken Strict a ts x r → length r + f.far ts < length ts → Heeds G Taken Strict (guard f a) ts (node x) r

-- Each part that a test takes has a token. The test holds wherever it is derived, or is one of the first kind; it fails wherever the
-- other part of its choice is derived and takes a token, or is one of the second kind.
abbrev pub Ordered : {R A : Type 0} → (R → Part R A) → (R → Bool) → (Test A → Type 0) → (Test A → Type 0) → Part R A → Type 0
Ordered G empty Taken Strict nothing = ⊤
Ordered G empty Taken Strict (one f) = ⊤
Ordered G empty Taken Strict (row n) = ⊤
Ordered G empty Taken Strict (both a b) = Ordered G empty Taken Strict a × Ordered G empty Taken Strict b
Ordered G empty Taken Strict (choose f a b) = ((Taken f ⊎ Picks G f a) × (Strict f ⊎ Leaves G f b) × is_empty empty a ≡ false) × Ordered G empty Taken Strict a × Ordered G empty Taken Strict b
Ordered G empty Taken Strict (many f a) = ((Taken f ⊎ Picks G f a) × is_empty empty a ≡ false) × Ordered G empty Taken Strict a
Ordered G empty Taken Strict (guard f a) = Ordered G empty Taken Strict a

pub record IsOrderedBut {R A : Type 0} (G : R → Part R A) (empty : R → Bool) (Taken Strict : Test A → Type 0) : Type 0 where
  pub empties : IsEmptyTable G empty
  pub ordered : (n : R) → Ordered G empty Taken Strict (G n)

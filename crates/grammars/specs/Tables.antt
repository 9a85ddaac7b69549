-- With which rows may be empty, which parts may be; with which tokens rows begin, with which parts do.
use Rattle.std.specs.Prelude.{◌≡◌, ⊤, ◌<◌, ◌+◌, length, Bool, true, false, ◌&&◌, ◌||◌, List}
use Rattle.grammars.specs.Grammar.{Test, Part, nothing, one, row, both, choose, many, guard, Cst, Derives}

module _ {R A : Type 0} (empty : R → Bool) where
  abbrev pub is_empty : Part R A → Bool
  is_empty nothing = true
  is_empty (one f) = false
  is_empty (row n) = empty n
  is_empty (both a b) = is_empty a && is_empty b
  is_empty (choose f a b) = is_empty a || is_empty b
  is_empty (many f a) = true
  is_empty (guard f a) = false

  abbrev pub begins : (R → A → Bool) → Part R A → A → Bool
  begins begin nothing t = false
  begins begin (one f) t = f t
  begins begin (row n) t = begin n t
  begins begin (both a b) t = begins begin a t || (is_empty a && begins begin b t)
  begins begin (choose f a b) t = begins begin a t || begins begin b t
  begins begin (many f a) t = begins begin a t
  begins begin (guard f a) t = begins begin a t

-- the rows that may be empty are among these
abbrev pub IsEmptyTable : {R A : Type 0} → (R → Part R A) → (R → Bool) → Type 0
IsEmptyTable {R = R} G empty = (n : R) → is_empty empty (G n) ≡ true → empty n ≡ true

-- each row begins with these tokens alone
abbrev pub IsBeginTable : {R A : Type 0} → (R → Part R A) → (R → Bool) → (R → A → Bool) → Type 0
IsBeginTable {R = R} {A = A} G empty begin = (n : R) (t : A) → begins empty begin (G n) t ≡ true → begin n t ≡ true

abbrev pub Under : {A : Type 0} → (A → Bool) → (A → Bool) → Type 0
Under {A = A} f g = (t : A) → f t ≡ true → g t ≡ true

abbrev pub Apart : {A : Type 0} → (A → Bool) → (A → Bool) → Type 0
Apart {A = A} f g = (t : A) → f t ≡ true → g t ≡ false

-- ---- what tests say of derivations

-- the test holds wherever the part is derived
pub record Picks {R A : Type 0} (G : R → Part R A) (f : Test A) (a : Part R A) : Type 0 where
  pub picks : (ts r : List A) (x : Cst A) → Derives G a ts x r → f.holds ts ≡ true

-- the test fails wherever the part is derived and takes a token
pub record Leaves {R A : Type 0} (G : R → Part R A) (f : Test A) (a : Part R A) : Type 0 where
  pub leaves : (ts r : List A) (x : Cst A) → Derives G a ts x r → length r < length ts → f.holds ts ≡ false

-- where the test holds, a derivation of the part takes each token that the test looks at
pub record Covers {R A : Type 0} (G : R → Part R A) (f : Test A) (a : Part R A) : Type 0 where
  pub covers : (ts r : List A) (x : Cst A) → f.holds ts ≡ true → Derives G a ts x r → length r + f.far ts < length ts

-- ---- grammars that look at the next token alone

abbrev pub IsNear : {R A : Type 0} → Part R A → Type 0
IsNear nothing = ⊤
IsNear (one f) = ⊤
IsNear (row n) = ⊤
IsNear (both a b) = IsNear a × IsNear b
IsNear (choose f a b) = ((ts : List _) → f.far ts ≡ 0) × IsNear a × IsNear b
IsNear (many f a) = ((ts : List _) → f.far ts ≡ 0) × IsNear a
IsNear (guard f a) = ((ts : List _) → f.far ts ≡ 0) × IsNear a

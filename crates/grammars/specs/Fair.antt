-- A condition on a grammar: its alternatives differ at the tokens that tests see, and what stands behind a loop begins otherwise, or
-- is that same loop. So where turns can be taken within or without, both take the same ones.
use Rattle.std.specs.Prelude.{◌≡◌, Bool, true, false, List, [], ◌∷◌}
use Rattle.grammars.specs.Grammar.{Test, Part, nothing, one, row, both, choose, many, guard}
use Rattle.grammars.specs.Tables.{is_empty, Picks, Leaves, Covers}

module _ {R A : Type 0} (G : R → Part R A) (empty : R → Bool) where
  -- Each part of the list begins otherwise than the loop, or is that loop. The flag says whether it turns, or is taken once.
  pub data Offers (g : Test A) (q : Part R A) : Bool → List (Part R A) → Type 0 where
    o_end : {c : Bool} → Offers g q c []
    o_apart : {c : Bool} {k : Part R A} {K : List (Part R A)} → Leaves G g k → (is_empty empty k ≡ true → Offers g q c K) → Offers g q c (k ∷ K)
    o_many : {K : List (Part R A)} → Offers g q true K → Offers g q true (many g q ∷ K)
    o_maybe : {K : List (Part R A)} → Offers g q false K → Offers g q false (choose g q nothing ∷ K)

  -- the loops that may stand last in a part
  pub data Edge : Bool → Part R A → Test A → Part R A → Type 0 where
    e_many : {f : Test A} {p : Part R A} → Edge true (many f p) f p
    e_inside : {c : Bool} {f g : Test A} {p q : Part R A} → Edge c p g q → Edge c (many f p) g q
    e_maybe : {f : Test A} {p b : Part R A} → is_empty empty b ≡ true → Edge false (choose f p b) f p
    e_left : {c : Bool} {f g : Test A} {a b q : Part R A} → Edge c a g q → Edge c (choose f a b) g q
    e_right : {c : Bool} {f g : Test A} {a b q : Part R A} → Edge c b g q → Edge c (choose f a b) g q
    e_guard : {c : Bool} {f g : Test A} {a q : Part R A} → Edge c a g q → Edge c (guard f a) g q
    e_row : {c : Bool} {r : R} {g : Test A} {q : Part R A} → Edge c (G r) g q → Edge c (row r) g q
    e_second : {c : Bool} {g : Test A} {a b q : Part R A} → Edge c b g q → Edge c (both a b) g q
    e_first : {c : Bool} {g : Test A} {a b q : Part R A} → is_empty empty b ≡ true → Edge c a g q → Edge c (both a b) g q

  abbrev pub OfferedBy : Bool → Part R A → Test A → Part R A → Type 0
  OfferedBy c b g q = (K : List (Part R A)) → (is_empty empty b ≡ true → Offers g q c K) → Offers g q c (b ∷ K)

  pub data Fair : Part R A → Type 0 where
    f_nothing : Fair nothing
    f_one : {f : A → Bool} → Fair (one f)
    f_row : {r : R} → Fair (row r)
    f_guard : {f : Test A} {a : Part R A} → Fair a → is_empty empty a ≡ false → Covers G f a → Fair (guard f a)
    f_both : {a b : Part R A} → Fair a → Fair b → ((c : Bool) (g : Test A) (q : Part R A) → Edge c a g q → OfferedBy c b g q) → Fair (both a b)
    f_choose : {f : Test A} {a b : Part R A} → Fair a → Fair b → Picks G f a → Leaves G f b → Fair (choose f a b)
    f_many : {f : Test A} {p : Part R A} → Fair p → Picks G f p → ((c : Bool) (g : Test A) (q : Part R A) → Edge c p g q → OfferedBy c (many f p) g q) → Fair (many f p)

  pub record IsFair : Type 0 where
    pub empties : (n : R) → is_empty empty (G n) ≡ true → empty n ≡ true
    pub fair : (n : R) → Fair (G n)

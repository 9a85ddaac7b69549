-- Conditions on a grammar: what its rules do not decide is decided by the next token.
use Rattle.std.specs.Prelude.{Bool, ⊤, ◌⊎◌}
use Rattle.grammars.specs.Grammar.{Test, Part, nothing, one, row, both, choose, many, guard}
use Rattle.grammars.specs.Tables.{IsEmptyTable, Picks, Leaves}
use Rattle.grammars.specs.Fair.{Edge}

-- Each test that is no rule holds wherever its part is derived, and fails wherever the other part of its choice is derived and takes
-- a token.
abbrev pub Decided : {R A : Type 0} → (R → Part R A) → (Test A → Type 0) → Part R A → Type 0
Decided G Rule nothing = ⊤
Decided G Rule (one f) = ⊤
Decided G Rule (row n) = ⊤
Decided G Rule (both a b) = Decided G Rule a × Decided G Rule b
Decided G Rule (choose f a b) = (Rule f ⊎ (Picks G f a × Leaves G f b)) × Decided G Rule a × Decided G Rule b
Decided G Rule (many f a) = (Rule f ⊎ Picks G f a) × Decided G Rule a
Decided G Rule (guard f a) = Decided G Rule a

pub record IsDecidedBut {R A : Type 0} (G : R → Part R A) (Rule : Test A → Type 0) : Type 0 where
  pub decided : (n : R) → Decided G Rule (G n)

-- What stands behind a loop or an optional part, whose test is no rule, begins otherwise.
abbrev pub Apart : {R A : Type 0} → (R → Part R A) → (R → Bool) → (Test A → Type 0) → Part R A → Type 0
Apart G empty Rule nothing = ⊤
Apart G empty Rule (one f) = ⊤
Apart G empty Rule (row n) = ⊤
Apart G empty Rule (both a b) = Apart G empty Rule a × Apart G empty Rule b × ((c : Bool) (g : Test _) (q : Part _ _) → Edge G empty c a g q → Rule g ⊎ Leaves G g b)
Apart G empty Rule (choose f a b) = Apart G empty Rule a × Apart G empty Rule b
Apart G empty Rule (many f a) = Apart G empty Rule a × ((c : Bool) (g : Test _) (q : Part _ _) → Edge G empty c a g q → Rule g ⊎ Leaves G g a)
Apart G empty Rule (guard f a) = Apart G empty Rule a

pub record IsClearBut {R A : Type 0} (G : R → Part R A) (empty : R → Bool) (Rule : Test A → Type 0) : Type 0 where
  pub empties : IsEmptyTable G empty
  pub decided : (n : R) → Decided G Rule (G n)
  pub apart : (n : R) → Apart G empty Rule (G n)

-- Runs with a bound, and what it is for two of them to agree. E is what ends a run.
use Rattle.std.specs.Prelude.{◌≡◌, ℕ, ◌+◌, ◌*◌, ◌≤◌, List, ◌++◌}

-- the outcome of a run with a bound: the bound came first, or an end, each with the bytes printed so far
pub data Outcome (E : Type 0) : Type 0 where
  Going : (out : List ℕ) → Outcome E
  Over : (how : E) (out : List ℕ) → Outcome E

abbrev pub said : {E : Type 0} → Outcome E → List ℕ
said (Going out) = out
said (Over how out) = out

abbrev pub IsOver : {E : Type 0} → Outcome E → Type 0
IsOver (Going out) = ⊥
IsOver (Over how out) = Unit {0}

abbrev pub IsPrefix : List ℕ → List ℕ → Type 0
IsPrefix a b = (more : List ℕ) × (a ++ more ≡ b)

-- the laws of a run: an end stays, and output only grows
pub record Lawful {E : Type 0} (q : ℕ → Outcome E) : Type 0 where
  pub stays : (n m : ℕ) → n ≤ m → IsOver (q n) → q m ≡ q n
  pub grows : (n m : ℕ) → n ≤ m → IsPrefix (said (q n)) (said (q m))

-- Two runs agree, where q may take f times as long as p: they have the same ends with the same output, and what one has
-- printed at a bound is a front of what the other has printed at some bound.
pub record AgreesBy {E : Type 0} (f : ℕ) (p q : ℕ → Outcome E) : Type 0 where
  pub ends : (n : ℕ) → IsOver (p n) → q (f * (n + 1)) ≡ p n
  pub ends_only : (n : ℕ) → IsOver (q n) → (k : ℕ) × (p k ≡ q n)
  pub says : (n : ℕ) → IsPrefix (said (p n)) (said (q (f * (n + 1))))
  pub says_only : (n : ℕ) → (k : ℕ) × IsPrefix (said (q n)) (said (p k))

-- What a simulation has to show at each bound n: q comes to what p has come to, by a bound j that f bounds; and where p is
-- still going, j grows with n.
abbrev pub Says : {E : Type 0} → ℕ → ℕ → (ℕ → Outcome E) → ℕ → Outcome E → Type 0
Says f slack q n (Going out) = (j : ℕ) × (j ≤ f * (n + 1)) × (n ≤ slack + slack * j) × (q j ≡ Going out)
Says f slack q n (Over how out) = (j : ℕ) × (j ≤ f * (n + 1)) × (q j ≡ Over how out)

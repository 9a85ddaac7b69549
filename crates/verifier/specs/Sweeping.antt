-- The rows of an exception table that count at a place, from left to right.
use Rattle.std.specs.Prelude.{◌≡◌, ℕ, ◌≤◌, List, ◌++◌, drop, Bool, not, ◌||◌}
use Rattle.std.specs.List.{list_all}
use Rattle.std.specs.List.Sorted.{IsNonDecreasingBy}
use Rattle.class_file.specs.declared.class.Handler.{Handler}
use Rattle.class_file.specs.Verification.{covers}
use Rattle.verifier.specs.declared.sweep.HandlerSweep.{HandlerSweep}

-- all rows that cover a place pass a test
abbrev pub all_covering : (Handler → Bool) → ℕ → List Handler → Bool
all_covering test pc rows = list_all (λ h. not (covers h pc) || test h) rows

-- some rows have those of a table that cover a place: what a test says of all the ones that cover it, it says of all the others
pub record HasCovering (table : List Handler) (pc : ℕ) (rows : List Handler) : Type 0 where
  pub holds : (test : Handler → Bool) → all_covering test pc rows ≡ all_covering test pc table

-- from a place on, the rows that are kept and those that have not begun have all that covers
pub record IsSwept (table : List Handler) (at : ℕ) (s : HandlerSweep) : Type 0 where
  pub sorted : IsNonDecreasingBy (λ h. h.start) s.sorted.items
  pub holds : (pc : ℕ) → at ≤ pc → HasCovering table pc (s.covering.items ++ drop s.next s.sorted.items)

-- at the place itself those that are kept have all that covers
pub record IsSweptTo (table : List Handler) (at : ℕ) (s : HandlerSweep) : Type 0 where
  pub swept : IsSwept table at s
  pub covering : HasCovering table at s.covering.items

-- Laws of runs.
use Rattle.std.specs.Prelude.{◌≡◌, ℕ, ◌+◌, ◌≤◌, List}
use Rattle.class_file.specs.declared.class.Set.{Set}
use Rattle.class_file.specs.Machine.{Next, Over, Ending, written, on_from}
use Rattle.class_file.specs.Runs.{Begins}

-- a run of some steps and then of more is one run
abbrev pub RunsAdd : Type 0
RunsAdd = (set : Set) (m n : ℕ) (s : Next) → on_from set (m + n) s ≡ on_from set n (on_from set m s)

-- what was written stays
abbrev pub OutputGrows : Type 0
OutputGrows = (set : Set) (n m : ℕ) (s : Next) → n ≤ m → Begins (written (on_from set n s)) (written (on_from set m s))

-- a run that is over stays over
abbrev pub OverStays : Type 0
OverStays = (set : Set) (n m : ℕ) (s : Next) (how : Ending) (out : List ℕ) → n ≤ m → on_from set n s ≡ Over how out → on_from set m s ≡ Over how out

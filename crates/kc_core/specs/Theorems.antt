-- What is proved of the meaning of trees.
use Rattle.std.specs.Prelude.{◌≢◌, ℕ, List}
use Rattle.kc_core.specs.declared.tree.Span.{Span}
use Rattle.kc_core.specs.declared.tree.Program.{Program}
use Rattle.kc_core.specs.Runs.{Over, Lawful}
use Rattle.kc_core.specs.Meaning.{Broken, meaning}
use Rattle.kc_core.specs.Formed.{MainFormed}

-- with more units an end stays, and output only grows
abbrev pub MeaningIsLawful : Type 0
MeaningIsLawful = (program : Program) (main : ℕ) (input : List ℕ) → Lawful (meaning program main input)

-- a well-formed program breaks no rule of its meaning, on any input, with any units
abbrev pub NeverBroken : Type 0
NeverBroken = (program : Program) (main : ℕ) → MainFormed program main → (input : List ℕ) (n : ℕ) (at : Span) (out : List ℕ) → meaning program main input n ≢ Over (Broken at) out

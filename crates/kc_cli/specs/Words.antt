-- The words of a command line, and what they command.
use Rattle.std.specs.Prelude.{◌≡◌, ◌<◌, ◌≤◌, ◌⊎◌, ℕ, List, [], ◌∷◌, codes, decimal}
use Rattle.kc_cli.specs.SourceFile.{IsSourceFile}
use Rattle.kc_cli.specs.declared.words.Command.{Command}
use Rattle.kc_cli.specs.declared.words.Command.TheVariants.{Exec}

-- the steps that a program may make where the words don't say how many
abbrev pub usual_steps : ℕ
usual_steps = 1000000000

-- a count of steps: from 1 to 10 ^ 12, in decimal without a leading zero
abbrev pub IsStepCount : List ℕ → ℕ → Type 0
IsStepCount word steps = (word ≡ decimal steps) × (0 < steps) × (steps ≤ 1000000000000)

-- `exec FILE` and `exec --steps N FILE`
abbrev pub IsExec : List (List ℕ) → ℕ → List ℕ → Type 0
IsExec words steps file =
    ((words ≡ codes "exec" ∷ file ∷ []) × (steps ≡ usual_steps))
    ⊎ ((number : List ℕ) × (words ≡ codes "exec" ∷ codes "--steps" ∷ number ∷ file ∷ []) × IsStepCount number steps)

-- the words command this
abbrev pub IsCommand : List (List ℕ) → Command → Type 0
IsCommand words (Exec steps file) = IsExec words steps file × IsSourceFile file

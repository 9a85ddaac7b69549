-- What `exec` does with one file: it is read, compiled and run, with nothing stored.
use Rattle.std.specs.Prelude.{◌≡◌, ℕ, ◌<◌, List, Option, Some, None}
use Rattle.std.specs.FinMap.{get}
use Rattle.kc_io.specs.Files.{Files, Answers}
use Rattle.kc_io.specs.Told.{appended}
use Rattle.kc_io.specs.declared.folders.FolderRead.TheVariants as read
use Rattle.kc_core.specs.declared.tree.Program.{Program}
use Rattle.kc_core.specs.Runs as runs
use Rattle.class_file.specs.declared.class.Set.{Set}
use Rattle.class_file.specs.Verification.{Verifies}
use Rattle.class_file.specs.Machine as machine
use Rattle.class_file.specs.Machine.{written}
use Rattle.stack_code.specs.Agrees.{Agrees, NeverBrokenAt, NeverStuckAt, machine_outcome}
use Rattle.kc_cli.specs.declared.report.Report.{Report}
use Rattle.kc_cli.specs.declared.report.Report.TheVariants.{Ended, Threw, Refused, Missing, ReadFailed, InputFailed, WriteFailed, StepLimit, Memory}
use Rattle.form_elaboration.specs.Form.{Form}

-- a folder that tells its files has this one, with these bytes
abbrev pub HasFile : Option Files → List ℕ → List ℕ → Type 0
HasFile None name bytes = Unit {0}
HasFile (Some files) name bytes = get files name ≡ Some bytes

-- why a file cannot be read, by what the folder tells and its count of faults before and after
abbrev pub ReadFails : Option Files → ℕ → ℕ → List ℕ → Report → Type 0
ReadFails told before after file (Missing name) = (name ≡ file) × Answers told before after file read.Missing
ReadFails told before after file (ReadFailed name) = (name ≡ file) × (before < after)
ReadFails told before after file Memory = Unit {0}
ReadFails told before after file _ = ⊥

-- The bytes are those of a file of the form, and the set is its program compiled: it verifies, the machine on it agrees with the
-- program for every input, the program's meaning is never broken, and the machine is never stuck.
pub record Builds (bytes : List ℕ) (set : Set) : Type 0 where
  pub program : Program
  pub form : Form 0 bytes program
  pub verifies : Verifies set
  pub agrees : Agrees set program 0
  pub unbroken : (input : List ℕ) → NeverBrokenAt program 0 input
  pub unstuck : (input : List ℕ) → NeverStuckAt set input

-- why a file is not compiled: it is not of the form, which is told at its first line and column
abbrev pub BuildFails : List ℕ → List ℕ → Report → Type 0
BuildFails file bytes (Refused name line column code) = (name ≡ file) × (line ≡ 1) × (column ≡ 1) × ((program : Program) → ¬ (Form 0 bytes program))
BuildFails file bytes Memory = Unit {0}
BuildFails file bytes _ = ⊥

-- the output took what the machine wrote in so many steps, which ended so for every input
pub record Finished (set : Set) (steps : ℕ) (before after : Option (List ℕ)) (outcome : List ℕ → runs.Outcome machine.Ending) : Type 0 where
  pub said : List ℕ
  pub taken : after ≡ appended before said
  pub comes : (input : List ℕ) → machine_outcome (machine.machine set input steps) ≡ outcome said

-- the output took a front of what the machine writes in so many steps
pub record BrokenOff (set : Set) (steps : ℕ) (before after : Option (List ℕ)) : Type 0 where
  pub front : List ℕ
  pub taken : after ≡ appended before front
  pub begins : (input : List ℕ) → runs.IsPrefix front (written (machine.machine set input steps))

-- What a run of the set, of at most so many steps, is reported as, by the counts of faults of input and output before and after, and by what the output
-- took.
abbrev pub Runs : Set → ℕ → ℕ → ℕ → ℕ → ℕ → Option (List ℕ) → Option (List ℕ) → Report → Type 0
Runs set steps in_before in_after out_before out_after before after Ended = Finished set steps before after (runs.Over machine.Ended)
Runs set steps in_before in_after out_before out_after before after (Threw class message) = Finished set steps before after (runs.Over (machine.Threw class message))
Runs set steps in_before in_after out_before out_after before after (StepLimit told) = (told ≡ steps) × Finished set steps before after runs.Going
Runs set steps in_before in_after out_before out_after before after InputFailed = (in_before < in_after) × BrokenOff set steps before after
Runs set steps in_before in_after out_before out_after before after WriteFailed = (out_before < out_after) × BrokenOff set steps before after
Runs set steps in_before in_after out_before out_after before after Memory = BrokenOff set steps before after
Runs set steps in_before in_after out_before out_after before after _ = ⊥

-- a report of a run that no fault broke off
abbrev pub IsOutcome : Report → Type 0
IsOutcome Ended = Unit {0}
IsOutcome (Threw class message) = Unit {0}
IsOutcome (StepLimit steps) = Unit {0}
IsOutcome _ = ⊥

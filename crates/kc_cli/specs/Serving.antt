-- What a command does, how it is reported, and why.
use Rattle.std.specs.Prelude.{◌≡◌, ℕ, ◌<◌, ◌⊎◌, List, Option, Some, None}
use Rattle.kc_io.specs.Files.{Files}
use Rattle.kc_io.specs.Told.{appended, GainsFront}
use Rattle.class_file.specs.declared.class.Set.{Set}
use Rattle.kc_cli.specs.declared.report.Report.{Report}
use Rattle.kc_cli.specs.declared.report.Report.TheVariants as report
use Rattle.kc_cli.specs.declared.status.Status.{Status}
use Rattle.kc_cli.specs.declared.status.Status.TheVariants.{Ended, Threw, WriteFault, StepLimit, Memory}
use Rattle.kc_cli.specs.declared.words.Command.{Command}
use Rattle.kc_cli.specs.declared.words.Command.TheVariants.{Exec}
use Rattle.kc_cli.specs.Execution.{HasFile, ReadFails, Builds, BuildFails, Runs, IsOutcome}
use Rattle.kc_cli.specs.Lines.{line_of}
use Rattle.kc_cli.specs.Status.{status_of}
use Rattle.kc_cli.specs.Words.{IsCommand}

-- what objects of the outside were before and are after: the files that the folder of sources tells, its faults, the input's,
-- the output's, and what the output took
pub record Outside : Type 0 where
  pub files : Option Files
  pub tree_before : ℕ
  pub tree_after : ℕ
  pub in_before : ℕ
  pub in_after : ℕ
  pub out_before : ℕ
  pub out_after : ℕ
  pub taken_before : Option (List ℕ)
  pub taken_after : Option (List ℕ)

-- the set was compiled from the named file, and its run of at most so many steps is reported so
pub record Executes (o : Outside) (steps : ℕ) (file : List ℕ) (set : Set) (r : Report) : Type 0 where
  pub bytes : List ℕ
  pub read : HasFile o.files file bytes
  pub builds : Builds bytes set
  pub runs : Runs set steps o.in_before o.in_after o.out_before o.out_after o.taken_before o.taken_after r

-- the named file's bytes are refused so
pub record Refuses (o : Outside) (file : List ℕ) (r : Report) : Type 0 where
  pub bytes : List ℕ
  pub read : HasFile o.files file bytes
  pub fails : BuildFails file bytes r

-- What `exec` of a file came to: a run that is over, or is at its limit, with the set that ran; a run that a fault broke off; or
-- no run, and no output.
abbrev pub ExecDid : Outside → ℕ → List ℕ → Report → Option Set → Type 0
ExecDid o steps file r (Some set) = IsOutcome r × Executes o steps file set r
ExecDid o steps file r None = ((set : Set) × (¬ (IsOutcome r)) × Executes o steps file set r) ⊎ ((o.taken_after ≡ o.taken_before) × (ReadFails o.files o.tree_before o.tree_after file r ⊎ Refuses o file r))

-- the set is handed out where its run is over or at its limit
abbrev pub ran_set : Report → Set → Option Set
ran_set report.Ended set = Some set
ran_set (report.Threw class message) set = Some set
ran_set (report.StepLimit steps) set = Some set
ran_set _ set = None

-- what the words came to: what they command, or no output where they command nothing
abbrev pub Did : List (List ℕ) → Outside → Report → Option Set → Type 0
Did words o r ran =
    ((steps : ℕ) × (file : List ℕ) × IsCommand words (Exec steps file) × ExecDid o steps file r ran)
    ⊎ (((command : Command) → ¬ (IsCommand words command)) × (r ≡ report.Words) × (ran ≡ None) × (o.taken_after ≡ o.taken_before))

-- the status where the line of a report cannot be written; want of memory stays what it is
abbrev pub unwritten : Report → Status
unwritten report.Memory = Memory
unwritten _ = WriteFault

-- The report's line went to the error stream, which had these faults and took these bytes before and after; or a front of it
-- went there before a fault or want of memory.
abbrev pub Closes : Report → Status → ℕ → ℕ → Option (List ℕ) → Option (List ℕ) → Type 0
Closes r status faults_before faults_after before after =
    ((status ≡ status_of r) × (after ≡ appended before (line_of r)))
    ⊎ (GainsFront before after (line_of r) × (((status ≡ unwritten r) × (faults_before < faults_after)) ⊎ (status ≡ Memory)))

-- the set that ran is handed out only with these statuses
abbrev pub handed_out : Status → Option Set → Option Set
handed_out Ended ran = ran
handed_out Threw ran = ran
handed_out StepLimit ran = ran
handed_out _ ran = None

-- How the words were served: some report says what they came to, and why; its line is written; the status is the report's, unless
-- its line cannot be written.
pub record Serves (words : List (List ℕ)) (o : Outside) (status : Status) (ran : Option Set) (err_before err_after : ℕ) (told_before told_after : Option (List ℕ)) : Type 0 where
  pub r : Report
  pub made : Option Set
  pub did : Did words o r made
  pub closes : Closes r status err_before err_after told_before told_after
  pub handed : ran ≡ handed_out status made

-- What callers see of a machine, and what a run comes to.
use Rattle.std.specs.Prelude.{◌≡◌, ℕ, ◌<◌, ◌++◌, Bool, true, false, List, Option, Some, ⊤}
use Rattle.class_file.specs.declared.class.Set.{Set}
use Rattle.class_file.specs.Machine.{Next, Going, Over}
use Rattle.class_file.specs.Machine as machine
use Rattle.class_file.specs.Verification.{Verifies, first_fault}
use Rattle.class_machine.specs.declared.machine.LoadFault.{LoadFault}
use Rattle.class_machine.specs.declared.machine.LoadFault.TheVariants.{NotBuilt, NotLoaded, Faulty}
use Rattle.class_machine.specs.declared.machine.RunEnd.{RunEnd}
use Rattle.class_machine.specs.declared.machine.RunEnd.TheVariants.{Ended, Threw, StepLimit, ReadFault, WriteFault, Memory}
use Rattle.class_machine.specs.Core.{Core, state_of}
use Rattle.class_machine.specs.Runs.{Wrote, Cut}

pub record Seen : Type 0 where
  pub set : Set
  pub core : Core
  pub live : Bool

-- What the definition's run comes to, from each input and after each earlier output, is this end, and the sink took what the
-- run wrote. A run that a fault broke off wrote a front of it.
abbrev pub RunsTo : Set → (List ℕ → List ℕ → Next) → RunEnd → Core → Option (List ℕ) → Option (List ℕ) → Type 0
RunsTo set run Ended core before after = Wrote before after (λ said. (input earlier : List ℕ) → run input earlier ≡ Over machine.Ended (earlier ++ said))
RunsTo set run (Threw class message) core before after = Wrote before after (λ said. (input earlier : List ℕ) → run input earlier ≡ Over (machine.Threw class message) (earlier ++ said))
RunsTo set run StepLimit core before after = Wrote before after (λ said. (input earlier : List ℕ) → run input earlier ≡ Going (state_of set core input (earlier ++ said)))
RunsTo set run ReadFault core before after = Cut before after run
RunsTo set run WriteFault core before after = Cut before after run
RunsTo set run Memory core before after = Cut before after run

abbrev pub is_step_limit : RunEnd → Bool
is_step_limit StepLimit = true
is_step_limit _ = false

-- a fault of the input or the output comes only where that object's count of faults rose
abbrev pub IsCausedBy : RunEnd → ℕ → ℕ → ℕ → ℕ → Type 0
IsCausedBy ReadFault in_before in_after out_before out_after = in_before < in_after
IsCausedBy WriteFault in_before in_after out_before out_after = out_before < out_after
IsCausedBy _ in_before in_after out_before out_after = ⊤

-- What is told of a set that is not run: a fault is its first one, and it does not verify. Nothing is told of one that is not built
-- or not loaded.
abbrev pub IsRefused : Set → LoadFault → Type 0
IsRefused set NotBuilt = ⊤
IsRefused set NotLoaded = ⊤
IsRefused set (Faulty fault) = (first_fault set ≡ Some fault) × ¬ (Verifies set)

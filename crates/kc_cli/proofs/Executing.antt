-- From what is known of a file's program, of its class and of the machine to what `exec` says.
use Rattle.std.proofs.Common.{◌≡◌, ℕ, List, [], ◌∷◌, ◌++◌, Option, Some, None, refl, sym, ap, ◌∙◌, subst}
use Rattle.std.specs.Prelude.{slice_get}
use Rattle.std.specs.Option.{option_map}
use Rattle.kc_io.specs.Told.{appended-nil}
use Rattle.kc_core.specs.declared.tree.Core.{Core}
use Rattle.kc_core.specs.declared.tree.Program.{Program}
use Rattle.kc_core.specs.Runs as runs
use Rattle.kc_core.specs.Formed.{MainFormed}
use Rattle.kc_core.specs.NeverBroken.{never_broken}
use Rattle.class_file.specs.declared.class.Set.{Set}
use Rattle.class_file.specs.Verification.{Verifies}
use Rattle.class_file.specs.Machine as machine
use Rattle.class_file.specs.Machine.{written, Next, on_from, Ending}
use Rattle.class_machine.specs.Core.{Core as MachineCore, state_of, first_core}
use Rattle.class_machine.specs.Runs.{Wrote, Cut}
use Rattle.stack_code.specs.Agrees.{IsCompiled, NeverBrokenAt, machine_outcome}
use Rattle.stack_code.proofs.Agree.{compiled_agrees}
use Rattle.form_elaboration.specs.Form.{Form}
use Rattle.kc_cli.specs.Execution.{Builds, Finished, BrokenOff}

-- the class of a program of the form
pub builds : (bytes : List ℕ) (program : Program) (set : Set) → Form 0 bytes program → MainFormed program 0 → IsCompiled set program 0 → Verifies set → Builds bytes set
builds bytes program set f formed c v = record {
  program = program;
  form = f;
  verifies = v;
  agrees = λ input. (compiled_agrees set program 0 c input (unbroken input)).1;
  unbroken = unbroken;
  unstuck = λ input. (compiled_agrees set program 0 c input (unbroken input)).2;
}
  where
    unbroken : (input : List ℕ) → NeverBrokenAt program 0 input
    unbroken input n at out e = never_broken program 0 formed input n at out e

-- nothing was run
pub nothing_ran : (set : Set) (steps : ℕ) (told : Option (List ℕ)) → BrokenOff set steps told told
nothing_ran set steps told = record { front = []; taken = sym (appended-nil told); begins = λ input. (written (machine.machine set input steps), refl) }

module _ (set : Set) (steps : ℕ) (from : Set) (core : MachineCore) (set_is : from ≡ set) (core_is : core ≡ first_core set) (before after : Option (List ℕ)) where
  abbrev run : List ℕ → List ℕ → Next
  run input earlier = on_from from steps (machine.Going (state_of from core input earlier))

  same : (input : List ℕ) → run input [] ≡ machine.machine set input steps
  same input = ap (λ (s : Set). on_from s steps (machine.Going (state_of s core input []))) set_is ∙ ap (λ (k : MachineCore). on_from set steps (machine.Going (state_of set k input []))) core_is

  pub finished : (how : Ending) → Wrote before after (λ said. (input earlier : List ℕ) → run input earlier ≡ machine.Over how (earlier ++ said)) → Finished set steps before after (runs.Over how)
  finished how w = record { said = w.said; taken = w.taken; comes = λ input. ap machine_outcome (sym (same input) ∙ w.so input []) }

  pub limited : (now : MachineCore) → Wrote before after (λ said. (input earlier : List ℕ) → run input earlier ≡ machine.Going (state_of from now input (earlier ++ said))) → Finished set steps before after runs.Going
  limited now w = record { said = w.said; taken = w.taken; comes = λ input. ap machine_outcome (sym (same input) ∙ w.so input []) }

  pub broken_off : Cut before after run → BrokenOff set steps before after
  broken_off w = record { front = w.front; taken = w.taken; begins = λ input. subst (λ (n : Next). runs.IsPrefix w.front (written n)) (same input) (w.begins input []) }

-- What a run came to, as its callers see it.
use Rattle.std.proofs.Common.{◌≡◌, ℕ, List, ◌++◌, Option, sym, ap, subst}
use Rattle.class_file.specs.declared.class.Set.{Set}
use Rattle.class_file.specs.declared.value.BuiltIn.{BuiltIn}
use Rattle.class_file.specs.Machine.{Next, Going, Over, written, on_from, message}
use Rattle.class_file.specs.Machine as machine
use Rattle.class_file.specs.Runs.{Begins-same}
use Rattle.class_machine.specs.declared.machine.RunEnd.{RunEnd}
use Rattle.class_machine.specs.declared.machine.RunEnd.TheVariants as run_end
use Rattle.class_machine.specs.declared.run.StepEnd.TheVariants as went
use Rattle.class_machine.specs.Core.{Core, state_of, IsSafe}
use Rattle.class_machine.specs.Lot.{class_name}
use Rattle.class_machine.specs.Runs.{Wrote, Cut, Comes}
use Rattle.class_machine.specs.Seen.{RunsTo}
use Rattle.class_machine.proofs.Sequences.{still_safe}

-- after all its steps the machine is safe as before
pub safe_on : (set : Set) (start now : Core) (n : ℕ) (t u : Option (List ℕ)) → IsSafe set start → Wrote t u (λ said. (input earlier : List ℕ) → Comes set (on_from set n (Going (state_of set start input earlier))) went.On now input (earlier ++ said)) → IsSafe set now
safe_on set start now n t u safe w = still_safe set start now n t u (record { said = w.said; taken = w.taken; is = w.so }) safe

pub threw_to : (set : Set) (run : List ℕ → List ℕ → Next) (end : RunEnd) (x : BuiltIn) (core : Core) (t u : Option (List ℕ)) → end ≡ run_end.Threw (class_name x) (message x) → Wrote t u (λ said. (input earlier : List ℕ) → run input earlier ≡ Over (machine.Threw (class_name x) (message x)) (earlier ++ said)) → RunsTo set run end core t u
threw_to set run end x core t u e w = let P : RunEnd → Type 0 = λ r. RunsTo set run r core t u in subst P (sym e) w

-- a run that is over, and whose end could not be told
pub told_not : (run : List ℕ → List ℕ → Next) (x : BuiltIn) (t u : Option (List ℕ)) → Wrote t u (λ said. (input earlier : List ℕ) → run input earlier ≡ Over (machine.Threw (class_name x) (message x)) (earlier ++ said)) → Cut t u run
told_not run x t u w = record {
  front = w.said;
  taken = w.taken;
  begins = λ input earlier. Begins-same (earlier ++ w.said) (written (run input earlier)) (ap written (w.so input earlier));
}

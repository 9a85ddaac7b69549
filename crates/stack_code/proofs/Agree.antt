-- The machine on compiled code agrees with the meaning of the program.
use Rattle.std.proofs.Common.{◌≡◌, ℕ, zero, suc, ◌+◌, ◌-◌, List, [], ◌∷◌, ◌++◌, length, Option, Some, None, true, refl, sym, ap, ◌∙◌, subst, arith}
use Rattle.std.specs.Prelude.{slice_get, replicate}
use Rattle.std.proofs.Math.ListN.{length-replicate}
use Rattle.kc_core.specs.declared.tree.Program.{Program}
use Rattle.kc_core.specs.Runs as runs
use Rattle.kc_core.specs.Agreement.{agree, slower}
use Rattle.kc_core.specs.Values.{Value}
use Rattle.kc_core.specs.Meaning as source
use Rattle.class_file.specs.declared.value.Value.{Value as Slot}
use Rattle.class_file.specs.declared.value.Value.TheVariants as slot
use Rattle.class_file.specs.declared.class.Set.{Set}
use Rattle.class_file.specs.Machine.{Ending, Stuck, Next, Going, Over, on_from, machine, first, first_heap, first_statics, first_locals, written as told}
use Rattle.class_file.specs.Runs.{on_add, over_after, grows}
use Rattle.stack_code.specs.Agrees.{IsCodeOf, source_outcome, machine_outcome, meaning_run, machine_run, IsCompiled, NeverBrokenAt, CompiledAgrees, emitter_factor}
use Rattle.stack_code.specs.Implements.{Activation, activation, state_at, Held, IsGoing, printed, Does, Implements, method_factor}
use Rattle.stack_code.proofs.Implementing.{code_implements}
use Rattle.stack_code.proofs.Found.{method_is, pool_is, main_called}

-- the machine is a lawful run
over_is : (x : Next) → runs.IsOver (machine_outcome x) → (how : Ending) × (out : List ℕ) × (x ≡ Over how out)
over_is (Going s) h = absurd h
over_is (Over how out) h = (how, out, refl)

said_is : (x : Next) → runs.said (machine_outcome x) ≡ told x
said_is (Going s) = refl
said_is (Over how out) = refl

pub machine_lawful : (set : Set) (input : List ℕ) → runs.Lawful (machine_run set input)
machine_lawful set input = record {
  stays = λ n m le over.
      let h = over_is (machine set input n) over in
      ap machine_outcome (over_after set n m (Going (first set input)) h.0 h.1 le h.2 ∙ sym h.2);
  grows = λ n m le.
      let g = grows set n m (Going (first set input)) le in
      (g.0, ap (λ w. w ++ g.0) (said_is (machine set input n)) ∙ g.1 ∙ sym (said_is (machine set input m)));
}

nothing_set : (n x : ℕ) (v : Value) → slice_get (replicate n None) x ≡ Some (Some v) → ⊥
nothing_set zero x v e = cc
nothing_set (suc n) zero v e = cc
nothing_set (suc n) (suc x) v e = nothing_set n x v e

going_is : (x : Next) (out : List ℕ) → IsGoing x → printed x ≡ out → machine_outcome x ≡ runs.Going out
going_is (Going s) out g e = ap runs.Going e
going_is (Over how o) out g e = absurd g

module _ (set : Set) (program : Program) (main : ℕ) (c : IsCompiled set program main) (input : List ℕ) (sound : NeverBrokenAt program main input) where
  o : Activation
  o = activation 0 0 [] (first_statics set) (true ∷ [])

  known : ℕ → source.State
  known n = record { locals = source.unset (length c.function.locals); input = input; out = []; units = n }

  locals : List Slot
  locals = first_locals c.method.max_locals []

  -- the machine behind the call of main
  called : ℕ → Next
  called n = Going (state_at o 0 locals [] first_heap (known n))

  begins : (n : ℕ) → on_from set 1 (Going (first set input)) ≡ called n
  unfolding o known locals called
  begins n = main_called set program main c input

  implements : Implements method_factor set 0 0 c.function
  implements =
      code_implements set 0 0 c.method c.function (method_is set program main c)
      (subst (λ pool. IsCodeOf pool c.method c.function) (sym (pool_is set program main c)) c.code)

  held : (n : ℕ) → Held first_heap locals (known n).locals
  unfolding known locals
  held n = record {
    room = let a = (let none : Option Value = None in length-replicate (length c.function.locals) none) in let b = length-replicate (c.method.max_locals - 0) slot.Nothing in omega (arith, a, b, c.code.room);
    same = λ x v e. absurd (nothing_set (length c.function.locals) x v e);
  }

  -- from the first step on
  from_start : (n j : ℕ) → on_from set (1 + j) (Going (first set input)) ≡ on_from set j (called n)
  from_start n j = on_add set 1 j (Going (first set input)) ∙ ap (on_from set j) (begins n)

  comes_to : (n : ℕ) (r : source.Completion) → source.meaning program main input n ≡ source.outcome_of r → Does method_factor implements.slack set o (called n) first_heap n r → runs.Says emitter_factor implements.slack (machine_run set input) n (source_outcome (source.outcome_of r))
  unfolding o
  comes_to n (source.Gives v s) e g =
      (1 + g.steps, omega (arith, g.most, g.units), ap machine_outcome (from_start n g.steps ∙ g.runs))
  comes_to n (source.Throws x s) e g =
      (1 + g.steps, omega (arith, g.most, g.units), ap machine_outcome (from_start n g.steps ∙ g.runs))
  comes_to n (source.Stops s) e g =
      (1 + g.steps, omega (arith, g.most), omega (arith, g.least), ap machine_outcome (from_start n g.steps) ∙ going_is (on_from set g.steps (called n)) s.out g.going g.says)
  comes_to n (source.Breaks at s) e g = absurd (sound n at s.out e)

  meaning_is : (n : ℕ) → source.meaning program main input n ≡ source.outcome_of (source.eval n c.function.body (known n))
  unfolding known
  meaning_is n = ap (λ f. source.start_of f input n) c.function_is

  does : (n : ℕ) → Does method_factor implements.slack set o (called n) first_heap n (source.eval n c.function.body (known n))
  unfolding o known called
  does n = implements.does [] (first_statics set) (true ∷ []) tt n (known n) locals first_heap (omega arith) (held n)

  says : (n : ℕ) → runs.Says emitter_factor implements.slack (machine_run set input) n (meaning_run program main input n)
  says n =
      subst (λ r. runs.Says emitter_factor implements.slack (machine_run set input) n (source_outcome r)) (sym (meaning_is n))
      (comes_to n (source.eval n c.function.body (known n)) (meaning_is n) (does n))

  pub agrees_by_factor : runs.AgreesBy emitter_factor (meaning_run program main input) (machine_run set input)
  agrees_by_factor = agree Ending emitter_factor implements.slack (meaning_run program main input) (machine_run set input) (machine_lawful set input) says

  never_so : (r : runs.Outcome source.Ending) (out : List ℕ) → source_outcome r ≡ runs.Over Stuck out → (at : _) × (r ≡ runs.Over (source.Broken at) out)
  never_so (runs.Going o) out e = absurd cc
  never_so (runs.Over source.Ended o) out e = absurd cc
  never_so (runs.Over (source.Threw x) o) out e = absurd cc
  never_so (runs.Over (source.Broken at) o) out e = (at, cc)

  pub never_stuck : (n : ℕ) (out : List ℕ) → machine set input n ≡ Over Stuck out → ⊥
  never_stuck n out e =
      let is : machine_run set input n ≡ runs.Over Stuck out = ap machine_outcome e in
      let k = agrees_by_factor.ends_only n (subst runs.IsOver (sym is) tt) in
      let b = never_so (source.meaning program main input k.0) out (k.1 ∙ is) in
      sound k.0 b.0 out b.1

pub compiled_agrees : CompiledAgrees
compiled_agrees set program main c input sound = (
  agrees_by_factor set program main c input sound,
  slower Ending emitter_factor 1000000 (meaning_run program main input) (machine_run set input) (machine_lawful set input) (omega arith) (agrees_by_factor set program main c input sound),
  never_stuck set program main c input sound,
)

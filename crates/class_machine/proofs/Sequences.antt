-- Steps one after another.
use Rattle.std.proofs.Common.{◌≡◌, ◌≢◌, ℕ, ◌+◌, ◌<◌, List, [], ◌++◌, Option, refl, sym, ap, subst, ◌∙◌, arith, append_assoc, append-nil}
use Rattle.kc_io.specs.Told.{appended, appended-nil, appended-append}
use Rattle.class_file.specs.declared.class.Set.{Set}
use Rattle.class_file.specs.Machine.{State, Next, Going, Over, Ending, Stuck, written, step, on_from, message}
use Rattle.class_file.specs.Machine as machine
use Rattle.class_file.specs.Runs.{Begins, Begins-trans, on_add, on_one_more, over_after, grows}
use Rattle.class_machine.specs.declared.run.StepEnd.{StepEnd}
use Rattle.class_machine.specs.declared.run.StepEnd.TheVariants as went
use Rattle.class_machine.specs.Core.{Core, state_of, CanStep, IsSafe}
use Rattle.class_machine.specs.Lot.{class_name}
use Rattle.class_machine.specs.Runs.{Wrote, Cut, Comes, Reached}

pub reached_start : (set : Set) (start : Core) (t : Option (List ℕ)) → Reached set start start 0 t t
reached_start set start t = record {
  said = [];
  taken = sym (appended-nil t);
  is = λ input earlier. ap (λ (out : List ℕ). Going (state_of set start input out)) (sym (append-nil earlier));
}

module _ (set : Set) (start now : Core) (k : ℕ) (t u : Option (List ℕ)) (r : Reached set start now k t u) where
  pub can_step : IsSafe set start → CanStep set now
  can_step safe = record {
    input = [];
    earlier = safe.earlier ++ r.said;
    goes = λ out h. safe.never [] (k + 1) out (on_one_more set k (state_of set start [] safe.earlier) (state_of set now [] (safe.earlier ++ r.said)) (r.is [] safe.earlier) ∙ h);
  }

  -- what a run came to is safe too
  pub still_safe : IsSafe set start → IsSafe set now
  still_safe safe = record {
    earlier = safe.earlier ++ r.said;
    never = λ input n out h. safe.never input (k + n) out (on_add set k n (Going (state_of set start input safe.earlier)) ∙ ap (on_from set n) (r.is input safe.earlier) ∙ h);
  }

  next_is : (input earlier : List ℕ) → on_from set (k + 1) (Going (state_of set start input earlier)) ≡ step set (state_of set now input (earlier ++ r.said))
  next_is input earlier = on_one_more set k (state_of set start input earlier) (state_of set now input (earlier ++ r.said)) (r.is input earlier)

  pub reached_more : (new : Core) (v : Option (List ℕ)) → Wrote u v (λ said. (input earlier : List ℕ) → Comes set (step set (state_of set now input earlier)) went.On new input (earlier ++ said)) → Reached set start new (k + 1) t v
  reached_more new v w = record {
    said = r.said ++ w.said;
    taken = w.taken ∙ ap (λ (x : Option (List ℕ)). appended x w.said) r.taken ∙ appended-append t r.said w.said;
    is = λ input earlier. next_is input earlier ∙ w.so input (earlier ++ r.said) ∙ ap (λ (out : List ℕ). Going (state_of set new input out)) (append_assoc earlier r.said w.said);
  }

  -- a run that a step ends
  pub run_ends : (n : ℕ) (end : StepEnd) (new : Core) (v : Option (List ℕ)) → k < n → end ≢ went.On → Wrote u v (λ said. (input earlier : List ℕ) → Comes set (step set (state_of set now input earlier)) end new input (earlier ++ said)) → Wrote t v (λ said. (input earlier : List ℕ) → Comes set (on_from set n (Going (state_of set start input earlier))) end new input (earlier ++ said))
  run_ends n went.On new v lt differs w = absurd (differs refl)
  run_ends n went.Ended new v lt differs w = record {
    said = r.said ++ w.said;
    taken = w.taken ∙ ap (λ (x : Option (List ℕ)). appended x w.said) r.taken ∙ appended-append t r.said w.said;
    so = λ input earlier. over_after set (k + 1) n (Going (state_of set start input earlier)) machine.Ended (earlier ++ (r.said ++ w.said)) (omega arith)
        (next_is input earlier ∙ w.so input (earlier ++ r.said) ∙ ap (λ (out : List ℕ). Over machine.Ended out) (append_assoc earlier r.said w.said));
  }
  run_ends n (went.Threw x) new v lt differs w = record {
    said = r.said ++ w.said;
    taken = w.taken ∙ ap (λ (x : Option (List ℕ)). appended x w.said) r.taken ∙ appended-append t r.said w.said;
    so = λ input earlier. over_after set (k + 1) n (Going (state_of set start input earlier)) (machine.Threw (class_name x) (message x)) (earlier ++ (r.said ++ w.said)) (omega arith)
        (next_is input earlier ∙ w.so input (earlier ++ r.said) ∙ ap (λ (out : List ℕ). Over (machine.Threw (class_name x) (message x)) out) (append_assoc earlier r.said w.said));
  }

  -- a run that a fault breaks off
  pub run_cut : (n : ℕ) (v : Option (List ℕ)) → k < n → Cut u v (λ input earlier. step set (state_of set now input earlier)) → Cut t v (λ input earlier. on_from set n (Going (state_of set start input earlier)))
  run_cut n v lt w = record {
    front = r.said ++ w.front;
    taken = w.taken ∙ ap (λ (x : Option (List ℕ)). appended x w.front) r.taken ∙ appended-append t r.said w.front;
    begins = λ input earlier.
        let P : List ℕ → Type 0 = λ s. Begins s (written (on_from set (k + 1) (Going (state_of set start input earlier)))) in
        let Q : Next → Type 0 = λ s. Begins ((earlier ++ r.said) ++ w.front) (written s) in
        let first = subst P (append_assoc earlier r.said w.front) (subst Q (sym (next_is input earlier)) (w.begins input (earlier ++ r.said))) in
        Begins-trans _ _ _ first (grows set (k + 1) n (Going (state_of set start input earlier)) (omega arith));
  }

  pub run_on_still : (n : ℕ) → n ≡ k → Wrote t u (λ said. (input earlier : List ℕ) → Comes set (on_from set n (Going (state_of set start input earlier))) went.On now input (earlier ++ said))
  run_on_still n e = record {
    said = r.said;
    taken = r.taken;
    so = λ input earlier. ap (λ (j : ℕ). on_from set j (Going (state_of set start input earlier))) e ∙ r.is input earlier;
  }

-- Calls and returns over the frames of a run.
use Rattle.std.proofs.Common.{◌≡◌, ◌≢◌, ℕ, Bool, true, false, List, [], ◌∷◌, ◌++◌, Option, Some, None, refl, sym, ap, subst, ◌∙◌, if◌then◌else◌}
use Rattle.std.specs.Prelude.{reverse, map}
use Rattle.std.proofs.lemmas.List.{reverse-append, reverse-reverse}
use Rattle.class_file.specs.declared.value.Value.{Value}
use Rattle.class_file.specs.declared.class.Set.{Set}
use Rattle.class_file.specs.declared.instr.Instr.{Instr}
use Rattle.class_file.specs.Machine.{State, Active, Next, Going, Over, Stuck, Effect, Returns, after, returned, handed, resumed, without_value, goes_on, first_locals, fetch}
use Rattle.class_file.specs.Machine as machine
use Rattle.class_machine.specs.declared.frame.Frame.{Frame}
use Rattle.class_machine.specs.declared.links.Links.{Links}
use Rattle.class_machine.specs.declared.links.Op.{Op}
use Rattle.class_machine.specs.declared.links.Target.{Target}
use Rattle.class_machine.specs.Core.{Core, state_of, frames_of}
use Rattle.class_machine.specs.Links.{IsLinked, HasOp, op_at, op_of}
use Rattle.class_machine.specs.Stacks.{shown, TopChanged}
use Rattle.class_machine.specs.Runs.{IsGoing, on_frames, needing, TakenFromTop, Entered, CanResume, ResumesAt, Resumed}
use Rattle.class_machine.proofs.Running.{shown_stands, same_top}

-- ---- frames, one above others

pub above_frames : (old new : List Frame) (f : Frame) → new ≡ old ++ f ∷ [] → frames_of new ≡ shown f ∷ frames_of old
above_frames old new f e = ap frames_of e ∙ ap (map shown) (reverse-append old (f ∷ []))

pub entered_is : (target : Target) (old mid new : List Frame) (locals : List Value) (f : Frame) → new ≡ mid ++ f ∷ []
    → shown f ≡ record { class = target.class; method = target.method; at = 0; locals = locals; stack = []; starts = false }
    → TakenFromTop target.params target.max_locals locals old mid → Entered target old new
entered_is target old mid new locals f is seen t = record {
  caller = t.before;
  below = t.below;
  old_is = t.old_is;
  new_is = λ types p count popped_is.
      let k = t.taken types p count popped_is in
      above_frames mid new f is
      ∙ ap (λ (fs : List Frame). shown f ∷ map shown fs) t.new_is
      ∙ ap (λ (a : Active). a ∷ shown t.after ∷ map shown t.below) (seen ∙ ap (λ (vs : List Value). record { class = target.class; method = target.method; at = 0; locals = vs; stack = []; starts = false }) k.0)
      ∙ ap (λ (a : Active). record { class = target.class; method = target.method; at = 0; locals = first_locals target.max_locals p.args; stack = []; starts = false } ∷ a ∷ map shown t.below) (shown_stands t.before t.after t.stands ∙ ap (λ (vs : List Value). record (shown t.before) { stack = vs }) k.1);
}

pub resumed_so : (links : Links) (values : List Value) (old new : List Frame) (next : ℕ) → ResumesAt links old next → TopChanged (λ f. record f { at = next; stack = values ++ f.stack }) old new → Resumed links values old new
resumed_so links values old new next r t =
    let same = same_top (reverse old) r.top t.before r.below t.below r.is t.old_is in
    record {
      before = t.before;
      after = t.after;
      below = t.below;
      old_is = t.old_is;
      new_is = t.new_is;
      op = r.op;
      op_is = subst (λ (f : Frame). op_at links f.class f.method f.at ≡ Some r.op) same r.op_is;
      is = t.is ∙ ap (λ (n : ℕ). record (shown t.before) { at = n; stack = values ++ reverse t.before.stack.items }) r.next_is;
    }

pub can_resume : (links : Links) (fs : List Frame) (f : Frame) (below : List Frame) → reverse fs ≡ f ∷ below → HasOp links f.class f.method f.at → CanResume links fs
can_resume links fs f below e h = record { top = f; below = below; is = e; has = h }

-- the last of some frames
pub topmost : (fs : List Frame) → fs ≢ [] → (f : Frame) × (below : List Frame) × (reverse fs ≡ f ∷ below)
topmost fs some = by (reverse fs) refl
  where
    by : (xs : List Frame) → reverse fs ≡ xs → (f : Frame) × (below : List Frame) × (reverse fs ≡ f ∷ below)
    by [] e = absurd (some (sym (reverse-reverse fs) ∙ ap reverse e))
    by (f ∷ below) e = (f, below, e)

-- ---- what the running frame asks for

pub no_frame : (set : Set) (core : Core) (n : ℕ) (e : Effect) → IsGoing (needing set core n e) → core.frames ≡ [] → ⊥
no_frame set core n e can none = can.goes [] (ap (λ (fs : List Active). on_frames fs (λ f gs. after set (state_of set core can.input can.earlier) f gs n e)) none)

module _ (set : Set) (core : Core) (f : Active) (fs : List Active) (is : core.frames ≡ f ∷ fs) where
  pub needs : (n : ℕ) (e : Effect) (input out : List ℕ) → needing set core n e input out ≡ after set (state_of set core input out) f fs n e
  needs n e input out = ap (λ (gs : List Active). on_frames gs (λ g hs. after set (state_of set core input out) g hs n e)) is

  pub after_goes : (n : ℕ) (e : Effect) → IsGoing (needing set core n e) → IsGoing (λ input out. after set (state_of set core input out) f fs n e)
  after_goes n e can = record { input = can.input; earlier = can.earlier; goes = λ out h. can.goes out (needs n e can.input can.earlier ∙ h) }

  module _ (values : List Value) (can : IsGoing (needing set core 0 (Returns values))) where
    abbrev s : List ℕ → List ℕ → State
    s input out = state_of set core input out

    is_returned : (input out : List ℕ) → needing set core 0 (Returns values) input out ≡ returned set (s input out) values f fs
    is_returned input out = needs 0 (Returns values) input out

    by_starts : (b : Bool) → f.starts ≡ b → (input out : List ℕ) → needing set core 0 (Returns values) input out ≡ (if b then without_value (s input out) values (Going (record (s input out) { frames = fs })) else handed set (s input out) values fs)
    by_starts b e input out = is_returned input out ∙ ap (λ (t : Bool). if t then without_value (s input out) values (Going (record (s input out) { frames = fs })) else handed set (s input out) values fs) e

    -- nothing is handed on where nobody takes it
    nothing : (next : List ℕ → List ℕ → Next) → ((input out : List ℕ) → needing set core 0 (Returns values) input out ≡ without_value (s input out) values (next input out)) → values ≡ []
    nothing next h = by values refl
      where
        by : (vs : List Value) → values ≡ vs → values ≡ []
        by [] e = e
        by (v ∷ vs) e = absurd (can.goes can.earlier (h can.input can.earlier ∙ ap (λ (us : List Value). without_value (s can.input can.earlier) us (next can.input can.earlier)) e))

    is_next : (next : List ℕ → List ℕ → Next) → ((input out : List ℕ) → needing set core 0 (Returns values) input out ≡ without_value (s input out) values (next input out)) → (input out : List ℕ) → needing set core 0 (Returns values) input out ≡ next input out
    is_next next h input out = h input out ∙ ap (λ (us : List Value). without_value (s input out) us (next input out)) (nothing next h)

    pub initialised : f.starts ≡ true → (input out : List ℕ) → needing set core 0 (Returns values) input out ≡ Going (record (s input out) { frames = fs })
    initialised e = is_next (λ input out. Going (record (s input out) { frames = fs })) (by_starts true e)

    pub ended : f.starts ≡ false → fs ≡ [] → (input out : List ℕ) → needing set core 0 (Returns values) input out ≡ Over machine.Ended out
    ended e none = is_next (λ input out. Over machine.Ended out) (λ input out. by_starts false e input out ∙ ap (handed set (s input out) values) none)

    module _ (plain : f.starts ≡ false) (g : Active) (gs : List Active) (more : fs ≡ g ∷ gs) where
      is_resumed : (input out : List ℕ) → needing set core 0 (Returns values) input out ≡ resumed (s input out) values g gs (fetch set g.class g.method g.at)
      is_resumed input out = by_starts false plain input out ∙ ap (handed set (s input out) values) more

      caller : (i : Instr) × (fetch set g.class g.method g.at ≡ Some i)
      caller = by (fetch set g.class g.method g.at) refl
        where
          by : (o : Option Instr) → fetch set g.class g.method g.at ≡ o → (i : Instr) × (fetch set g.class g.method g.at ≡ Some i)
          by None e = absurd (can.goes can.earlier (is_resumed can.input can.earlier ∙ ap (resumed (s can.input can.earlier) values g gs) e))
          by (Some i) e = (i, e)

      pub has_op : (links : Links) → IsLinked set links → HasOp links g.class g.method g.at
      has_op links linked = record { op = op_of g.at caller.0; is = linked.ops g.class g.method g.at caller.0 caller.1 }

      pub resumes : (links : Links) → IsLinked set links → (op : Op) → op_at links g.class g.method g.at ≡ Some op → (input out : List ℕ)
          → needing set core 0 (Returns values) input out ≡ Going (record (s input out) { frames = record g { at = op.next; stack = values ++ g.stack } ∷ gs })
      resumes links linked op e input out =
          let same : op_of g.at caller.0 ≡ op = some_op (op_of g.at caller.0) op (sym (linked.ops g.class g.method g.at caller.0 caller.1) ∙ e) in
          is_resumed input out ∙ ap (resumed (s input out) values g gs) caller.1 ∙ ap (λ (o : Op). goes_on (s input out) g gs o.next (values ++ g.stack)) same
        where
          some_op : (a b : Op) → (let o : Option Op = Some a in o) ≡ Some b → a ≡ b
          some_op a b q = cc

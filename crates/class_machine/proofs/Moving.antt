-- Runs of plain rows in the running frame.
use Rattle.std.proofs.Common.{◌≡◌, ◌≢◌, ℕ, zero, suc, ◌+◌, ◌-◌, ◌<◌, false, get_or, List, [], ◌∷◌, ◌++◌, length, Option, Some, None, refl, sym, ap, subst, ◌∙◌, arith, append-nil}
use Rattle.std.specs.Prelude.{reverse, map, slice_get, slice_set}
use Rattle.class_file.specs.declared.class.Set.{Set}
use Rattle.class_file.specs.Machine.{Active, Going, Effect, Goes, Fails, effect, on_from}
use Rattle.class_file.specs.Runs.{on_add, on_one_more}
use Rattle.class_machine.specs.declared.frame.Frame.{Frame}
use Rattle.class_machine.specs.declared.links.Op.{Op}
use Rattle.class_machine.specs.declared.links.Links.{Links}
use Rattle.class_machine.specs.Core.{Core, state_of, frames_of, IsSafe, CanStep}
use Rattle.class_machine.specs.Lot.{IsBuilt}
use Rattle.class_machine.specs.Links.{IsLinked, HasOp, op_at}
use Rattle.class_machine.specs.Plain.{HasRow, MovesOn, StopsBy, TopMovesOn, TopMoved, TopStops, is_plain, moved, moved_by, moved_on, moved_times, ops_at}
use Rattle.class_machine.specs.Runs.{Reached}
use Rattle.class_machine.specs.Stacks.{shown, IsRunning, SameMethod, DidGoOn}
use Rattle.class_machine.proofs.Running.{top_is, set_is, others, same_top, top_known}
use Rattle.class_machine.proofs.Sequences.{can_step}
use Rattle.class_machine.proofs.Stepping.{has_op, not_fails, step_on}

some_op : (a b : Op) → (let o : Option Op = Some a in o) ≡ Some b → a ≡ b
some_op a b e = cc

pub stops_here : (ops : List Op) (at : ℕ) (op o : Op) → slice_get ops at ≡ Some op → is_plain op.row ≡ false → slice_get ops at ≡ Some o → is_plain o.row ≡ false
stops_here ops at op o e stops h = ap (λ (x : Op). is_plain x.row) (some_op o op (sym h ∙ e)) ∙ stops

pub goes_here : (ops : List Op) (f : Active) (op : Op) → HasRow ops f → slice_get ops f.at ≡ Some op → effect op.row op.next f.locals f.stack ≢ Fails
goes_here ops f op has e = subst (λ (x : Op). effect x.row x.next f.locals f.stack ≢ Fails) (some_op has.op op (sym has.is ∙ e)) has.goes

-- a row moved the frame once more
pub once_more : (ops : List Op) (n : ℕ) (f : Active) (op : Op) (old new : Frame) → moved_times ops n f ≡ Some (shown old) → slice_get ops old.at ≡ Some op → DidGoOn (effect op.row op.next old.locals.items (reverse old.stack.items)) old new → moved_times ops (suc n) f ≡ Some (shown new)
once_more ops n f op old new e at did =
    ap (moved_on ops) e ∙ ap (moved_by (shown old)) at ∙ ap (moved (shown old)) did.0
    ∙ rw (did.1.class_is, did.1.method_is, did.1.starts_is) refl

some_active : (f g : Active) → (let o : Option Active = Some f in o) ≡ Some g → f ≡ g
some_active f g e = cc

-- an effect that moves a frame
record Gone (h g : Active) (e : Effect) : Type 0 where
  is : e ≡ Goes g.at g.locals g.stack
  class_is : g.class ≡ h.class
  method_is : g.method ≡ h.method
  starts_is : g.starts ≡ h.starts

gone : (h g : Active) (e : Effect) → moved h e ≡ Some g → Gone h g e
gone h g (Goes at locals stack) e =
    let same = some_active (record h { at = at; locals = locals; stack = stack }) g e in
    record {
      is = ap (λ (a : Active). Goes a.at a.locals a.stack) same;
      class_is = ap (λ (a : Active). a.class) (sym same);
      method_is = ap (λ (a : Active). a.method) (sym same);
      starts_is = ap (λ (a : Active). a.starts) (sym same);
    }
gone h g _ e = absurd cc

-- what a frame that moved comes to
record Moves (set : Set) (core : Core) (f g : Active) (fs : List Active) (n : ℕ) : Type 0 where
  class_is : g.class ≡ f.class
  method_is : g.method ≡ f.method
  runs : (input out : List ℕ) → on_from set n (Going (state_of set core input out)) ≡ Going (record (state_of set core input out) { frames = g ∷ fs })

module _ (set : Set) (links : Links) (core : Core) (f : Active) (fs : List Active) (frames_are : core.frames ≡ f ∷ fs) (linked : IsLinked set links) (built : IsBuilt set) (safe : IsSafe set core) where
  abbrev ops : List Op
  ops = ops_at links f.class f.method

  abbrev after : Active → Core
  after g = record core { frames = g ∷ fs }

  reached : (g : Active) (n : ℕ) → Moves set core f g fs n → Reached set core (after g) n None None
  reached g n m = record {
    said = [];
    taken = refl;
    is = λ input earlier. m.runs input earlier ∙ ap (λ (out : List ℕ). Going (state_of set (after g) input out)) (sym (append-nil earlier));
  }

  can : (g : Active) (n : ℕ) → Moves set core f g fs n → CanStep set (after g)
  can g n m = can_step set core (after g) n None None (reached g n m) safe

  -- the frame is still the same method's
  op_is : (g : Active) (n : ℕ) → Moves set core f g fs n → (op : Op) → op_at links g.class g.method g.at ≡ Some op → slice_get ops g.at ≡ Some op
  op_is g n m op e = ap (λ (k : ℕ). slice_get (ops_at links k f.method) g.at) (sym m.class_is) ∙ ap (λ (k : ℕ). slice_get (ops_at links g.class k) g.at) (sym m.method_is) ∙ e

  row_of : (g : Active) (n : ℕ) → Moves set core f g fs n → HasRow ops g
  row_of g n m =
      let has = has_op set links (after g) g fs refl linked built (can g n m) in
      record {
        op = has.op;
        is = op_is g n m has.op has.is;
        goes = not_fails set links (after g) g fs refl linked built (can g n m) has.op has.is;
      }

  moved_once : (n : ℕ) (h g : Active) → Moves set core f h fs n → moved_by h (slice_get ops h.at) ≡ Some g → Moves set core f g fs (suc n)
  moved_once n h g m e =
      let s = after h in
      let c = can h n m in
      let has = has_op set links s h fs refl linked built c in
      let gone_so = gone h g (effect has.op.row has.op.next h.locals h.stack) (sym (ap (moved_by h) (op_is h n m has.op has.is)) ∙ e) in
      let i : suc n ≡ n + 1 = omega arith in
      record {
        class_is = gone_so.class_is ∙ m.class_is;
        method_is = gone_so.method_is ∙ m.method_is;
        runs = λ input out.
            ap (λ (k : ℕ). on_from set k (Going (state_of set core input out))) i
            ∙ on_one_more set n (state_of set core input out) (state_of set s input out) (m.runs input out)
            ∙ step_on set links s h fs refl linked built c has.op has.is g gone_so.is gone_so.class_is gone_so.method_is gone_so.starts_is input out;
      }

  next_moves : (n : ℕ) (o : Option Active) → moved_times ops n f ≡ o → ((h : Active) → moved_times ops n f ≡ Some h → Moves set core f h fs n) → (g : Active) → moved_on ops o ≡ Some g → Moves set core f g fs (suc n)
  next_moves n None k before g e = absurd cc
  next_moves n (Some h) k before g e = moved_once n h g (before h k) e

  moves : (n : ℕ) (g : Active) → moved_times ops n f ≡ Some g → Moves set core f g fs n
  moves zero g e =
      let same = some_active f g e in
      record {
        class_is = ap (λ (h : Active). h.class) (sym same);
        method_is = ap (λ (h : Active). h.method) (sym same);
        runs = λ input out. ap (λ (gs : List Active). Going (record (state_of set core input out) { frames = gs })) (frames_are ∙ ap (λ (h : Active). h ∷ fs) same);
      }
  moves (suc n) g e = next_moves n (moved_times ops n f) refl (moves n) g e

  pub moves_on : MovesOn ops f
  moves_on = record { row_after = λ n g e. row_of g n (moves n g e) }

-- ---- the running frame

pub top_op : (links : Links) (frames : List Frame) → (t : TopMovesOn links frames) → (n : ℕ) (d f : Frame) → n ≡ length frames - 1 → f ≡ get_or frames n d → HasOp links f.class f.method f.at
top_op links frames t n d f e is =
    let r = t.moves.row_after 0 (shown t.top) refl in
    subst (λ (g : Frame). HasOp links g.class g.method g.at) (sym (top_known frames n d f t.top t.below t.is e is)) (record { op = r.op; is = r.is })

pub top_moves : (links : Links) (frames : List Frame) → (t : TopMovesOn links frames) → (n : ℕ) (d f : Frame) → n ≡ length frames - 1 → f ≡ get_or frames n d → (os : List Op) → os ≡ ops_at links f.class f.method → MovesOn os (shown f)
top_moves links frames t n d f e is _ same =
    subst (λ (os : List Op). MovesOn os (shown f)) (sym same)
    (subst (λ (g : Frame). MovesOn (ops_at links g.class g.method) (shown g)) (sym (top_known frames n d f t.top t.below t.is e is)) t.moves)

-- the running frame was moved
pub set_moved : (links : Links) (made most : ℕ) (frames : List Frame) (some : 0 < length frames) (n : ℕ) (d f g : Frame) → n ≡ length frames - 1 → f ≡ get_or frames n d → (os : List Op) → os ≡ ops_at links f.class f.method
    → SameMethod f g → moved_times os made (shown f) ≡ Some (shown g) → StopsBy os made most (shown g) → TopMoved links made most frames (slice_set frames n g)
set_moved links made most frames some n d f g e is _ same method moved stops = record {
  before = f;
  after = g;
  below = reverse (others frames some);
  old_is = top_is frames some n d f e is;
  new_is = set_is frames some n d f e is g;
  same = method;
  moved = subst (λ (os : List Op). moved_times os made (shown f) ≡ Some (shown g)) same moved;
  stops = subst (λ (os : List Op). StopsBy os made most (shown g)) same stops;
}

pub running_stops : (links : Links) (fs slice : List Frame) (f : Frame) (op : Op) → TopStops links fs → slice ≡ fs → IsRunning f slice → op_at links f.class f.method f.at ≡ Some op → is_plain op.row ≡ false
running_stops links fs slice f op stops e r at = stops f r.below op (sym (ap reverse e) ∙ r.is) at

pub none_stops : (links : Links) (fs : List Frame) → fs ≡ [] → TopStops links fs
none_stops links fs none top below op e at = absurd (let h = sym (ap reverse none) ∙ e in cc)

pub top_moves_on : (set : Set) (links : Links) (core : Core) (frames : List Frame) → core.frames ≡ frames_of frames → IsLinked set links → IsBuilt set → IsSafe set core → (f : Frame) (below : List Frame) → reverse frames ≡ f ∷ below → TopMovesOn links frames
top_moves_on set links core frames same linked built safe f below e =
    record { top = f; below = below; is = e; moves = moves_on set links core (shown f) (map shown below) (same ∙ ap (map shown) e) linked built safe }

pub top_moved : (set : Set) (links : Links) (core : Core) (made most : ℕ) (old new : List Frame) → core.frames ≡ frames_of old → IsLinked set links → IsBuilt set → IsSafe set core → TopMoved links made most old new
    → (input out : List ℕ) → on_from set made (Going (state_of set core input out)) ≡ Going (record (state_of set core input out) { frames = frames_of new })
top_moved set links core made most old new same linked built safe t input out =
    let m = moves set links core (shown t.before) (map shown t.below) (same ∙ ap (map shown) t.old_is) linked built safe made (shown t.after) t.moved in
    m.runs input out ∙ ap (λ (fs : List Frame). Going (record (state_of set core input out) { frames = map shown fs })) (sym t.new_is)

pub top_stops : (links : Links) (made most : ℕ) (old new : List Frame) → TopMoved links made most old new → made < most → TopStops links new
top_stops links made most old new t lt top below op e at =
    let same = same_top (reverse new) t.after top t.below below t.new_is e in
    t.stops lt op
    (ap (λ (k : ℕ). slice_get (ops_at links k t.before.method) t.after.at) (sym t.same.class_is)
    ∙ ap (λ (k : ℕ). slice_get (ops_at links t.after.class k) t.after.at) (sym t.same.method_is)
    ∙ ap (λ (g : Frame). op_at links g.class g.method g.at) same
    ∙ at)

-- a run that goes on by plain rows
pub reached_on : (set : Set) (start now new : Core) (k n : ℕ) (t u : Option (List ℕ)) → Reached set start now k t u → ((input out : List ℕ) → on_from set n (Going (state_of set now input out)) ≡ Going (state_of set new input out)) → Reached set start new (k + n) t u
reached_on set start now new k n t u r m = record {
  said = r.said;
  taken = r.taken;
  is = λ input earlier. on_add set k n (Going (state_of set start input earlier)) ∙ ap (on_from set n) (r.is input earlier) ∙ m input (earlier ++ r.said);
}

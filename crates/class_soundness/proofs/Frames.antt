-- The frames of a run on a set that verifies: each fits what the verifier knows of its place.
use Rattle.std.proofs.Common.{◌≡◌, ℕ, ◌+◌, ◌≤◌, Bool, true, false, cond, List, [], ◌∷◌, ◌++◌, length, Option, Some, None, refl, sym, ap, subst, ◌∙◌, arith, map}
use Rattle.std.specs.Prelude.{slice_get, ◌&&◌}
use Rattle.class_file.specs.declared.value.Value.{Value}
use Rattle.class_file.specs.declared.class.VType.{VType}
use Rattle.class_file.specs.declared.class.VType.TheVariants as vtype
use Rattle.class_file.specs.declared.class.ClassFile.{ClassFile}
use Rattle.class_file.specs.declared.class.Method.{Method}
use Rattle.class_file.specs.declared.class.Set.{Set}
use Rattle.class_file.specs.declared.instr.Instr.{Instr}
use Rattle.class_file.specs.Rows.{length_of, instr_at}
use Rattle.class_file.specs.Descriptors.{FieldType}
use Rattle.class_file.specs.Natives.{Object}
use Rattle.class_file.specs.Machine.{Active, Ended, Threw, Stuck, Next, Going, Over, fetch, instr_in, method_at, methods_of, first_locals}
use Rattle.class_file.specs.Members.{described, type_of_field}
use Rattle.class_file.specs.Typing.{Types, all_assignable, types_assignable, same, result_types}
use Rattle.class_file.specs.Verification.{Verifies, Enters, first_types, given_at, starts, has, is_static, is_constructor, receiver_types, padded}
use Rattle.class_file.specs.Verification as verification
use Rattle.class_soundness.specs.Soundness.{IsLoaded}
use Rattle.class_soundness.proofs.Fits.{Fits, Grows, Fits-grows, Fits-assign}
use Rattle.class_soundness.proofs.Tests.{both_true}
use Rattle.class_soundness.proofs.Rows.{Comes}
use Rattle.class_soundness.proofs.Natives.{HasAll}
use Rattle.class_soundness.proofs.Stores.{Stored}
use Rattle.class_soundness.proofs.Calls.{first_fit, first_room}

-- an instruction starts there
pub record Starts (m : Method) (at : ℕ) : Type 0 where
  pub instr : Instr
  pub here : instr_at m.code at ≡ Some instr

pub starting_at : (m : Method) (at : ℕ) → starts m at ≡ true → Starts m at
starting_at m at e = by (instr_at m.code at) refl e
  where
    by : (o : Option Instr) → instr_at m.code at ≡ o → has o ≡ true → Starts m at
    by None k e = absurd cc
    by (Some i) k e = record { instr = i; here = k }

module _ (set : Set) (loaded : IsLoaded set) (ver : Verifies set) where
  -- the method of a frame, and what the verifier knows of it
  pub record Placed (f : Active) : Type 0 where
    pub c : ClassFile
    pub m : Method
    pub class_is : slice_get set.classes f.class ≡ Some c
    pub method_is : slice_get c.methods f.method ≡ Some m
    pub room : m.max_locals ≤ length f.locals

  abbrev pub before : (f : Active) → Placed f → ℕ → Types
  before f p = (ver.methods f.class p.c f.method p.m p.class_is p.method_is).before

  abbrev pub gives : (f : Active) → Placed f → Option VType
  gives f p = (described p.m.descriptor).result

  -- a frame that runs
  pub record Runs (heap : List Object) (f : Active) : Type 0 where
    pub placed : Placed f
    pub start : Starts placed.m f.at
    pub locals : Fits set heap f.locals (before f placed f.at).locals
    pub stack : Fits set heap f.stack (before f placed f.at).stack

  -- a frame that waits for a result
  pub record Waits (heap : List Object) (result : Option VType) (f : Active) : Type 0 where
    pub placed : Placed f
    pub start : Starts placed.m f.at
    pub next : Starts placed.m (f.at + length_of start.instr)
    pub held : Fits set heap f.locals (before f placed f.at).locals
    pub locals : Fits set heap f.locals (before f placed (f.at + length_of start.instr)).locals
    pub types : List VType
    pub below : Fits set heap f.stack types
    pub goes : (later : List Object) (vs : List Value) → Fits set later vs (result_types result ++ types) → Fits set later vs (before f placed (f.at + length_of start.instr)).stack

  -- The frames below one that gives this result, and that may initialise a class: then the frame below it makes its instruction
  -- again.
  abbrev pub Below : List Object → Option VType → Bool → List Active → Type 0
  Below heap result starts [] = result ≡ None
  Below heap result true (f ∷ fs) = (result ≡ None) × ((r : Runs heap f) × Below heap (gives f r.placed) f.starts fs)
  Below heap result false (f ∷ fs) = (w : Waits heap result f) × Below heap (gives f w.placed) f.starts fs

  abbrev pub Frames : List Object → List Active → Type 0
  Frames heap [] = Unit {0}
  Frames heap (f ∷ fs) = (r : Runs heap f) × Below heap (gives f r.placed) f.starts fs

  -- a state of such frames, or an end that is not stuck
  abbrev pub Fine : Next → Type 0
  Fine (Going s) = Frames s.heap s.frames × Stored set s.heap s.statics
  Fine (Over Ended out) = Unit {0}
  Fine (Over (Threw class message) out) = Unit {0}
  Fine (Over Stuck out) = ⊥

  -- ---- a heap that grows

  pub runs_grow : (old new : List Object) → Grows old new → (f : Active) → Runs old f → Runs new f
  runs_grow old new g f r = record {
    placed = r.placed;
    start = r.start;
    locals = Fits-grows set old new g f.locals (before f r.placed f.at).locals r.locals;
    stack = Fits-grows set old new g f.stack (before f r.placed f.at).stack r.stack;
  }

  waits_grow : (old new : List Object) → Grows old new → (result : Option VType) (f : Active) → Waits old result f → Waits new result f
  waits_grow old new g result f w = record {
    placed = w.placed;
    start = w.start;
    next = w.next;
    held = Fits-grows set old new g f.locals (before f w.placed f.at).locals w.held;
    locals = Fits-grows set old new g f.locals (before f w.placed (f.at + length_of w.start.instr)).locals w.locals;
    types = w.types;
    below = Fits-grows set old new g f.stack w.types w.below;
    goes = w.goes;
  }

  pub below_grow : (old new : List Object) → Grows old new → (result : Option VType) (starts : Bool) (fs : List Active) → Below old result starts fs → Below new result starts fs
  unfolding waits_grow runs_grow
  below_grow old new g result first [] b = b
  below_grow old new g result true (f ∷ fs) b = (b.0, (runs_grow old new g f b.1.0, below_grow old new g (gives f b.1.0.placed) f.starts fs b.1.1))
  below_grow old new g result false (f ∷ fs) b = (waits_grow old new g result f b.0, below_grow old new g (gives f b.0.placed) f.starts fs b.1)

  -- ---- a frame that comes to a place

  pub parts : (a b : Types) → types_assignable set a b ≡ true → (all_assignable set a.locals b.locals ≡ true) × (all_assignable set a.stack b.stack ≡ true)
  parts a b e =
      let p = both_true (all_assignable set a.locals b.locals) (all_assignable set a.stack b.stack && same a.unset b.unset) e in
      (p.0, (both_true (all_assignable set a.stack b.stack) (same a.unset b.unset) p.1).0)

  -- what the types of a place take
  pub record Takes (after to : Types) : Type 0 where
    pub locals : (heap : List Object) (vs : List Value) → Fits set heap vs after.locals → Fits set heap vs to.locals
    pub stack : (heap : List Object) (vs : List Value) → Fits set heap vs after.stack → Fits set heap vs to.stack

  pub takes : (class : ℕ) (c : ClassFile) (method : ℕ) (m : Method) (k : slice_get set.classes class ≡ Some c) (h : slice_get c.methods method ≡ Some m) (after : Types) (to : ℕ)
      → Enters set m (ver.methods class c method m k h).before after to → Takes after ((ver.methods class c method m k h).before to)
  takes class c method m k h after to e = by (given_at m to) refl
    where
      by : (o : Option Types) → given_at m to ≡ o → Takes after ((ver.methods class c method m k h).before to)
      by None g = record {
        locals = λ heap vs f. subst (λ (t : Types). Fits set heap vs t.locals) (sym (e.carried g)) f;
        stack = λ heap vs f. subst (λ (t : Types). Fits set heap vs t.stack) (sym (e.carried g)) f;
      }
      by (Some t) g =
          let p = parts after t (e.given t g) in
          let at = (ver.methods class c method m k h).typed.given to t g in
          record {
            locals = λ heap vs f. subst (λ (t : Types). Fits set heap vs t.locals) (sym at) (Fits-assign set loaded heap vs after.locals t.locals p.0 f);
            stack = λ heap vs f. subst (λ (t : Types). Fits set heap vs t.stack) (sym at) (Fits-assign set loaded heap vs after.stack t.stack p.1 f);
          }

  -- ---- a method that is entered

  pub static_types : (c : ClassFile) (m : Method) (params : List VType) → is_static m ≡ true → (described m.descriptor).params ≡ params → (first_types c m).locals ≡ padded m.max_locals (verification.spread params)
  static_types c m params s e =
      ap (λ (b : Bool). padded m.max_locals (cond b [] (cond (is_constructor m) (vtype.UninitializedThis ∷ []) (vtype.Object c.this_name ∷ [])) ++ verification.spread (described m.descriptor).params)) s
      ∙ ap (λ (ts : List VType). padded m.max_locals (verification.spread ts)) e

  unfoldable pub enters : (heap : List Object) (class : ℕ) (c : ClassFile) (method : ℕ) (m : Method) (first : Bool) (k : slice_get set.classes class ≡ Some c) (h : slice_get c.methods method ≡ Some m)
      → is_static m ≡ true → starts m 0 ≡ true → (fs : List FieldType) → (described m.descriptor).params ≡ map type_of_field fs → (args : List Value) → HasAll set heap fs args
      → Runs heap (record { class = class; method = method; at = 0; locals = first_locals m.max_locals args; stack = []; starts = first })
  enters heap class c method m first k h s start fs e args all =
      let t = takes class c method m k h (first_types c m) 0 ((ver.methods class c method m k h).typed.begins start).enters in
      record {
        placed = record { c = c; m = m; class_is = k; method_is = h; room = first_room m.max_locals args };
        start = starting_at m 0 start;
        locals = t.locals heap (first_locals m.max_locals args) (subst (λ (ts : List VType). Fits set heap (first_locals m.max_locals args) ts) (sym (static_types c m (map type_of_field fs) s e)) (first_fit set loaded heap m.max_locals fs args all));
        stack = t.stack heap [] tt;
      }

  -- ---- the method and the instruction of a frame

  pub method_there : (class : ℕ) (c : ClassFile) (method : ℕ) (m : Method) → slice_get set.classes class ≡ Some c → slice_get c.methods method ≡ Some m → method_at set class method ≡ Some m
  method_there class c method m k h = ap (λ (o : Option ClassFile). slice_get (methods_of o) method) k ∙ h

  pub fetched : (f : Active) (p : Placed f) (s : Starts p.m f.at) → fetch set f.class f.method f.at ≡ Some s.instr
  unfolding fetch
  fetched f p s = ap (λ (o : Option Method). instr_in o f.at) (method_there f.class p.c f.method p.m p.class_is p.method_is) ∙ s.here

  -- the running frame goes on
  unfoldable pub goes_to : (heap : List Object) (f : Active) (p : Placed f) (after : Types) (at : ℕ) (locals stack : List Value) → Comes set heap (Enters set p.m (before f p) after) (length f.locals) after at locals stack
      → Runs heap (record f { at = at; locals = locals; stack = stack })
  goes_to heap f p after at locals stack come =
      let t = takes f.class p.c f.method p.m p.class_is p.method_is after at come.to in
      record {
        placed = record { c = p.c; m = p.m; class_is = p.class_is; method_is = p.method_is; room = omega (arith, p.room, come.same) };
        start = starting_at p.m at come.to.start;
        locals = t.locals heap locals come.locals_fit;
        stack = t.stack heap stack come.stack_fits;
      }

-- A step, by what stands at the running frame's place.
use Rattle.std.proofs.Common.{◌≡◌, ◌≢◌, ℕ, ℤ, ◌<◌, Bool, true, false, List, [], ◌∷◌, ◌++◌, length, Option, Some, None, refl, sym, ap, subst, ◌∙◌, append_assoc, append-nil, arith, if◌then◌else◌, ◌⊎◌, inl, inr}
use Rattle.std.specs.Prelude.{reverse, map, slice_get, Result, Ok, Err, OnErr}
use Rattle.kc_io.specs.Told.{appended-nil}
use Rattle.class_file.specs.declared.class.Set.{Set}
use Rattle.class_file.specs.declared.class.ClassFile.{ClassFile}
use Rattle.class_file.specs.declared.instr.Instr.{Instr}
use Rattle.class_file.specs.declared.row.Row.TheVariants as row
use Rattle.class_file.specs.declared.value.Value.{Value}
use Rattle.class_file.specs.declared.value.Value.TheVariants.{Long, Ref}
use Rattle.class_file.specs.declared.value.BuiltIn.{BuiltIn}
use Rattle.class_file.specs.declared.value.NativeId.{NativeId}
use Rattle.class_file.specs.Pools.{Constant, Literal, Named, named_in, entry_at}
use Rattle.class_file.specs.Descriptors.{FieldType}
use Rattle.class_file.specs.Classes.{Body, Native, console_class, texts_class, number_of_place}
use Rattle.class_file.specs.Natives.{Object, TextObject, NativeEffect, Gives, Makes, SetsFirst, Writes, ReadsLine, NativeThrows, NativeFails, native_effect}
use Rattle.class_file.specs.Lots.{NamesNative, CallsNative, native_member, native_params, native_called}
use Rattle.class_file.specs.Runs.{Begins, Begins-same, Begins-trans, native_grows, invoked_grows, step_grows}
use Rattle.class_file.specs.Machine.{State, Active, Next, Going, Over, Stuck, Static, written, step, fetch, executed, after, effect, Effect, Fails, Goes, Throws, LoadsConstant, LoadsLong, Compares, Invokes, Returns, Callee, callee, Popped, popped, invoked, called, static_call, starting, unstarted, is_started, with_started, run, with, entered, first_locals, goes_on, loaded, made, resolve, class_pool, constant, long_constant, thrown, method_at, methods_of, native_step, branch, is_same, returned}
use Rattle.class_file.specs.Machine as machine
use Rattle.class_machine.specs.declared.frame.Frame.{Frame}
use Rattle.class_machine.specs.declared.links.Op.{Op}
use Rattle.class_machine.specs.declared.links.Links.{Links}
use Rattle.class_machine.specs.declared.links.Link.{Link}
use Rattle.class_machine.specs.declared.links.Link.TheVariants as link
use Rattle.class_machine.specs.declared.links.Target.{Target}
use Rattle.class_machine.specs.declared.rows.Went.{Went}
use Rattle.class_machine.specs.declared.run.StepEnd.{StepEnd}
use Rattle.class_machine.specs.Core.{Core, state_of, frames_of, CanStep}
use Rattle.class_machine.specs.Lot.{IsBuilt, IsCall, OfNative, OfSet, CallsOwn, is_built}
use Rattle.class_machine.specs.Links.{IsLinked, HasOp, op_at, op_of, link_at, own_at, native_at, constant_at, wide_at, constant_of, wide_of, native_of, target_of, target_called}
use Rattle.class_machine.specs.Stacks.{shown, SameMethod, Stands, RowGoes, IsRunning, TopChanged, TopPushed, TopDid}
use Rattle.class_machine.specs.Runs.{Wrote, Cut, Comes, IsGoing, on_frames, needing, throwing, starting_class, RunsCall, CanNative, CanEnter, Entered, NativeCut, Applied, applied, applied_to, bytes_of, MadeText}
use Rattle.class_machine.proofs.Running.{shown_stands, same_top, same_below}
use Rattle.class_machine.proofs.Throwing.{thrown_same}
use Rattle.class_machine.proofs.Calling.{needs}

pub on_err : {T E : Type 0} (P : Type 0) (r : Result T E) → P → OnErr r P
on_err P (Ok x) p = tt
on_err P (Err e) p = p

-- nothing was written
pub wrote_nothing : (set : Set) (t u : Option (List ℕ)) (next : List ℕ → List ℕ → Next) (end : StepEnd) (core : Core) → u ≡ t → ((input earlier : List ℕ) → Comes set (next input earlier) end core input earlier) → Wrote t u (λ said. (input earlier : List ℕ) → Comes set (next input earlier) end core input (earlier ++ said))
wrote_nothing set t u next end core e h = record {
  said = [];
  taken = e ∙ sym (appended-nil t);
  so = λ input earlier. let P : List ℕ → Type 0 = λ out. Comes set (next input earlier) end core input out in subst P (sym (append-nil earlier)) (h input earlier);
}

pub cut_nothing : (t u : Option (List ℕ)) (next : List ℕ → List ℕ → Next) → u ≡ t → ((input earlier : List ℕ) → Begins earlier (written (next input earlier))) → Cut t u next
cut_nothing t u next e h = record {
  front = [];
  taken = e ∙ sym (appended-nil t);
  begins = λ input earlier. let P : List ℕ → Type 0 = λ out. Begins out (written (next input earlier)) in subst P (sym (append-nil earlier)) (h input earlier);
}

-- the same of an equal next state
pub wrote_same : (set : Set) (t u : Option (List ℕ)) (next same : List ℕ → List ℕ → Next) (end : StepEnd) (core : Core) → ((input earlier : List ℕ) → next input earlier ≡ same input earlier) → Wrote t u (λ said. (input earlier : List ℕ) → Comes set (same input earlier) end core input (earlier ++ said)) → Wrote t u (λ said. (input earlier : List ℕ) → Comes set (next input earlier) end core input (earlier ++ said))
wrote_same set t u next same end core e w = record {
  said = w.said;
  taken = w.taken;
  so = λ input earlier. let P : Next → Type 0 = λ n. Comes set n end core input (earlier ++ w.said) in subst P (sym (e input earlier)) (w.so input earlier);
}

pub comes_same : (set : Set) (next same : Next) (end : StepEnd) (core : Core) (input out : List ℕ) → next ≡ same → Comes set same end core input out → Comes set next end core input out
comes_same set next same end core input out e h = let P : Next → Type 0 = λ n. Comes set n end core input out in subst P (sym e) h

pub cut_same : (t u : Option (List ℕ)) (next same : List ℕ → List ℕ → Next) → ((input earlier : List ℕ) → next input earlier ≡ same input earlier) → Cut t u same → Cut t u next
cut_same t u next same e w = record {
  front = w.front;
  taken = w.taken;
  begins = λ input earlier. let P : Next → Type 0 = λ n. Begins (earlier ++ w.front) (written n) in subst P (sym (e input earlier)) (w.begins input earlier);
}

-- the state's own frames play no part in a return
without_frames : (s : State) (gs : List Active) (values : List Value) (next : Next) → machine.without_value s values next ≡ machine.without_value (record s { frames = gs }) values next
without_frames s gs [] next = refl
without_frames s gs (v ∷ vs) next = refl

handed_frames : (set : Set) (s : State) (gs : List Active) (values : List Value) (fs : List Active) → machine.handed set s values fs ≡ machine.handed set (record s { frames = gs }) values fs
handed_frames set s gs [] [] = refl
handed_frames set s gs (v ∷ vs) [] = refl
handed_frames set s gs values (f ∷ fs) = by (fetch set f.class f.method f.at)
  where
    by : (o : Option Instr) → machine.resumed s values f fs o ≡ machine.resumed (record s { frames = gs }) values f fs o
    by None = refl
    by (Some i) = refl

returned_frames : (set : Set) (s : State) (gs : List Active) (values : List Value) (f : Active) (fs : List Active)
    → returned set s values f fs ≡ (if f.starts then machine.without_value s values (Going (record s { frames = fs })) else machine.handed set (record s { frames = gs }) values fs)
returned_frames set s gs values f fs = ap (λ (n : Next). if f.starts then machine.without_value s values (Going (record s { frames = fs })) else n) (handed_frames set s gs values fs)

abbrev going : Set → Core → List ℕ → List ℕ → Next
going set core input out = step set (state_of set core input out)

going_on : (set : Set) (core : Core) (f : Active) (fs : List Active) → core.frames ≡ f ∷ fs → (input out : List ℕ) → going set core input out ≡ executed set (state_of set core input out) f fs (fetch set f.class f.method f.at)
unfolding step
going_on set core f fs is input out = ap (machine.running set (state_of set core input out)) is

pub step_keeps : (set : Set) (core : Core) (input out : List ℕ) → Begins out (written (going set core input out))
step_keeps set core input out = step_grows set (state_of set core input out)

-- what the running frame's place has
record Steps (set : Set) (links : Links) (core : Core) (f : Active) (fs : List Active) : Type 0 where
  op : Op
  has : op_at links f.class f.method f.at ≡ Some op
  built : is_built op.row ≡ true
  calls : (k : ℕ) → op.row ≡ row.InvokeStatic k → IsCall set f.class k
  is : (input out : List ℕ) → going set core input out ≡ after set (state_of set core input out) f fs op.next (effect op.row op.next f.locals f.stack)

module _ (set : Set) (links : Links) (core : Core) (f : Active) (fs : List Active) (frames_are : core.frames ≡ f ∷ fs) (linked : IsLinked set links) (built : IsBuilt set) (can : CanStep set core) where
  stepping : Steps set links core f fs
  stepping = by (fetch set f.class f.method f.at) refl
    where
      by : (x : Option Instr) → fetch set f.class f.method f.at ≡ x → Steps set links core f fs
      by None e = absurd (can.goes can.earlier (going_on set core f fs frames_are can.input can.earlier ∙ ap (executed set (state_of set core can.input can.earlier) f fs) e))
      by (Some i) e = record {
        op = op_of f.at i;
        has = linked.ops f.class f.method f.at i e;
        built = built.rows f.class f.method f.at i e;
        calls = λ k is. built.calls f.class f.method f.at k i e is;
        is = λ input out. going_on set core f fs frames_are input out ∙ ap (executed set (state_of set core input out) f fs) e;
      }

  pub has_op : HasOp links f.class f.method f.at
  has_op = record { op = stepping.op; is = stepping.has }

  module _ (op : Op) (at : op_at links f.class f.method f.at ≡ Some op) where
    some_op : (a b : Op) → (let o : Option Op = Some a in o) ≡ Some b → a ≡ b
    some_op a b e = cc

    same : stepping.op ≡ op
    same = some_op stepping.op op (sym stepping.has ∙ at)

    pub of_lot : is_built op.row ≡ true
    of_lot = subst (λ (o : Op). is_built o.row ≡ true) same stepping.built

    pub call_of : (i : ℕ) → op.row ≡ row.InvokeStatic i → RunsCall set i core.frames
    call_of i e = record { top = f; below = fs; is = frames_are; call = subst (λ (o : Op). o.row ≡ row.InvokeStatic i → IsCall set f.class i) same (stepping.calls i) e }

    abbrev does : Effect
    does = effect op.row op.next f.locals f.stack

    pub step_is : (input out : List ℕ) → going set core input out ≡ after set (state_of set core input out) f fs op.next does
    step_is input out = stepping.is input out ∙ ap (λ (o : Op). after set (state_of set core input out) f fs o.next (effect o.row o.next f.locals f.stack)) same

    pub not_fails : does ≢ Fails
    not_fails e = can.goes can.earlier (step_is can.input can.earlier ∙ ap (after set (state_of set core can.input can.earlier) f fs op.next) e)

    pub step_as : (x : Effect) → does ≡ x → (input out : List ℕ) → going set core input out ≡ after set (state_of set core input out) f fs op.next x
    step_as x e input out = step_is input out ∙ ap (after set (state_of set core input out) f fs op.next) e

    -- what the running frame asks for
    pub step_needs : (x : Effect) → does ≡ x → (input out : List ℕ) → going set core input out ≡ needing set core op.next x input out
    step_needs x e input out = step_as x e input out ∙ sym (needs set core f fs frames_are op.next x input out)

    pub can_need : (x : Effect) → does ≡ x → IsGoing (needing set core op.next x)
    can_need x e = record { input = can.input; earlier = can.earlier; goes = λ out h. can.goes out (step_needs x e can.input can.earlier ∙ h) }

    -- the running frame went on
    pub step_on : (new : Active) → does ≡ Goes new.at new.locals new.stack → new.class ≡ f.class → new.method ≡ f.method → new.starts ≡ f.starts → (input out : List ℕ) → going set core input out ≡ Going (record (state_of set core input out) { frames = new ∷ fs })
    step_on new e a b d input out = step_as (Goes new.at new.locals new.stack) e input out ∙ rw (← a, ← b, ← d) refl

    -- it threw; its stack plays no part
    pub step_threw : (x : BuiltIn) (stack : List Value) → does ≡ Throws x → (input out : List ℕ)
        → going set core input out ≡ throwing set (record core { frames = record f { stack = stack } ∷ fs }) x input out
    step_threw x stack e input out =
        step_as (Throws x) e input out ∙ thrown_same set x (state_of set core input out) f fs (record f { stack = stack } ∷ fs) stack

    -- it returned; its stack and its place play no part
    pub step_returned : (values : List Value) (g : Active) → does ≡ Returns values → g.starts ≡ f.starts → (input out : List ℕ)
        → going set core input out ≡ needing set (record core { frames = g ∷ fs }) 0 (Returns values) input out
    step_returned values g e d input out =
        let s = state_of set core input out in
        step_as (Returns values) e input out
        ∙ returned_frames set s (g ∷ fs) values f fs
        ∙ ap (λ (b : Bool). if b then machine.without_value s values (Going (record s { frames = fs })) else machine.handed set (record s { frames = g ∷ fs }) values fs) (sym d)
        ∙ ap (λ (n : Next). if g.starts then n else machine.handed set (record s { frames = g ∷ fs }) values fs) (without_frames s (g ∷ fs) values (Going (record s { frames = fs })))

    -- it compared two references
    pub step_compared : (wanted : Bool) (to : ℕ) (v w : Value) (new : Active) (rest : List Value) → does ≡ Compares wanted to v w rest → new ≡ record f { at = branch wanted (is_same core.heap v w) to op.next; stack = rest } → (input out : List ℕ) → going set core input out ≡ Going (record (state_of set core input out) { frames = new ∷ fs })
    step_compared wanted to v w new rest e is input out =
        step_as (Compares wanted to v w rest) e input out ∙ ap (λ (g : Active). Going (record (state_of set core input out) { frames = g ∷ fs })) (sym is)

active_head : (a b : Active) (xs ys : List Active) → (let l : List Active = a ∷ xs in l) ≡ b ∷ ys → a ≡ b
active_head a b xs ys e = cc

active_tail : (a b : Active) (xs ys : List Active) → (let l : List Active = a ∷ xs in l) ≡ b ∷ ys → xs ≡ ys
active_tail a b xs ys e = cc

-- the running frame of frames that the definition sees so
pub record Framed (fs : List Frame) (top : Active) (below : List Active) : Type 0 where
  pub frame : Frame
  pub others : List Frame
  pub is : reverse fs ≡ frame ∷ others
  pub top_is : shown frame ≡ top
  pub below_is : map shown others ≡ below

pub framed : (fs : List Frame) (top : Active) (below : List Active) → frames_of fs ≡ top ∷ below → Framed fs top below
framed fs top below e = by (reverse fs) refl e
  where
    by : (xs : List Frame) → reverse fs ≡ xs → map shown xs ≡ top ∷ below → Framed fs top below
    by [] k q = absurd cc
    by (f ∷ xs) k q = record { frame = f; others = xs; is = k; top_is = active_head (shown f) top (map shown xs) below q; below_is = active_tail (shown f) top (map shown xs) below q }

-- a call keeps what was written
pub call_keeps : (set : Set) (core : Core) (f : Active) (fs : List Active) (next i : ℕ) → core.frames ≡ f ∷ fs → (input out : List ℕ) → Begins out (written (needing set core next (Invokes Static i) input out))
call_keeps set core f fs next i is input out =
    subst (λ (n : Next). Begins out (written n)) (sym (needs set core f fs is next (Invokes Static i) input out)) (invoked_grows set (state_of set core input out) f fs next Static (resolve set Static f.class i))

-- ---- constants

same_constant : (x y : Constant) → (let o : Option Constant = Some x in o) ≡ Some y → x ≡ y
same_constant x y e = cc

same_number : (x y : ℤ) → (let o : Option ℤ = Some x in o) ≡ Some y → x ≡ y
same_number x y e = cc

no_wide_kind : (l : Link) (k : ℤ) → wide_of l ≡ Some k → ((n : ℤ) → l ≡ link.Wide n → ⊥) → ⊥
no_wide_kind (link.Wide n) k e h = h n refl
no_wide_kind _ k e h = absurd cc

-- some frame runs where something is needed
pub filled : (fs : List Frame) → (frames_of fs ≡ [] → ⊥) → 0 < length fs
filled [] h = absurd (h refl)
filled (f ∷ fs) h = omega arith

pub running_shown : (fs slice : List Frame) (f : Frame) → slice ≡ fs → (r : IsRunning f slice) → frames_of fs ≡ shown f ∷ map shown r.below
running_shown fs slice f e r = ap (map shown) (sym (ap reverse e) ∙ r.is)

module _ (set : Set) (links : Links) (core : Core) (f : Active) (fs : List Active) (frames_are : core.frames ≡ f ∷ fs) (linked : IsLinked set links) (next i : ℕ) where
  module _ (can : IsGoing (needing set core next (LoadsConstant i))) where
    pub loads : (k : Constant) × (constant set f.class i ≡ Some k)
    loads = by (constant set f.class i) refl
      where
        by : (o : Option Constant) → constant set f.class i ≡ o → (k : Constant) × (constant set f.class i ≡ Some k)
        by None k = absurd (can.goes can.earlier (needs set core f fs frames_are next (LoadsConstant i) can.input can.earlier ∙ ap (loaded (state_of set core can.input can.earlier) f fs next) k))
        by (Some c) k = (c, k)

    known : constant_at links f.class i ≡ Some loads.0
    known = linked.constants f.class i loads.0 loads.1

    pub constant_link : (l : Link) × (link_at links f.class i ≡ Some l)
    constant_link = by (link_at links f.class i) refl known
      where
        by : (o : Option Link) → link_at links f.class i ≡ o → elim o as (λ _. Option Constant) [ Some l ↦ constant_of l | None ↦ None ] ≡ Some loads.0 → (l : Link) × (link_at links f.class i ≡ Some l)
        by None k e = absurd cc
        by (Some l) k e = (l, k)

    pub constant_is : (l : Link) → link_at links f.class i ≡ Some l → constant_of l ≡ Some loads.0
    constant_is l at = sym (ap (λ (o : Option Link). elim o as (λ _. Option Constant) [ Some x ↦ constant_of x | None ↦ None ]) at) ∙ known

    pub load_is : (l : Link) (k : Constant) → link_at links f.class i ≡ Some l → constant_of l ≡ Some k → (input out : List ℕ) → needing set core next (LoadsConstant i) input out ≡ loaded (state_of set core input out) f fs next (Some k)
    load_is l k at is input out =
        let same : loads.0 ≡ k = same_constant loads.0 k (sym (constant_is l at) ∙ is) in
        needs set core f fs frames_are next (LoadsConstant i) input out
        ∙ ap (loaded (state_of set core input out) f fs next) loads.1
        ∙ ap (λ (c : Constant). loaded (state_of set core input out) f fs next (Some c)) same

  module _ (can : IsGoing (needing set core next (LoadsLong i))) where
    wide : (n : ℤ) × (long_constant set f.class i ≡ Some n)
    wide = by (long_constant set f.class i) refl
      where
        by : (o : Option ℤ) → long_constant set f.class i ≡ o → (n : ℤ) × (long_constant set f.class i ≡ Some n)
        by None k = absurd (can.goes can.earlier (needs set core f fs frames_are next (LoadsLong i) can.input can.earlier
            ∙ ap (λ (o : Option ℤ). with (state_of set core can.input can.earlier) o (λ n. goes_on (state_of set core can.input can.earlier) f fs next (Long n ∷ f.stack))) k))
        by (Some n) k = (n, k)

    known_wide : wide_at links f.class i ≡ Some wide.0
    known_wide = linked.wides f.class i wide.0 wide.1

    pub wide_link : (l : Link) × (link_at links f.class i ≡ Some l)
    wide_link = by (link_at links f.class i) refl known_wide
      where
        by : (o : Option Link) → link_at links f.class i ≡ o → elim o as (λ _. Option ℤ) [ Some l ↦ wide_of l | None ↦ None ] ≡ Some wide.0 → (l : Link) × (link_at links f.class i ≡ Some l)
        by None k e = absurd cc
        by (Some l) k e = (l, k)

    wide_is : (l : Link) → link_at links f.class i ≡ Some l → wide_of l ≡ Some wide.0
    wide_is l at = sym (ap (λ (o : Option Link). elim o as (λ _. Option ℤ) [ Some x ↦ wide_of x | None ↦ None ]) at) ∙ known_wide

    pub not_wide : (l : Link) → link_at links f.class i ≡ Some l → ((n : ℤ) → l ≡ link.Wide n → ⊥) → ⊥
    not_wide l at no_wide = no_wide_kind l wide.0 (wide_is l at) no_wide

    pub load_wide_is : (l : Link) (n : ℤ) → link_at links f.class i ≡ Some l → wide_of l ≡ Some n → (input out : List ℕ) → needing set core next (LoadsLong i) input out ≡ goes_on (state_of set core input out) f fs next (Long n ∷ f.stack)
    load_wide_is l n at is input out =
        let same : wide.0 ≡ n = same_number wide.0 n (sym (wide_is l at) ∙ is) in
        needs set core f fs frames_are next (LoadsLong i) input out
        ∙ ap (λ (o : Option ℤ). with (state_of set core input out) o (λ m. goes_on (state_of set core input out) f fs next (Long m ∷ f.stack))) wide.1
        ∙ ap (λ (m : ℤ). goes_on (state_of set core input out) f fs next (Long m ∷ f.stack)) same

-- a value came onto the running frame's stack
pub went_on : (set : Set) (core : Core) (old new : List Frame) (v : Value) (next : ℕ) (f : Frame) (below : List Frame) → reverse old ≡ f ∷ below → TopPushed v next old new → (input out : List ℕ)
    → goes_on (state_of set core input out) (shown f) (map shown below) next (v ∷ reverse f.stack.items) ≡ Going (record (state_of set core input out) { frames = frames_of new })
went_on set core old new v next f below e t input out =
    let s = state_of set core input out in
    let same = same_top (reverse old) f t.before below t.below e t.old_is in
    let under = same_below (reverse old) f t.before below t.below e t.old_is in
    ap (λ (g : Frame). goes_on s (shown g) (map shown below) next (v ∷ reverse g.stack.items)) same
    ∙ ap (λ (gs : List Frame). goes_on s (shown t.before) (map shown gs) next (v ∷ reverse t.before.stack.items)) under
    ∙ ap (λ (a : Active). Going (record s { frames = a ∷ map shown t.below })) (sym t.is)
    ∙ ap (λ (gs : List Frame). Going (record s { frames = map shown gs })) (sym t.new_is)

-- a new text was made
pub text_made : (old new : Core) (before after : List Frame) (units : List ℕ) (next : ℕ) → old.frames ≡ frames_of before → new.frames ≡ frames_of after → new.heap ≡ old.heap ++ TextObject units ∷ [] → new.started ≡ old.started
    → TopPushed (Ref (length old.heap)) next before after → MadeText units next old new
text_made old new before after units next a b heap started t = record {
  is = λ set input out.
      let s = state_of set old input out in
      ap (λ (fs : List Active). on_frames fs (λ f gs. made s f gs next (TextObject units) f.stack)) (a ∙ ap (map shown) t.old_is)
      ∙ ap (λ (g : Active). Going (record s { frames = g ∷ map shown t.below; heap = old.heap ++ TextObject units ∷ [] })) (sym t.is)
      ∙ ap (λ (fs : List Active). Going (record s { frames = fs; heap = old.heap ++ TextObject units ∷ [] })) (sym (b ∙ ap (map shown) t.new_is))
      ∙ ap (λ (h : List Object). Going (record s { frames = new.frames; heap = h })) (sym heap)
      ∙ ap (λ (ms : List Bool). Going (record s { frames = new.frames; heap = new.heap; started = ms })) (sym started);
}

-- it was loaded
pub literal_loaded : (set : Set) (core new : Core) (f : Active) (fs : List Active) (text copy : List ℕ) (next : ℕ) → core.frames ≡ f ∷ fs → copy ≡ text → MadeText copy next core new → (input out : List ℕ)
    → loaded (state_of set core input out) f fs next (Some (Literal text)) ≡ Going (state_of set new input out)
literal_loaded set core new f fs text copy next frames_are same m input out =
    let s = state_of set core input out in
    ap (λ (t : List ℕ). made s f fs next (TextObject t) f.stack) (sym same)
    ∙ ap (λ (gs : List Active). on_frames gs (λ g hs. made s g hs next (TextObject copy) g.stack)) (sym frames_are)
    ∙ m.is set input out

-- ---- calls of the set's own methods

module _ (set : Set) (core : Core) (f : Active) (fs : List Active) (frames_are : core.frames ≡ f ∷ fs) (i next : ℕ) (own : CallsOwn set f.class i) (can : IsGoing (needing set core next (Invokes Static i))) where
  resolved : resolve set Static f.class i ≡ Some own.to
  unfolding resolve
  resolved = ap (callee set Static) own.named_is ∙ own.callee_is

  -- what goes on once the class is started
  abbrev pub own_runs : State → Next
  own_runs t = static_call set t f fs next own.to

  pub own_is : (input out : List ℕ) → needing set core next (Invokes Static i) input out ≡ starting_class set core own.class own_runs input out
  own_is input out =
      let s = state_of set core input out in
      needs set core f fs frames_are next (Invokes Static i) input out
      ∙ ap (invoked set s f fs next Static) resolved
      ∙ ap (λ (n : ℕ). with_started set s (f ∷ fs) n own_runs) own.found_in
      ∙ ap (λ (gs : List Active). with_started set s gs (number_of_place own.class) own_runs) (sym frames_are)

  pub own_file : (c : ClassFile) × (slice_get set.classes own.class ≡ Some c)
  own_file = by (slice_get set.classes own.class) refl own.method_is
    where
      by : (o : Option ClassFile) → slice_get set.classes own.class ≡ o → slice_get (methods_of o) own.place ≡ Some own.method → (c : ClassFile) × (slice_get set.classes own.class ≡ Some c)
      by None k h = absurd cc
      by (Some c) k h = (c, k)

  -- the class was started without more
  module _ (mid : Core) (so : (go : State → Next) (input out : List ℕ) → starting_class set core own.class go input out ≡ go (state_of set mid input out)) where
    abbrev runs_in : State → Option Popped → Next
    runs_in s o = with s o (λ p. run set s (record f { stack = p.rest }) fs next p.args own.to.found.method.body)

    call_runs : (input out : List ℕ) → needing set core next (Invokes Static i) input out ≡ runs_in (state_of set mid input out) (popped own.to.signature.params f.stack)
    call_runs input out = own_is input out ∙ so own_runs input out

    pub taken : (p : Popped) × (popped own.to.signature.params f.stack ≡ Some p)
    taken = by (popped own.to.signature.params f.stack) refl
      where
        by : (o : Option Popped) → popped own.to.signature.params f.stack ≡ o → (p : Popped) × (popped own.to.signature.params f.stack ≡ Some p)
        by None e = absurd (can.goes can.earlier (call_runs can.input can.earlier ∙ ap (runs_in (state_of set mid can.input can.earlier)) e))
        by (Some p) e = (p, e)

    pub call_enters : (p : Popped) → popped own.to.signature.params f.stack ≡ Some p → (input out : List ℕ) → needing set core next (Invokes Static i) input out
        ≡ Going (record (state_of set mid input out) { frames = record { class = own.class; method = own.place; at = 0; locals = first_locals own.method.max_locals p.args; stack = []; starts = false } ∷ record f { stack = p.rest } ∷ fs })
    call_enters p e input out =
        let s = state_of set mid input out in
        call_runs input out ∙ ap (runs_in s) e
        ∙ ap (run set s (record f { stack = p.rest }) fs next p.args) own.body
        ∙ ap (entered s (record f { stack = p.rest } ∷ fs) own.class own.place p.args) own.method_is

    pub own_taken : (params : ℕ) (old : List Frame) → params ≡ length own.to.signature.params → frames_of old ≡ f ∷ fs → CanEnter params old
    own_taken params old count is =
        let t = framed old f fs is in
        record {
          top = t.frame;
          below = t.others;
          is = t.is;
          can = record { types = own.to.signature.params; count = sym count; values = taken.0; is = ap (λ (g : Active). popped own.to.signature.params g.stack) t.top_is ∙ taken.1 };
        }

    pub own_entered : (target : Target) → target ≡ target_called own → (old new : List Frame) → Entered target old new → frames_of old ≡ f ∷ fs → (input out : List ℕ)
        → needing set core next (Invokes Static i) input out ≡ Going (record (state_of set mid input out) { frames = frames_of new })
    own_entered target target_is old new e old_is input out =
        let s = state_of set mid input out in
        let p = taken.0 in
        let whole = sym (ap (map shown) e.old_is) ∙ old_is in
        let a : shown e.caller ≡ f = active_head _ f _ fs whole in
        let b : map shown e.below ≡ fs = active_tail _ f _ fs whole in
        call_enters p taken.1 input out
        ∙ ap (λ (t : Target). Going (record s { frames = record { class = t.class; method = t.method; at = 0; locals = first_locals t.max_locals p.args; stack = []; starts = false } ∷ record f { stack = p.rest } ∷ fs })) (sym target_is)
        ∙ ap (λ (g : Active). Going (record s { frames = record { class = target.class; method = target.method; at = 0; locals = first_locals target.max_locals p.args; stack = []; starts = false } ∷ record g { stack = p.rest } ∷ fs })) (sym a)
        ∙ ap (λ (gs : List Active). Going (record s { frames = record { class = target.class; method = target.method; at = 0; locals = first_locals target.max_locals p.args; stack = []; starts = false } ∷ record (shown e.caller) { stack = p.rest } ∷ gs })) (sym b)
        ∙ ap (λ (gs : List Active). Going (record s { frames = gs })) (sym (e.new_is own.to.signature.params p (sym (ap (λ (t : Target). t.params) target_is)) (ap (λ (g : Active). popped own.to.signature.params g.stack) a ∙ taken.1)))

-- ---- calls of natives

some_native : (x y : NativeId) → (let o : Option NativeId = Some x in o) ≡ Some y → x ≡ y
some_native x y e = cc

module _ (set : Set) (core : Core) (f : Active) (fs : List Active) (frames_are : core.frames ≡ f ∷ fs) (i next : ℕ) (id : NativeId) (names : NamesNative (named_in (class_pool set f.class) (entry_at (class_pool set f.class) i)) id) where
  abbrev call : List ℕ → List ℕ → Next
  call input out = needing set core next (Invokes Static i) input out

  abbrev done : Applied
  done = applied set id core.heap f.stack

  pub is_native : native_member id ≢ None
  is_native h = cc (names.is, h)

  callee_is : CallsNative (resolve set Static f.class i) id
  unfolding resolve
  callee_is = subst (λ (n : Option Named). CallsNative (callee set Static n) id) (sym names.named_is) (native_called set id names.member names.is)

  -- the frame without the arguments
  abbrev left : Active
  left = record f { stack = done.rest }

  abbrev native_run : State → Option Popped → Next
  native_run s o = with s o (λ p. native_step set s (record f { stack = p.rest }) fs next (native_effect set id s.heap p.args))

  run_applied : (input out : List ℕ) (o : Option Popped) → native_run (state_of set core input out) o ≡ native_step set (state_of set core input out) (record f { stack = (applied_to set id core.heap o).rest }) fs next (applied_to set id core.heap o).effect
  run_applied input out None = refl
  run_applied input out (Some p) = refl

  body_native : (c : Callee) (s : State) (o : Option Popped) → c.found.method.body ≡ Native id → with s o (λ p. run set s (record f { stack = p.rest }) fs next p.args c.found.method.body) ≡ native_run s o
  body_native c s o h = ap (λ (b : Body). with s o (λ p. run set s (record f { stack = p.rest }) fs next p.args b)) h

  is_there : (c : Callee) → (c.found.class ≡ console_class) ⊎ (c.found.class ≡ texts_class) → (s : State) → is_started s.started c.found.class ≡ true
  is_there c (inl h) s = ap (is_started s.started) h
  is_there c (inr h) s = ap (is_started s.started) h

  called_now : (s : State) (c : Callee) → is_started s.started c.found.class ≡ true → called set s f fs next Static c ≡ static_call set s f fs next c
  called_now s c h = ap (λ (b : Bool). if b then static_call set s f fs next c else starting set s (f ∷ fs) (unstarted set s c.found.class) (λ t. static_call set t f fs next c)) h

  pub call_is : (input out : List ℕ) → call input out ≡ native_step set (state_of set core input out) left fs next done.effect
  call_is input out =
      let n = callee_is in
      let s = state_of set core input out in
      needs set core f fs frames_are next (Invokes Static i) input out
      ∙ ap (invoked set s f fs next Static) n.is
      ∙ called_now s n.callee (is_there n.callee n.built_in s)
      ∙ body_native n.callee s (popped n.callee.signature.params f.stack) n.native
      ∙ ap (λ (ts : List FieldType). native_run s (popped ts f.stack)) n.params
      ∙ run_applied input out (popped (native_params id) f.stack)

  call_as : (x : NativeEffect) → done.effect ≡ x → (input out : List ℕ) → call input out ≡ native_step set (state_of set core input out) left fs next x
  call_as x h input out = call_is input out ∙ ap (native_step set (state_of set core input out) left fs next) h

  pub native_goes : IsGoing (needing set core next (Invokes Static i)) → done.effect ≢ NativeFails
  native_goes can h = can.goes can.earlier (call_as NativeFails h can.input can.earlier)

  -- a text was made
  pub call_made : (text : List ℕ) (rest : List Value) (mid new : Core) → done.effect ≡ Makes (TextObject text) → done.rest ≡ rest → mid.frames ≡ record f { stack = rest } ∷ fs → mid.heap ≡ core.heap → mid.started ≡ core.started
      → MadeText text next mid new → (input out : List ℕ) → call input out ≡ Going (state_of set new input out)
  call_made text rest mid new h k frames heap started m input out =
      let s = state_of set core input out in
      call_as (Makes (TextObject text)) h input out
      ∙ ap (λ (st : List Value). made s (record f { stack = st }) fs next (TextObject text) st) k
      ∙ ap (λ (hs : List Object). made (record s { heap = hs }) (record f { stack = rest }) fs next (TextObject text) rest) (sym heap)
      ∙ ap (λ (ms : List Bool). made (record s { heap = mid.heap; started = ms }) (record f { stack = rest }) fs next (TextObject text) rest) (sym started)
      ∙ ap (λ (gs : List Active). on_frames gs (λ g hs. made (state_of set mid input out) g hs next (TextObject text) g.stack)) (sym frames)
      ∙ m.is set input out

  -- bytes were written
  pub call_wrote : (bytes : List ℕ) (rest : List Value) (new : Core) → done.effect ≡ Writes bytes → done.rest ≡ rest → new.frames ≡ record f { at = next; stack = rest } ∷ fs → new.heap ≡ core.heap → new.started ≡ core.started
      → (input out : List ℕ) → call input out ≡ Going (state_of set new input (out ++ bytes))
  call_wrote bytes rest new h k frames heap started input out =
      let s = state_of set core input out in
      call_as (Writes bytes) h input out
      ∙ ap (λ (st : List Value). Going (record s { frames = record f { at = next; stack = st } ∷ fs; out = out ++ bytes })) k
      ∙ ap (λ (gs : List Active). Going (record s { frames = gs; out = out ++ bytes })) (sym frames)
      ∙ ap (λ (hs : List Object). Going (record s { frames = new.frames; heap = hs; out = out ++ bytes })) (sym heap)
      ∙ ap (λ (ms : List Bool). Going (record s { frames = new.frames; heap = new.heap; started = ms; out = out ++ bytes })) (sym started)

  -- it threw
  pub call_threw : (x : BuiltIn) (rest : List Value) (mid : Core) → done.effect ≡ NativeThrows x → mid.frames ≡ record f { stack = rest } ∷ fs → mid.heap ≡ core.heap → mid.started ≡ core.started
      → (input out : List ℕ) → call input out ≡ throwing set mid x input out
  call_threw x rest mid h frames heap started input out =
      let s = state_of set core input out in
      call_as (NativeThrows x) h input out
      ∙ thrown_same set x s left fs mid.frames rest
      ∙ ap (λ (hs : List Object). thrown set x (record s { frames = mid.frames; heap = hs }) (record f { stack = rest } ∷ fs)) (sym heap)
      ∙ ap (λ (ms : List Bool). thrown set x (record s { frames = mid.frames; heap = mid.heap; started = ms }) (record f { stack = rest } ∷ fs)) (sym started)
      ∙ ap (λ (gs : List Active). thrown set x (state_of set mid input out) gs) (sym frames)

  more : (s : State) (x : NativeEffect) → Begins (s.out ++ []) (written (native_step set s left fs next x))
  more s x = subst (λ (out : List ℕ). Begins out (written (native_step set s left fs next x))) (sym (append-nil s.out)) (native_grows set s left fs next x)

  written_by : (s : State) (x : NativeEffect) → Begins (s.out ++ bytes_of x) (written (native_step set s left fs next x))
  written_by s (Writes bytes) = Begins-same (s.out ++ bytes) (written (native_step set s left fs next (Writes bytes))) refl
  written_by s (Gives values) = more s (Gives values)
  written_by s (Makes object) = more s (Makes object)
  written_by s (SetsFirst q v) = more s (SetsFirst q v)
  written_by s ReadsLine = more s ReadsLine
  written_by s (NativeThrows x) = more s (NativeThrows x)
  written_by s NativeFails = more s NativeFails

  -- what a native wrote before it failed
  pub call_cut : (t u : Option (List ℕ)) → NativeCut done.effect t u → Cut t u call
  call_cut t u n = record {
    front = n.front;
    taken = n.taken;
    begins = λ input earlier.
        let s = state_of set core input earlier in
        let P : Next → Type 0 = λ x. Begins (earlier ++ n.front) (written x) in
        let front : Begins (earlier ++ n.front) (earlier ++ bytes_of done.effect) = (n.begins.0, append_assoc earlier n.front n.begins.0 ∙ ap (λ (x : List ℕ). earlier ++ x) n.begins.1) in
        subst P (sym (call_is input earlier)) (Begins-trans (earlier ++ n.front) (earlier ++ bytes_of done.effect) (written (native_step set s left fs next done.effect)) front (written_by s done.effect));
  }

  pub can_native : (frames : List Frame) (heap : List Object) → frames_of frames ≡ f ∷ fs → heap ≡ core.heap → IsGoing (needing set core next (Invokes Static i)) → CanNative set id heap frames
  can_native frames heap is same can =
      let t = framed frames f fs is in
      let P : Active → List Object → Type 0 = λ a h. (applied set id h a.stack).effect ≢ NativeFails in
      record { top = t.frame; below = t.others; is = t.is; goes = subst (λ (h : List Object). P (shown t.frame) h) (sym same) (subst (λ (a : Active). P a core.heap) (sym t.top_is) (native_goes can)) }

  -- what a native did, by the frames of the code
  pub record Ran (a : Applied) (rest : List Value) (mid : List Frame) : Type 0 where
    pub done_is : done ≡ a
    pub mid_is : frames_of mid ≡ record f { stack = rest } ∷ fs

  pub ran : (heap : List Object) (old mid : List Frame) (first last : Frame) (below : List Frame) → heap ≡ core.heap → frames_of old ≡ f ∷ fs → reverse old ≡ first ∷ below → reverse mid ≡ last ∷ below → Stands first last
      → Ran (applied set id heap (reverse first.stack.items)) (reverse last.stack.items) mid
  ran heap old mid first last below same is old_is mid_is stands =
      let whole = sym (ap (map shown) old_is) ∙ is in
      let a : shown first ≡ f = active_head _ f _ fs whole in
      let b : map shown below ≡ fs = active_tail _ f _ fs whole in
      record {
        done_is = ap (λ (g : Active). applied set id core.heap g.stack) (sym a) ∙ ap (λ (h : List Object). applied set id h (reverse first.stack.items)) (sym same);
        mid_is = ap (map shown) mid_is ∙ ap (λ (g : Active). g ∷ map shown below) (shown_stands first last stands)
            ∙ ap (λ (g : Active). record g { stack = reverse last.stack.items } ∷ map shown below) a ∙ ap (λ (gs : List Active). record f { stack = reverse last.stack.items } ∷ gs) b;
      }

-- ---- what a call is of

module _ (set : Set) (links : Links) (linked : IsLinked set links) (class i : ℕ) (l : Link) (at : link_at links class i ≡ Some l) where
  natives_by : native_at links class i ≡ native_of l
  natives_by = ap (λ (o : Option Link). elim o as (λ _. Option NativeId) [ Some x ↦ native_of x | None ↦ None ]) at

  owns_by : own_at links class i ≡ target_of l
  owns_by = ap (λ (o : Option Link). elim o as (λ _. Option Target) [ Some x ↦ target_of x | None ↦ None ]) at

  no_native : (x : NativeId) → (let o : Option NativeId = None in o) ≡ Some x → ⊥
  no_native x e = cc

  no_target : (x : Target) → (let o : Option Target = None in o) ≡ Some x → ⊥
  no_target x e = cc

  same_native : (x y : NativeId) → (let o : Option NativeId = Some x in o) ≡ Some y → x ≡ y
  same_native x y e = cc

  same_target : (x y : Target) → (let o : Option Target = Some x in o) ≡ Some y → x ≡ y
  same_target x y e = cc

  pub names_of : (id : NativeId) → l ≡ link.Native id → IsCall set class i → NamesNative (named_in (class_pool set class) (entry_at (class_pool set class) i)) id
  names_of id e (OfNative n) =
      subst (NamesNative (named_in (class_pool set class) (entry_at (class_pool set class) i))) (same_native n.id id (sym (linked.natives class i n.id n.names) ∙ natives_by ∙ ap native_of e)) n.names
  names_of id e (OfSet c) = absurd (no_target (target_called c) (sym (ap target_of e) ∙ sym owns_by ∙ linked.owns class i c))

  -- the method of the set that is called
  pub own_of : (t : Target) → l ≡ link.Method t → IsCall set class i → (c : CallsOwn set class i) × (t ≡ target_called c)
  own_of t e (OfNative n) = absurd (no_native n.id (sym (ap native_of e) ∙ sym natives_by ∙ linked.natives class i n.id n.names))
  own_of t e (OfSet c) = (c, same_target t (target_called c) (sym (ap target_of e) ∙ sym owns_by ∙ linked.owns class i c))

  pub some_link : IsCall set class i → ((id : NativeId) → l ≡ link.Native id → ⊥) → ((t : Target) → l ≡ link.Method t → ⊥) → ⊥
  some_link (OfNative n) h g = by l (sym natives_by ∙ linked.natives class i n.id n.names) refl
    where
      by : (k : Link) → native_of k ≡ Some n.id → l ≡ k → ⊥
      by (link.Native id) e q = h id q
      by _ e q = absurd cc
  some_link (OfSet c) h g = by l (sym owns_by ∙ linked.owns class i c) refl
    where
      by : (k : Link) → target_of k ≡ Some (target_called c) → l ≡ k → ⊥
      by (link.Method t) e q = g t q
      by _ e q = absurd cc

-- the link of a call is there
pub call_link : (set : Set) (links : Links) → IsLinked set links → (class i : ℕ) → IsCall set class i → (l : Link) × (link_at links class i ≡ Some l)
call_link set links linked class i (OfNative n) = by (link_at links class i) refl (linked.natives class i n.id n.names)
  where
    by : (o : Option Link) → link_at links class i ≡ o → elim o as (λ _. Option NativeId) [ Some x ↦ native_of x | None ↦ None ] ≡ Some n.id → (l : Link) × (link_at links class i ≡ Some l)
    by None k e = absurd cc
    by (Some l) k e = (l, k)
call_link set links linked class i (OfSet c) = by (link_at links class i) refl (linked.owns class i c)
  where
    by : (o : Option Link) → link_at links class i ≡ o → elim o as (λ _. Option Target) [ Some x ↦ target_of x | None ↦ None ] ≡ Some (target_called c) → (l : Link) × (link_at links class i ≡ Some l)
    by None k e = absurd cc
    by (Some l) k e = (l, k)

pub jumped_frames : (mid new : List Frame) (next : ℕ) (a : Active) (fs : List Active) → frames_of mid ≡ a ∷ fs → TopChanged (λ f. record f { at = next }) mid new → frames_of new ≡ record a { at = next } ∷ fs
jumped_frames mid new next a fs is j =
    let whole = sym (ap (map shown) j.old_is) ∙ is in
    ap (map shown) j.new_is ∙ ap (λ (g : Active). g ∷ map shown j.below) j.is
    ∙ ap (λ (g : Active). record g { at = next } ∷ map shown j.below) (active_head _ a _ fs whole) ∙ ap (λ (gs : List Active). record a { at = next } ∷ gs) (active_tail _ a _ fs whole)

pub running_top : (fs slice : List Frame) (f : Frame) (top : Active) (below : List Active) → slice ≡ fs → IsRunning f slice → frames_of fs ≡ top ∷ below → shown f ≡ top
running_top fs slice f top below e r is = active_head _ top _ below (sym (running_shown fs slice f e r) ∙ is)

pub stands_still : (f : Frame) → Stands f f
stands_still f = record { same = record { class_is = refl; method_is = refl; starts_is = refl }; at_is = refl; locals_are = refl }

-- ---- a step, by what the row did in the running frame

module _ (set : Set) (links : Links) (old mid : List Frame) (heap : List Object) (started : List Bool) (linked : IsLinked set links) (built : IsBuilt set) where
  abbrev core_with : List Frame → Core
  core_with frames = record { frames = frames_of frames; heap = heap; started = started }

  module _ (can : CanStep set (core_with old)) (op : Op) (w : Went) (t : TopDid op.row op.next w old mid) (r : Frame) (slice : List Frame) (same_slice : slice ≡ old) (running : IsRunning r slice) (at : op_at links r.class r.method r.at ≡ Some op) where
    abbrev top : Active
    top = shown t.before

    abbrev under : List Active
    under = map shown t.below

    is : frames_of old ≡ top ∷ under
    is = ap (map shown) t.old_is

    mid_frames : frames_of mid ≡ shown t.after ∷ under
    mid_frames = ap (map shown) t.new_is

    top_at : op_at links top.class top.method top.at ≡ Some op
    top_at = subst (λ (f : Frame). op_at links f.class f.method f.at ≡ Some op) (same_top (reverse old) r t.before running.below t.below (sym (ap reverse same_slice) ∙ running.is) t.old_is) at

    abbrev row_does : Effect
    row_does = effect op.row op.next top.locals top.stack

    mid_same : t.after ≡ t.before → core_with mid ≡ core_with old
    mid_same e = ap (λ (gs : List Active). record { frames = gs; heap = heap; started = started }) (mid_frames ∙ ap (λ (f : Frame). shown f ∷ under) e ∙ sym is)

    pub top_needs : (x : Effect) → row_does ≡ x → t.after ≡ t.before → (input out : List ℕ) → going set (core_with old) input out ≡ needing set (core_with mid) op.next x input out
    top_needs x e same input out =
        step_needs set links (core_with old) top under is linked built can op top_at x e input out ∙ ap (λ (c : Core). needing set c op.next x input out) (sym (mid_same same))

    pub top_can : (x : Effect) → row_does ≡ x → t.after ≡ t.before → IsGoing (needing set (core_with mid) op.next x)
    top_can x e same = subst (λ (c : Core). IsGoing (needing set c op.next x)) (sym (mid_same same)) (can_need set links (core_with old) top under is linked built can op top_at x e)

    pub top_built : is_built op.row ≡ true
    top_built = of_lot set links (core_with old) top under is linked built can op top_at

    pub top_call : (i : ℕ) → op.row ≡ row.InvokeStatic i → t.after ≡ t.before → RunsCall set i (frames_of mid)
    top_call i e same = subst (λ (c : Core). RunsCall set i c.frames) (sym (mid_same same)) (call_of set links (core_with old) top under is linked built can op top_at i e)

    pub top_on : row_does ≡ Goes t.after.at t.after.locals.items (reverse t.after.stack.items) → SameMethod t.before t.after → (input out : List ℕ) → going set (core_with old) input out ≡ Going (state_of set (core_with mid) input out)
    top_on e same input out =
        step_on set links (core_with old) top under is linked built can op top_at (shown t.after) e same.class_is same.method_is same.starts_is input out
        ∙ ap (λ (gs : List Active). Going (record (state_of set (core_with old) input out) { frames = gs })) (sym mid_frames)

    pub top_threw : (x : BuiltIn) → row_does ≡ Throws x → Stands t.before t.after → (input out : List ℕ) → going set (core_with old) input out ≡ throwing set (core_with mid) x input out
    top_threw x e stands input out =
        step_threw set links (core_with old) top under is linked built can op top_at x (reverse t.after.stack.items) e input out
        ∙ ap (λ (gs : List Active). throwing set (record (core_with old) { frames = gs }) x input out) (sym (mid_frames ∙ ap (λ (g : Active). g ∷ under) (shown_stands t.before t.after stands)))

    pub top_returned : (values : List Value) → row_does ≡ Returns values → SameMethod t.before t.after → (input out : List ℕ) → going set (core_with old) input out ≡ needing set (core_with mid) 0 (Returns values) input out
    top_returned values e same input out =
        step_returned set links (core_with old) top under is linked built can op top_at values (shown t.after) e same.starts_is input out
        ∙ ap (λ (gs : List Active). needing set (record (core_with old) { frames = gs }) 0 (Returns values) input out) (sym mid_frames)

    pub top_can_return : (values : List Value) → row_does ≡ Returns values → SameMethod t.before t.after → IsGoing (needing set (core_with mid) 0 (Returns values))
    top_can_return values e same = record { input = can.input; earlier = can.earlier; goes = λ out h. can.goes out (top_returned values e same can.input can.earlier ∙ h) }

    pub top_compared : (wanted : Bool) (to : ℕ) (v w2 : Value) (new : List Frame) → row_does ≡ Compares wanted to v w2 (reverse t.after.stack.items) → Stands t.before t.after
        → TopChanged (λ f. record f { at = branch wanted (is_same heap v w2) to op.next }) mid new → (input out : List ℕ) → going set (core_with old) input out ≡ Going (state_of set (core_with new) input out)
    top_compared wanted to v w2 new e stands j input out =
        step_compared set links (core_with old) top under is linked built can op top_at wanted to v w2 (record (shown t.after) { at = branch wanted (is_same heap v w2) to op.next }) (reverse t.after.stack.items) e
        (ap (λ (g : Active). record g { at = branch wanted (is_same heap v w2) to op.next }) (shown_stands t.before t.after stands)) input out
        ∙ ap (λ (gs : List Active). Going (record (state_of set (core_with old) input out) { frames = gs })) (sym (jumped_frames mid new (branch wanted (is_same heap v w2) to op.next) (shown t.after) under mid_frames j))

-- the running frame's operation is there, and does not fail
pub running_op : (set : Set) (links : Links) (core : Core) (fs slice : List Frame) (f : Frame) → core.frames ≡ frames_of fs → slice ≡ fs → IsRunning f slice → IsLinked set links → IsBuilt set → CanStep set core → HasOp links f.class f.method f.at
running_op set links core fs slice f frames same r linked built can = has_op set links core (shown f) (map shown r.below) (frames ∙ running_shown fs slice f same r) linked built can

pub running_goes : (set : Set) (links : Links) (core : Core) (fs slice : List Frame) (f : Frame) → core.frames ≡ frames_of fs → slice ≡ fs → (r : IsRunning f slice) → IsLinked set links → IsBuilt set → CanStep set core
    → (op : Op) → op_at links f.class f.method f.at ≡ Some op → RowGoes op.row op.next fs
running_goes set links core fs slice f frames same r linked built can op at = record {
  top = f;
  below = r.below;
  is = sym (ap reverse same) ∙ r.is;
  goes = not_fails set links core (shown f) (map shown r.below) (frames ∙ running_shown fs slice f same r) linked built can op at;
}

pub no_frames : (fs : List Frame) → length fs ≡ 0 → fs ≡ []
no_frames [] e = refl
no_frames (f ∷ fs) e = absurd cc

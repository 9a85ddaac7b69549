-- What steps and runs come to, and what they write.
use Rattle.std.specs.Prelude.{◌≡◌, ◌≢◌, ℕ, List, [], ◌∷◌, ◌++◌, length, map, reverse, slice_get, Option, Some, None, Bool, true, false, ⊤}
use Rattle.kc_io.specs.Told.{appended}
use Rattle.class_file.specs.declared.value.Value.{Value}
use Rattle.class_file.specs.declared.value.BuiltIn.{BuiltIn}
use Rattle.class_file.specs.declared.value.NativeId.{NativeId}
use Rattle.class_file.specs.declared.class.Set.{Set}
use Rattle.class_file.specs.declared.class.ClassFile.{ClassFile}
use Rattle.class_file.specs.Pools.{named_in, entry_at}
use Rattle.class_file.specs.Descriptors.{FieldType}
use Rattle.class_file.specs.Classes.{number_of_place}
use Rattle.class_file.specs.Natives.{Object, TextObject, NativeEffect, Makes, Writes, NativeThrows, NativeFails, native_effect}
use Rattle.class_file.specs.Lots.{native_params, NamesNative}
use Rattle.class_file.specs.Runs.{Begins}
use Rattle.class_file.specs.Machine.{State, Next, Going, Over, Ending, Stuck, written, message, Active, Popped, popped, first_locals, thrown, with_started, made, class_pool, Effect, after, on_from}
use Rattle.class_file.specs.Machine as machine
use Rattle.class_machine.specs.declared.run.StepEnd.{StepEnd}
use Rattle.class_machine.specs.declared.run.StepEnd.TheVariants as went
use Rattle.class_machine.specs.declared.natives.NativeDone.{NativeDone}
use Rattle.class_machine.specs.declared.natives.NativeDone.TheVariants as native
use Rattle.class_machine.specs.declared.frame.Frame.{Frame}
use Rattle.class_machine.specs.declared.links.Op.{Op}
use Rattle.class_machine.specs.declared.links.Links.{Links}
use Rattle.class_machine.specs.declared.links.Target.{Target}
use Rattle.class_machine.specs.Core.{Core, state_of, frames_of}
use Rattle.class_machine.specs.Links.{HasOp, op_at, target_called}
use Rattle.class_machine.specs.Stacks.{shown, Stands}
use Rattle.class_machine.specs.Lot.{class_name, CallsOwn, IsCall}

-- the sink took something, of which P holds
pub record Wrote (before after : Option (List ℕ)) (P : List ℕ → Type 0) : Type 0 where
  pub said : List ℕ
  pub taken : after ≡ appended before said
  pub so : P said

-- what the sink took is a front of what comes, from each input and after each earlier output
pub record Cut (before after : Option (List ℕ)) (next : List ℕ → List ℕ → Next) : Type 0 where
  pub front : List ℕ
  pub taken : after ≡ appended before front
  pub begins : (input earlier : List ℕ) → Begins (earlier ++ front) (written (next input earlier))

-- what came next is this end, with this input left and after this output
abbrev pub Comes : Set → Next → StepEnd → Core → List ℕ → List ℕ → Type 0
Comes set next went.On core input out = next ≡ Going (state_of set core input out)
Comes set next went.Ended core input out = next ≡ Over machine.Ended out
Comes set next (went.Threw x) core input out = next ≡ Over (machine.Threw (class_name x) (message x)) out

-- what a native does with the arguments on the stack
pub record Applied : Type 0 where
  pub effect : NativeEffect
  pub rest : List Value

abbrev pub applied_to : Set → NativeId → List Object → Option Popped → Applied
applied_to set id heap None = record { effect = NativeFails; rest = [] }
applied_to set id heap (Some p) = record { effect = native_effect set id heap p.args; rest = p.rest }

abbrev pub applied : Set → NativeId → List Object → List Value → Applied
applied set id heap stack = applied_to set id heap (popped (native_params id) stack)

abbrev pub bytes_of : NativeEffect → List ℕ
bytes_of (Writes bytes) = bytes
bytes_of _ = []

-- the effect is to write this
pub record Written (effect : NativeEffect) (before after : Option (List ℕ)) : Type 0 where
  pub bytes : List ℕ
  pub is : effect ≡ Writes bytes
  pub taken : after ≡ appended before bytes

-- a native did this and left the rest of the stack
abbrev pub NativeDid : Applied → NativeDone → List Value → Option (List ℕ) → Option (List ℕ) → Type 0
NativeDid a (native.Made text) rest before after = (a.effect ≡ Makes (TextObject text)) × (a.rest ≡ rest) × (after ≡ before)
NativeDid a native.Wrote rest before after = Written a.effect before after × (a.rest ≡ rest)
NativeDid a (native.Threw x) rest before after = (a.effect ≡ NativeThrows x) × (after ≡ before)

-- a native that joins two texts did this
abbrev pub Joined : Applied → NativeDone → List Value → Type 0
Joined a (native.Made text) rest = (a.effect ≡ Makes (TextObject text)) × (a.rest ≡ rest)
Joined a native.Wrote rest = ⊥
Joined a (native.Threw x) rest = a.effect ≡ NativeThrows x

-- what the sink took is a front of what the effect writes
pub record NativeCut (effect : NativeEffect) (before after : Option (List ℕ)) : Type 0 where
  pub front : List ℕ
  pub taken : after ≡ appended before front
  pub begins : Begins front (bytes_of effect)

-- from some input and after some output, this is not stuck
pub record IsGoing (next : List ℕ → List ℕ → Next) : Type 0 where
  pub input : List ℕ
  pub earlier : List ℕ
  pub goes : (out : List ℕ) → next input earlier ≢ Over Stuck out

-- ---- what the running frame is asked for; without a frame there is none to ask

abbrev pub on_frames : List Active → (Active → List Active → Next) → Next
on_frames [] go = Over Stuck []
on_frames (f ∷ fs) go = go f fs

-- what an effect of the running frame's instruction makes of the state
abbrev pub needing : Set → Core → ℕ → Effect → List ℕ → List ℕ → Next
needing set core next e input out = on_frames core.frames (λ f fs. after set (state_of set core input out) f fs next e)

-- an exception leaves the running frame
abbrev pub throwing : Set → Core → BuiltIn → List ℕ → List ℕ → Next
throwing set core x input out = thrown set x (state_of set core input out) core.frames

-- the classes of a call are started, and then it goes on so
abbrev pub starting_class : Set → Core → ℕ → (State → Next) → List ℕ → List ℕ → Next
starting_class set core class go input out = with_started set (state_of set core input out) core.frames (number_of_place class) go

-- A class's initialiser runs, or the class is started and what wants it goes on.
abbrev pub StartedSo : Set → Core → Core → ℕ → Bool → Type 0
StartedSo set old new class true = (go : State → Next) (input out : List ℕ) → starting_class set old class go input out ≡ Going (state_of set new input out)
StartedSo set old new class false = (go : State → Next) (input out : List ℕ) → starting_class set old class go input out ≡ go (state_of set new input out)

-- where the initialiser does not run the frames stay
abbrev pub FramesStay : Bool → List Frame → List Frame → Type 0
FramesStay true old new = ⊤
FramesStay false old new = new ≡ old

pub record HasClass (set : Set) (class : ℕ) : Type 0 where
  pub file : ClassFile
  pub is : slice_get set.classes class ≡ Some file

-- the arguments of a call of so many values are on the stack
pub record CanTake (params : ℕ) (stack : List Value) : Type 0 where
  pub types : List FieldType
  pub count : length types ≡ params
  pub values : Popped
  pub is : popped types stack ≡ Some values

-- a new text was made, and its number went onto the running frame's stack
pub record MadeText (units : List ℕ) (next : ℕ) (old new : Core) : Type 0 where
  pub is : (set : Set) (input out : List ℕ) → on_frames old.frames (λ f fs. made (state_of set old input out) f fs next (TextObject units) f.stack) ≡ Going (state_of set new input out)

-- they are taken, as local variables
abbrev pub Taken : ℕ → ℕ → List Value → List Value → List Value → Type 0
Taken params max stack locals rest =
    (types : List FieldType) (p : Popped) → length types ≡ params → popped types stack ≡ Some p → (locals ≡ first_locals max p.args) × (rest ≡ p.rest)

pub record CanEnter (params : ℕ) (frames : List Frame) : Type 0 where
  pub top : Frame
  pub below : List Frame
  pub is : reverse frames ≡ top ∷ below
  pub can : CanTake params (reverse top.stack.items)

pub record TakenFromTop (params max : ℕ) (locals : List Value) (old new : List Frame) : Type 0 where
  pub before : Frame
  pub after : Frame
  pub below : List Frame
  pub old_is : reverse old ≡ before ∷ below
  pub new_is : reverse new ≡ after ∷ below
  pub stands : Stands before after
  pub taken : Taken params max (reverse before.stack.items) locals (reverse after.stack.items)

-- the arguments are off the caller's stack, and the method runs over them
pub record Entered (target : Target) (old new : List Frame) : Type 0 where
  pub caller : Frame
  pub below : List Frame
  pub old_is : reverse old ≡ caller ∷ below
  pub new_is : (types : List FieldType) (p : Popped) → length types ≡ target.params → popped types (reverse caller.stack.items) ≡ Some p
      → frames_of new ≡ record { class = target.class; method = target.method; at = 0; locals = first_locals target.max_locals p.args; stack = []; starts = false } ∷ record (shown caller) { stack = p.rest } ∷ map shown below

abbrev pub values_of : Option Value → List Value
values_of (Some v) = v ∷ []
values_of None = []

abbrev pub PoppedFrame : Option Frame → List Frame → List Frame → Type 0
PoppedFrame (Some f) old new = reverse old ≡ f ∷ reverse new
PoppedFrame None old new = old ≡ []

-- the running frame's instruction is there
pub record CanResume (links : Links) (frames : List Frame) : Type 0 where
  pub top : Frame
  pub below : List Frame
  pub is : reverse frames ≡ top ∷ below
  pub has : HasOp links top.class top.method top.at

pub record ResumesAt (links : Links) (frames : List Frame) (next : ℕ) : Type 0 where
  pub top : Frame
  pub below : List Frame
  pub is : reverse frames ≡ top ∷ below
  pub op : Op
  pub op_is : op_at links top.class top.method top.at ≡ Some op
  pub next_is : next ≡ op.next

-- the running frame went on behind its instruction, with these values
pub record Resumed (links : Links) (values : List Value) (old new : List Frame) : Type 0 where
  pub before : Frame
  pub after : Frame
  pub below : List Frame
  pub old_is : reverse old ≡ before ∷ below
  pub new_is : reverse new ≡ after ∷ below
  pub op : Op
  pub op_is : op_at links before.class before.method before.at ≡ Some op
  pub is : shown after ≡ record (shown before) { at = op.next; stack = values ++ reverse before.stack.items }

-- ---- natives

-- a native did this with the running frame's stack
pub record TopNative (set : Set) (id : NativeId) (heap : List Object) (done : NativeDone) (old new : List Frame) (before after : Option (List ℕ)) : Type 0 where
  pub first : Frame
  pub last : Frame
  pub below : List Frame
  pub old_is : reverse old ≡ first ∷ below
  pub new_is : reverse new ≡ last ∷ below
  pub stands : Stands first last
  pub did : NativeDid (applied set id heap (reverse first.stack.items)) done (reverse last.stack.items) before after

-- the native does not fail on the running frame's stack
pub record CanNative (set : Set) (id : NativeId) (heap : List Object) (frames : List Frame) : Type 0 where
  pub top : Frame
  pub below : List Frame
  pub is : reverse frames ≡ top ∷ below
  pub goes : (applied set id heap (reverse top.stack.items)).effect ≢ NativeFails

-- what the sink took is a front of what the native writes
pub record TopNativeCut (set : Set) (id : NativeId) (heap : List Object) (frames : List Frame) (before after : Option (List ℕ)) : Type 0 where
  pub top : Frame
  pub below : List Frame
  pub is : reverse frames ≡ top ∷ below
  pub cut : NativeCut (applied set id heap (reverse top.stack.items)).effect before after

-- the running frame's class names the native by this index
pub record RunsNative (set : Set) (id : NativeId) (i : ℕ) (frames : List Active) : Type 0 where
  pub top : Active
  pub below : List Active
  pub is : frames ≡ top ∷ below
  pub names : NamesNative (named_in (class_pool set top.class) (entry_at (class_pool set top.class) i)) id

pub record RunsOwn (set : Set) (target : Target) (i : ℕ) (frames : List Active) : Type 0 where
  pub top : Active
  pub below : List Active
  pub is : frames ≡ top ∷ below
  pub call : CallsOwn set top.class i
  pub target_is : target ≡ target_called call

pub record RunsCall (set : Set) (i : ℕ) (frames : List Active) : Type 0 where
  pub top : Active
  pub below : List Active
  pub is : frames ≡ top ∷ below
  pub call : IsCall set top.class i

-- after so many steps from the start the machine is here, and the sink took what was written
pub record Reached (set : Set) (start now : Core) (n : ℕ) (before after : Option (List ℕ)) : Type 0 where
  pub said : List ℕ
  pub taken : after ≡ appended before said
  pub is : (input earlier : List ℕ) → on_from set n (Going (state_of set start input earlier)) ≡ Going (state_of set now input (earlier ++ said))

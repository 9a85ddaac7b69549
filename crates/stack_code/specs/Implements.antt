-- A method does what the body of its function means, above whatever frames without handlers it runs.
use Rattle.std.specs.Prelude.{◌≡◌, ℕ, ◌+◌, ◌*◌, ◌≤◌, List, [], ◌∷◌, length, slice_get, Option, Some, Bool, false}
use Rattle.kc_core.specs.declared.tree.Function.{Function}
use Rattle.kc_core.specs.Values.{Value, Int, Boolean, Text, UnitValue}
use Rattle.kc_core.specs.Meaning as source
use Rattle.class_file.specs.declared.value.Value.{Value as Slot}
use Rattle.class_file.specs.declared.value.Value.TheVariants as slot
use Rattle.class_file.specs.declared.class.Set.{Set}
use Rattle.class_file.specs.declared.class.Method.{Method}
use Rattle.class_file.specs.Natives.{Object, TextObject}
use Rattle.class_file.specs.Machine.{Active, State, Next, Going, Over, Threw, on_from, class_pool, handlers_of, method_at, handed}
use Rattle.stack_code.specs.Code.{bit}
use Rattle.stack_code.specs.Agrees.{IsCodeOf}

-- ---- states of the machine beside those of the meaning

-- the method that runs, the frames that wait below it, and what no instruction of compiled code changes
pub record Activation : Type 0 where
  pub class : ℕ
  pub method : ℕ
  pub rest : List Active
  pub statics : List (List Slot)
  pub started : List Bool

abbrev pub activation : ℕ → ℕ → List Active → List (List Slot) → List Bool → Activation
activation class method rest statics started = record { class = class; method = method; rest = rest; statics = statics; started = started }

-- its frame at a place, with these local variables, and these operands, the top first
abbrev pub running : Activation → ℕ → List Slot → List Slot → Active
running o at ls st = record { class = o.class; method = o.method; at = at; locals = ls; stack = st; starts = false }

-- the machine there, with the heap, and with the input and the output of a state of the meaning
abbrev pub state_at : Activation → ℕ → List Slot → List Slot → List Object → source.State → State
state_at o at ls st h s = record { frames = running o at ls st ∷ o.rest; heap = h; statics = o.statics; started = o.started; input = s.input; out = s.out }

-- no frame has handlers
abbrev pub Unhandled : Set → List Active → Type 0
Unhandled set [] = Unit {0}
Unhandled set (f ∷ fs) = (handlers_of (method_at set f.class f.method) ≡ []) × Unhandled set fs

-- what was in the heap is there
pub record Grows (h h' : List Object) : Type 0 where
  pub stays : (r : ℕ) (ob : Object) → slice_get h r ≡ Some ob → slice_get h' r ≡ Some ob

-- what a local variable of the machine holds is the value
abbrev pub Holds : List Object → Value → Option Slot → Type 0
Holds h (Int z) o = o ≡ Some (slot.Int z)
Holds h (Boolean b) o = o ≡ Some (slot.Int (bit b))
Holds h (Text t) o = (r : ℕ) × (o ≡ Some (slot.Ref r)) × (slice_get h r ≡ Some (TextObject t))
Holds h UnitValue o = Unit {0}

-- the locals of the machine have those of the meaning that are assigned
pub record Held (h : List Object) (ls : List Slot) (locals : List (Option Value)) : Type 0 where
  pub room : length locals ≤ length ls
  pub same : (x : ℕ) (v : Value) → slice_get locals x ≡ Some (Some v) → Holds h v (slice_get ls x)

abbrev pub IsGoing : Next → Type 0
IsGoing (Going s) = Unit {0}
IsGoing (Over how out) = ⊥

abbrev pub printed : Next → List ℕ
printed (Going s) = s.out
printed (Over how out) = out

-- ---- what the frame does

-- from c, where u units are left, the frame returns to those below it, in the meaning's state s
pub record Returns (factor : ℕ) (set : Set) (o : Activation) (c : Next) (h : List Object) (u : ℕ) (s : source.State) : Type 0 where
  pub steps : ℕ
  pub spent : ℕ
  pub at : ℕ
  pub locals : List Slot
  pub heap : List Object
  pub runs : on_from set steps c ≡ handed set (state_at o at locals [] heap s) [] o.rest
  pub grows : Grows h heap
  pub units : s.units + spent ≡ u
  pub most : steps ≤ factor * spent

-- the exception leaves the frame, and so the program
pub record Fails (factor : ℕ) (set : Set) (c : Next) (u : ℕ) (x : source.Exception) (s : source.State) : Type 0 where
  pub steps : ℕ
  pub spent : ℕ
  pub runs : on_from set steps c ≡ Over (Threw x.class x.message) s.out
  pub units : s.units + spent ≡ u
  pub most : steps ≤ factor * spent

-- the machine is on its way, and has taken the more steps the more units there were
pub record GoesOn (factor slack : ℕ) (set : Set) (c : Next) (u : ℕ) (s : source.State) : Type 0 where
  pub steps : ℕ
  pub going : IsGoing (on_from set steps c)
  pub says : printed (on_from set steps c) ≡ s.out
  pub most : steps ≤ factor * u
  pub least : u ≤ slack + slack * steps

-- the frame does what the meaning came to, unless that is broken
abbrev pub Does : ℕ → ℕ → Set → Activation → Next → List Object → ℕ → source.Completion → Type 0
Does factor slack set o c h u (source.Gives v s) = Returns factor set o c h u s
Does factor slack set o c h u (source.Throws x s) = Fails factor set c u x s
Does factor slack set o c h u (source.Stops s) = GoesOn factor slack set c u s
Does factor slack set o c h u (source.Breaks at s) = Unit {0}

-- From its first instruction, over local variables that hold those of the meaning's state, a frame of the method does what the function's
-- body means there, in so many steps for each unit that the body takes, whatever frames wait below it, if these have no handlers. Where
-- none waits, the run goes on as long as the body does, and ends as it does. The body's value is dropped: the functions that are compiled
-- so far have no result. No function calls another one yet: all steps are the frame's own.
pub record Implements (factor : ℕ) (set : Set) (class method : ℕ) (f : Function) : Type 0 where
  pub slack : ℕ
  pub does : (rest : List Active) (statics : List (List Slot)) (started : List Bool) → Unhandled set rest → (n : ℕ) (s : source.State) (ls : List Slot) (h : List Object) → s.units ≤ n → Held h ls s.locals →
      Does factor slack set (activation class method rest statics started) (Going (state_at (activation class method rest statics started) 0 ls [] h s)) h s.units (source.eval n f.body s)

-- the own steps for each unit that a method takes at most
abbrev pub method_factor : ℕ
method_factor = 16

-- The law of a method that is the code of a function: it implements the function.
abbrev pub CodeImplements : Type 0
CodeImplements = (set : Set) (class method : ℕ) (m : Method) (f : Function) → method_at set class method ≡ Some m → IsCodeOf (class_pool set class) m f → Implements method_factor set class method f

-- What changes in a machine, but for its input and what it wrote.
use Rattle.std.specs.Prelude.{◌≢◌, ℕ, List, [], Bool, false, length, map, replicate, reverse}
use Rattle.class_file.specs.declared.class.Set.{Set}
use Rattle.class_file.specs.Natives.{Object}
use Rattle.class_file.specs.Machine.{State, Active, Going, Over, Stuck, step, on_from, first_heap, first_statics}
use Rattle.class_machine.specs.declared.frame.Frame.{Frame}
use Rattle.class_machine.specs.declared.run.Run.{Run}
use Rattle.class_machine.specs.Heaps.{objects_of}
use Rattle.class_machine.specs.Stacks.{shown}

pub record Core : Type 0 where
  pub frames : List Active
  pub heap : List Object
  pub started : List Bool

-- no instruction that is built changes a static field
abbrev pub state_of : Set → Core → List ℕ → List ℕ → State
state_of set core input out = record { frames = core.frames; heap = core.heap; statics = first_statics set; started = core.started; input = input; out = out }

-- before the first step
abbrev pub first_core : Set → Core
first_core set = record { frames = []; heap = first_heap; started = replicate (length set.classes) false }

-- whatever the input is, no run from here is ever stuck
abbrev pub NeverStuck : Set → Core → Type 0
NeverStuck set core = (input : List ℕ) (n : ℕ) (out : List ℕ) → on_from set n (Going (state_of set core input [])) ≢ Over Stuck out

-- the same, after something that was written before
pub record IsSafe (set : Set) (core : Core) : Type 0 where
  pub earlier : List ℕ
  pub never : (input : List ℕ) (n : ℕ) (out : List ℕ) → on_from set n (Going (state_of set core input earlier)) ≢ Over Stuck out

-- the next step is not stuck, from some input and after some output
pub record CanStep (set : Set) (core : Core) : Type 0 where
  pub input : List ℕ
  pub earlier : List ℕ
  pub goes : (out : List ℕ) → step set (state_of set core input earlier) ≢ Over Stuck out

-- the frames, the running one first
abbrev pub frames_of : List Frame → List Active
frames_of frames = map shown (reverse frames)

abbrev pub core_of : Run → Core
core_of r = record { frames = frames_of r.frames.items; heap = objects_of r.heap.items; started = r.started.items }

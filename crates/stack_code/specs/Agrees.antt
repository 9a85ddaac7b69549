-- Compiled code does what its program does: in the bytes that it prints, in how it ends, at every bound.
use Rattle.std.specs.Prelude.{◌≡◌, ◌≢◌, ℕ, ◌≤◌, List, [], ◌∷◌, ◌++◌, Some, None, length, slice_get, position, codes}
use Rattle.kc_core.specs.declared.tree.Function.{Function}
use Rattle.kc_core.specs.declared.tree.Program.{Program}
use Rattle.kc_core.specs.declared.tree.Span.{Span}
use Rattle.kc_core.specs.Runs as runs
use Rattle.kc_core.specs.Meaning as source
use Rattle.class_file.specs.declared.class.ClassFile.{ClassFile}
use Rattle.class_file.specs.declared.class.Set.{Set}
use Rattle.class_file.specs.declared.class.Method.{Method}
use Rattle.class_file.specs.Pools.{Slots, is_text}
use Rattle.class_file.specs.Classes.{built_ins}
use Rattle.class_file.specs.Lots.{IsFirstLot}
use Rattle.class_file.specs.Machine.{Ending, Ended, Threw, Stuck, Next, Going, Over, machine}
use Rattle.stack_code.specs.Code.{Spells, body_code}

-- how the machine is to end where the source does
abbrev pub ending_of : source.Ending → Ending
ending_of source.Ended = Ended
ending_of (source.Threw x) = Threw x.class x.message
ending_of (source.Broken at) = Stuck

abbrev pub source_outcome : runs.Outcome source.Ending → runs.Outcome Ending
source_outcome (runs.Going out) = runs.Going out
source_outcome (runs.Over how out) = runs.Over (ending_of how) out

abbrev pub machine_outcome : Next → runs.Outcome Ending
machine_outcome (Going s) = runs.Going s.out
machine_outcome (Over how out) = runs.Over how out

-- the program's meaning, by how many units it has
abbrev pub meaning_run : Program → ℕ → List ℕ → ℕ → runs.Outcome Ending
meaning_run program main input n = source_outcome (source.meaning program main input n)

-- the machine, by how many steps it takes
abbrev pub machine_run : Set → List ℕ → ℕ → runs.Outcome Ending
machine_run set input n = machine_outcome (machine set input n)

-- Over this input the machine on the set and the program agree, at so many steps for each unit.
abbrev pub AgreesAt : ℕ → Set → Program → ℕ → List ℕ → Type 0
AgreesAt factor set program main input = runs.AgreesBy factor (meaning_run program main input) (machine_run set input)

-- For every input they agree, at a million steps for each unit.
abbrev pub Agrees : Set → Program → ℕ → Type 0
Agrees set program main = (input : List ℕ) → AgreesAt 1000000 set program main input

-- the steps for each unit that the emitter's code takes at most
abbrev pub emitter_factor : ℕ
emitter_factor = 17

-- the method is the code of the function
pub record IsCodeOf (pool : Slots) (m : Method) (f : Function) : Type 0 where
  pub spelled : Spells pool 0 m.code (body_code f.body)
  pub room : length f.locals ≤ m.max_locals
  pub unhandled : m.handlers ≡ []

-- no built-in class has this name
abbrev pub IsOwnName : List ℕ → Type 0
IsOwnName name = position (λ c. is_text c.name name) built_ins ≡ None

-- The set has one class, right below Object, which goes by the name of the main class and of no built-in one. Its one method is the
-- public static method `main`, without parameters and result, and is the code of the program's function.
pub record IsCompiled (set : Set) (program : Program) (main : ℕ) : Type 0 where
  pub function : Function
  pub class : ClassFile
  pub method : Method
  pub function_is : slice_get program.functions main ≡ Some function
  pub classes : set.classes ≡ class ∷ []
  pub name : class.this_name ≡ set.main
  pub own : IsOwnName set.main
  pub super : class.super_name ≡ codes "java/lang/Object"
  pub methods : class.methods ≡ method ∷ []
  pub method_name : method.name ≡ codes "main"
  pub descriptor : method.descriptor ≡ codes "()V"
  pub flags : method.flags ≡ 9
  pub code : IsCodeOf class.pool method function

-- over this input the program's meaning is broken at no bound
abbrev pub NeverBrokenAt : Program → ℕ → List ℕ → Type 0
NeverBrokenAt program main input = (n : ℕ) (at : Span) (out : List ℕ) → source.meaning program main input n ≡ runs.Over (source.Broken at) out → ⊥

-- over this input the machine is stuck at no bound
abbrev pub NeverStuckAt : Set → List ℕ → Type 0
NeverStuckAt set input = (n : ℕ) (out : List ℕ) → machine set input n ≡ Over Stuck out → ⊥

-- the law of compiled code: over each input for which the program's meaning is never broken it agrees with the program, by
-- the emitter's factor and by the one that is promised, and never gets the machine stuck
abbrev pub CompiledAgrees : Type 0
CompiledAgrees = (set : Set) (program : Program) (main : ℕ) → IsCompiled set program main → (input : List ℕ) → NeverBrokenAt program main input → AgreesAt emitter_factor set program main input × AgreesAt 1000000 set program main input × NeverStuckAt set input

-- the law of compiled sets: the machine is built for them
abbrev pub CompiledIsFirstLot : Type 0
CompiledIsFirstLot = (set : Set) (program : Program) (main : ℕ) → IsCompiled set program main → IsFirstLot set

-- a compiled method has instructions
abbrev pub CompiledHasCode : Type 0
CompiledHasCode = (set : Set) (program : Program) (main : ℕ) (c : IsCompiled set program main) → c.method.code ≢ []

-- no built-in class has the name of a source file's class, which ends with `Kt`
abbrev pub FilesHaveOwnNames : Type 0
FilesHaveOwnNames = (name : List ℕ) → IsOwnName (name ++ codes "Kt")

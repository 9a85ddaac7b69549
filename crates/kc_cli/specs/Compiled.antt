-- Sets of classes that are made from programs.
use Rattle.kc_core.specs.declared.tree.Function.{Function}
use Rattle.kc_core.specs.declared.tree.Program.{Program}
use Rattle.stack_code.specs.Agrees.{IsCompiled}
use Rattle.stack_code.specs.Frames.{IsFramed}
use Rattle.stack_code.specs.Small.{IsSmall}
use Rattle.std.specs.Prelude.{◌≡◌, ℕ, ◌<◌, ◌^◌, [], ◌∷◌, Some, None, All, length, slice_get}
use Rattle.class_file.specs.declared.class.Set.{Set}

-- the set is the program compiled, and its method gives the frames of its code
pub record Compiles (set : Set) (program : Program) (main : ℕ) : Type 0 where
  pub compiled : IsCompiled set program main
  pub framed : IsFramed compiled.method compiled.function

-- the code of each method has a length that the machine can number
abbrev pub HasShortCode : Set → Type 0
HasShortCode set = All (λ c. All (λ m. length m.code < 2 ^ 28) c.methods) set.classes

-- the first function is small beside a pool without entries
abbrev pub MainIsSmall : Program → Type 0
MainIsSmall program = (f : Function) → slice_get program.functions 0 ≡ Some f → IsSmall (None ∷ []) f

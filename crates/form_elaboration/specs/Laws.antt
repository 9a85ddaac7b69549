-- What holds of every elaborated program.
use Rattle.std.specs.Prelude.{◌≡◌, ℕ, List, Some, length, slice_get, codes}
use Rattle.kc_core.specs.declared.tree.Function.{Function}
use Rattle.kc_core.specs.declared.tree.Program.{Program}
use Rattle.kc_core.specs.Formed.{MainFormed}
use Rattle.form_parser.specs.declared.surface.Source.{Source}
use Rattle.form_elaboration.specs.Elaboration.{program_of}

-- Each use gets values of the types that it needs, the locals that are named exist, and none is read before it is assigned.
abbrev pub ElaboratedIsFormed : Type 0
ElaboratedIsFormed = (file : ℕ) (text : List ℕ) (source : Source) (program : Program) → program_of file text source ≡ Some program → MainFormed program 0

-- the program begins with a function of the name `main`
pub record HasMain (program : Program) : Type 0 where
  pub main : Function
  pub is : slice_get program.functions 0 ≡ Some main
  pub named : main.name ≡ codes "main"

-- it has a function of this name, and no other
pub record IsMainAlone (program : Program) : Type 0 where
  pub has_main : HasMain program
  pub alone : length program.functions ≡ 1

abbrev pub ElaboratedIsMain : Type 0
ElaboratedIsMain = (file : ℕ) (text : List ℕ) (source : Source) (program : Program) → program_of file text source ≡ Some program → IsMainAlone program

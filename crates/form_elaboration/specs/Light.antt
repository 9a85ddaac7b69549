-- How large programs of the form can be. A file has at most 256 bytes, and so at most 256 tokens; six of them are `fun main ( ) { }`.
use Rattle.std.specs.Prelude.{◌≡◌, ℕ, ◌≤◌, List, Some, length, slice_get}
use Rattle.kc_core.specs.declared.tree.Function.{Function}
use Rattle.kc_core.specs.declared.tree.Program.{Program}
use Rattle.kc_core.specs.Room.{function_weight}
use Rattle.kc_core.specs.Sizes.{nodes_of, text_units_of}
use Rattle.form_elaboration.specs.Form.{Form}

-- 54 for each token, and 31 for the function
abbrev pub heaviest : ℕ
heaviest = 13531

-- three for two tokens, and the body
abbrev pub most_nodes : ℕ
most_nodes = 376

-- one for four tokens
abbrev pub most_locals : ℕ
most_locals = 62

-- a line feed for four tokens
abbrev pub most_text_units : ℕ
most_text_units = 62

pub record IsLight (f : Function) : Type 0 where
  pub weight : function_weight f ≤ heaviest
  pub nodes : nodes_of f.body ≤ most_nodes
  pub locals : length f.locals ≤ most_locals
  pub text_units : text_units_of f.body ≤ most_text_units

-- each function of each program of the form is light
abbrev pub ProgramsAreLight : Type 0
ProgramsAreLight = (file : ℕ) (bytes : List ℕ) (program : Program) → Form file bytes program → (n : ℕ) (f : Function) → slice_get program.functions n ≡ Some f → IsLight f

-- The elaborated program of a file of the form. There is none where a name is declared while another of its spelling is in scope,
-- where a name isn't in scope, where a `val` is assigned, or where a type isn't the one that is needed.
use Rattle.std.specs.Prelude.{◌≡◌, ℕ, List, [], ◌∷◌, Option, Some, None, Result, Ok, Err, codes}
use Rattle.std.specs.Option.{option_map}
use Rattle.kc_text.specs.declared.errors.Fail.{Fail}
use Rattle.kc_text.specs.Fail.{IfCause}
use Rattle.kc_core.specs.declared.tree.TypeTree.TheVariants as type_is
use Rattle.kc_core.specs.declared.tree.Core.{Core}
use Rattle.kc_core.specs.declared.tree.Kind.TheVariants as core
use Rattle.kc_core.specs.declared.tree.Local.{Local}
use Rattle.kc_core.specs.declared.tree.Function.{Function}
use Rattle.kc_core.specs.declared.tree.Program.{Program}
use Rattle.form_parser.specs.declared.tokens.NotBuilt.{NotBuilt}
use Rattle.form_parser.specs.declared.surface.Source.{Source}
use Rattle.form_elaboration.specs.declared.scope.Scope.{Scope}
use Rattle.form_elaboration.specs.Nodes.{span, node}
use Rattle.form_elaboration.specs.Statements.{Several, statements_of}

-- nothing is declared
abbrev pub no_scope : Scope
no_scope = record { visible = []; locals = []; loops = [] }

abbrev pub main_function : ℕ → Source → List Core → List Local → Function
main_function file source parts locals = record {
  name = codes "main";
  span = span file source.name;
  params = 0;
  result = type_is.Unit;
  locals = locals;
  body = node file source.body type_is.Unit (core.Block parts);
}

abbrev pub program_with : ℕ → Source → List Core → List Local → Program
program_with file source parts locals = record { functions = main_function file source parts locals ∷ [] }

abbrev pub main_program : ℕ → Source → Several → Program
main_program file source inside = program_with file source inside.parts inside.scope.locals

-- the program whose one function is `main`
abbrev pub program_of : ℕ → List ℕ → Source → Option Program
program_of file text source = option_map (main_program file source) (statements_of file text source.statements no_scope)

-- Ok exactly where there is a program, with that one. The one other cause is a want of memory.
abbrev pub Gives : Option Program → Result Program (Fail NotBuilt) → Type 0
Gives o (Ok program) = o ≡ Some program
Gives o (Err cause) = IfCause cause (λ _. o ≡ None)

-- Elaborated programs are well formed, and have one function, `main`.
use Rattle.std.proofs.Common.{◌≡◌, ℕ, List, Some, refl, sym, subst}
use Rattle.kc_core.specs.declared.tree.TypeTree.TheVariants as type_is
use Rattle.kc_core.specs.declared.tree.Kind.TheVariants as core
use Rattle.kc_core.specs.declared.tree.Kind.TheViews.{outs-Block}
use Rattle.kc_core.specs.declared.tree.Program.{Program}
use Rattle.kc_core.specs.Formed.{none_assigned, FormedMain, MainFormed}
use Rattle.kc_core.specs.Formed as formed
use Rattle.form_parser.specs.declared.surface.Source.{Source}
use Rattle.form_parser.specs.declared.surface.Statement.{Statement}
use Rattle.form_elaboration.specs.Nodes.{node}
use Rattle.form_elaboration.specs.Statements.{Several, statement_of, statements_of}
use Rattle.form_elaboration.specs.Elaboration.{no_scope, main_function, main_program, program_of}
use Rattle.form_elaboration.specs.Laws.{IsMainAlone}
use Rattle.form_elaboration.proofs.Fits.{mapped, front_same}
use Rattle.form_elaboration.proofs.FormedStatements.{in_turn_sound, every_statement}

main_formed : (file : ℕ) (text : List ℕ) (source : Source) (inside : Several) → statements_of file text source.statements no_scope ≡ Some inside → FormedMain (main_function file source inside.parts inside.scope.locals)
main_formed file text source inside h =
    let all = in_turn_sound Statement (statement_of file text) (every_statement file text) source.statements no_scope inside h in
    let k = all.after inside.scope.locals (front_same inside.scope.locals) none_assigned tt in
    record {
      no_parameters = refl;
      result = refl;
      after = k.assigned;
      body = formed.Block (node file source.body type_is.Unit (core.Block inside.parts)) inside.parts none_assigned k.assigned (outs-Block inside.parts) (sym k.typed) k.formed;
    }

pub program_formed : (file : ℕ) (text : List ℕ) (source : Source) (program : Program) → program_of file text source ≡ Some program → MainFormed program 0
program_formed file text source program h =
    let m = mapped (main_program file source) (statements_of file text source.statements no_scope) h in
    subst (λ (p : Program). MainFormed p 0) (sym m.is_it) (main_function file source m.value.parts m.value.scope.locals, refl, main_formed file text source m.value m.was)

pub program_is_main : (file : ℕ) (text : List ℕ) (source : Source) (program : Program) → program_of file text source ≡ Some program → IsMainAlone program
program_is_main file text source program h =
    let m = mapped (main_program file source) (statements_of file text source.statements no_scope) h in
    subst IsMainAlone (sym m.is_it) (record { has_main = record { main = main_function file source m.value.parts m.value.scope.locals; is = refl; named = refl }; alone = refl })

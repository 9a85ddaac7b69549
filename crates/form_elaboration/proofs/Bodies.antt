-- A body's node, from those of its statements.
use Rattle.std.proofs.Common.{◌≡◌, ℕ, List, Some, sym, ap, ◌∙◌}
use Rattle.std.specs.Option.{option_map}
use Rattle.kc_core.specs.declared.tree.TypeTree.TheVariants as type_is
use Rattle.kc_core.specs.declared.tree.Core.{Core}
use Rattle.kc_core.specs.declared.tree.Kind.TheVariants as core
use Rattle.form_parser.specs.declared.surface.Body.{Body}
use Rattle.form_parser.specs.declared.surface.Statement.{Statement}
use Rattle.form_parser.specs.declared.surface.Statement.TheFolds.{fold_out-Body}
use Rattle.form_elaboration.specs.declared.scope.Visible.{Visible}
use Rattle.form_elaboration.specs.declared.scope.Scope.{Scope}
use Rattle.form_elaboration.specs.Nodes.{node}
use Rattle.form_elaboration.specs.Statements.{Elaborated, step, all_stepped, statement_layer, closing, body_layer, statement_of, body_of, statements_of}

body_is : (file : ℕ) (text : List ℕ) (b : Body) (scope : Scope) → body_of file text b scope ≡ option_map (closing file b.place scope) (statements_of file text b.statements scope)
unfolding statement_of body_of
body_is file text b scope = ap (λ (f : Elaborated). f scope) (fold_out-Body Elaborated Elaborated (statement_layer file text) (body_layer file) b)

-- a body's node, once its statements are elaborated
pub body_closed : (file : ℕ) (text : List ℕ) (b : Body) (scope inside : Scope) (ss : List Statement) (parts : List Core) (before : List Visible) (e : Core)
    → all_stepped (Some parts) inside ≡ statements_of file text ss scope → ss ≡ b.statements → before ≡ scope.visible → e ≡ node file b.place type_is.Unit (core.Block parts)
    → Some (step e (record { visible = before; locals = inside.locals; loops = inside.loops })) ≡ body_of file text b scope
body_closed file text b scope inside ss parts before e h s v n =
    ap (λ (c : Core). Some (step c (record { visible = before; locals = inside.locals; loops = inside.loops }))) n
    ∙ ap (λ (l : List Visible). Some (step (node file b.place type_is.Unit (core.Block parts)) (record { visible = l; locals = inside.locals; loops = inside.loops }))) v
    ∙ ap (option_map (closing file b.place scope)) (h ∙ ap (λ l. statements_of file text l scope) s)
    ∙ sym (body_is file text b scope)

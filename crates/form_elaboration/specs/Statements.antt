-- The elaborated tree of a statement, and what is in scope behind it. There is none where a name that is in scope is declared, where
-- what is assigned isn't a `var` in scope of the value's type, or where a condition isn't of type Boolean.
use Rattle.std.specs.Prelude.{ℕ, Bool, List, [], ◌∷◌, ◌++◌, map, length, Option, Some, None, is_some, if◌then◌else◌, option_and_then}
use Rattle.std.specs.Option.{option_map}
use Rattle.kc_core.specs.declared.tree.TypeTree.TheVariants as type_is
use Rattle.kc_core.specs.declared.tree.Core.{Core}
use Rattle.kc_core.specs.declared.tree.Kind.TheVariants as core
use Rattle.form_parser.specs.declared.tokens.Place.{Place}
use Rattle.form_parser.specs.declared.surface.Expression.{Expression}
use Rattle.form_parser.specs.declared.surface.Body.{Body}
use Rattle.form_parser.specs.declared.surface.Statement.{Statement}
use Rattle.form_parser.specs.declared.surface.Statement.TheFolds.{fold-Statement, fold-Body}
use Rattle.form_parser.specs.declared.surface.Statement.TheOpen.{Statement-F, Body-F}
use Rattle.form_elaboration.specs.declared.scope.Visible.{Visible}
use Rattle.form_elaboration.specs.declared.scope.Scope.{Scope}
use Rattle.form_elaboration.specs.Names.{found}
use Rattle.form_elaboration.specs.Nodes.{node, printing}
use Rattle.form_elaboration.specs.Expressions.{of_type, expression_of}

-- a node, and the scope behind it
pub record Step : Type 0 where
  pub node : Core
  pub scope : Scope

-- what an elaboration in a scope comes to
abbrev pub Elaborated : Type 0
Elaborated = Scope → Option Step

abbrev pub step : Core → Scope → Step
step e s = record { node = e; scope = s }

-- the node, where there is one, and the scope behind it
abbrev pub stepped : Option Core → Scope → Option Step
stepped o s = option_map (λ (e : Core). step e s) o

-- a new local with this value, and with the next number. It is in scope behind its declaration.
abbrev pub declaring : ℕ → Place → Bool → Place → Scope → Core → Step
declaring file p is_var name s value =
    let x = length s.locals in
    step (node file p type_is.Unit (core.Declare x (Some value))) (record {
      visible = s.visible ++ record { name = name; local = x; ty = value.ty; is_var = is_var } ∷ [];
      locals = s.locals ++ record { name = x; ty = value.ty; is_var = is_var } ∷ [];
      loops = s.loops;
    })

-- a declaration's name is not in scope yet, and so not in its own value
abbrev pub declaration_of : ℕ → List ℕ → Place → Bool → Place → Expression → Elaborated
declaration_of file text p is_var name value s =
    if is_some (found text s.visible name) then None else option_map (declaring file p is_var name s) (expression_of file text s.visible value)

abbrev pub assigning : ℕ → Place → Visible → Core → Core
assigning file p v value = node file p type_is.Unit (core.LocalWrite v.local value)

-- what is assigned is a `var`, and the value is of its type
abbrev pub assignment_of : ℕ → List ℕ → Place → Place → Expression → List Visible → Option Core
assignment_of file text p name value visible =
    option_and_then (λ (v : Visible). if v.is_var then option_map (assigning file p v) (of_type v.ty (expression_of file text visible value)) else None) (found text visible name)

-- a condition, which is of type Boolean
abbrev pub condition_of : ℕ → List ℕ → Expression → Scope → Option Core
condition_of file text test s = of_type type_is.Boolean (expression_of file text s.visible test)

abbrev pub choosing : ℕ → Place → Core → Core → Option Core → Core
choosing file p test held failed = node file p type_is.Unit (core.If test held failed)

-- a choice, from its condition and its first body on
abbrev pub other_way : ℕ → Place → Option Elaborated → Core → Step → Option Step
other_way file p None test held = Some (step (choosing file p test held.node None) held.scope)
other_way file p (Some failed) test held =
    option_map (λ (other : Step). step (choosing file p test held.node (Some other.node)) other.scope) (failed held.scope)

abbrev pub choice_of : ℕ → List ℕ → Place → Expression → Elaborated → Option Elaborated → Elaborated
choice_of file text p test held failed s = option_and_then (λ (t : Core). option_and_then (other_way file p failed t) (held s)) (condition_of file text test s)

-- a loop gets the next label, and those in its body get later ones
abbrev pub in_loop : Place → Scope → Scope
in_loop p s = record { visible = s.visible; locals = s.locals; loops = s.loops ++ p ∷ [] }

abbrev pub repeated : ℕ → Place → ℕ → Core → Core → Core
repeated file p label test body = node file p type_is.Unit (core.While label test body)

abbrev pub repeating : ℕ → Place → ℕ → Core → Step → Step
repeating file p label test body = step (repeated file p label test body.node) body.scope

abbrev pub repetition_of : ℕ → List ℕ → Place → Expression → Elaborated → Elaborated
repetition_of file text p test body s = option_and_then (λ (t : Core). option_map (repeating file p (length s.loops) t) (body (in_loop p s))) (condition_of file text test s)

-- a statement, where the bodies in it are elaborated
abbrev pub statement_layer : ℕ → List ℕ → Statement-F Elaborated Elaborated → Elaborated
statement_layer file text (Statement-F.Declare p is_var name value) s = declaration_of file text p is_var name value s
statement_layer file text (Statement-F.Assign p name value) s = stepped (assignment_of file text p name value s.visible) s
statement_layer file text (Statement-F.Print p value) s = stepped (option_map (printing file p) (expression_of file text s.visible value)) s
statement_layer file text (Statement-F.If p test held failed) s = choice_of file text p test held failed s
statement_layer file text (Statement-F.While p test body) s = repetition_of file text p test body s

-- the nodes of statements, and the scope behind them
pub record Several : Type 0 where
  pub parts : List Core
  pub scope : Scope

-- the nodes, where there are some, and the scope behind them
abbrev pub all_stepped : Option (List Core) → Scope → Option Several
all_stepped o s = option_map (λ (es : List Core). record { parts = es; scope = s }) o

abbrev pub followed : Core → Several → Several
followed e more = record { parts = e ∷ more.parts; scope = more.scope }

-- statements in order, each in the scope behind the ones before
abbrev pub in_turn : List Elaborated → Scope → Option Several
in_turn [] s = Some (record { parts = []; scope = s })
in_turn (f ∷ fs) s = option_and_then (λ (e : Step). option_map (followed e.node) (in_turn fs e.scope)) (f s)

-- Behind a body its locals are no longer in scope, but keep their numbers.
abbrev pub closing : ℕ → Place → Scope → Several → Step
closing file p before inside =
    step (node file p type_is.Unit (core.Block inside.parts)) (record { visible = before.visible; locals = inside.scope.locals; loops = inside.scope.loops })

abbrev pub body_layer : ℕ → Body-F Elaborated Elaborated → Elaborated
body_layer file b s = option_map (closing file b.place s) (in_turn b.statements s)

-- a statement, by its layers
unfoldable pub statement_of : ℕ → List ℕ → Statement → Elaborated
statement_of file text s = fold-Statement Elaborated Elaborated (statement_layer file text) (body_layer file) s

unfoldable pub body_of : ℕ → List ℕ → Body → Elaborated
body_of file text b = fold-Body Elaborated Elaborated (statement_layer file text) (body_layer file) b

abbrev pub statements_of : ℕ → List ℕ → List Statement → Scope → Option Several
statements_of file text ss s = in_turn (map (statement_of file text) ss) s

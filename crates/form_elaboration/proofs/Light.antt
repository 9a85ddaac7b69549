-- Each program of the form is light.
use Rattle.std.proofs.Common.{◌≡◌, ℕ, zero, suc, ◌+◌, ◌*◌, ◌≤◌, List, [], ◌∷◌, length, Some, subst, arith}
use Rattle.std.specs.Prelude.{slice_get}
use Rattle.kc_core.specs.declared.tree.TypeTree.TheVariants as type_is
use Rattle.kc_core.specs.declared.tree.Function.{Function}
use Rattle.kc_core.specs.declared.tree.Kind.TheVariants as core
use Rattle.kc_core.specs.declared.tree.Program.{Program}
use Rattle.kc_core.specs.Room.{with_each, kind_weight}
use Rattle.kc_core.specs.Sizes.{total, kind_nodes, kind_units}
use Rattle.form_parser.specs.declared.surface.Source.{Source}
use Rattle.form_parser.specs.declared.surface.Statement.{Statement}
use Rattle.form_parser.specs.Sizes.{statement_size, statements_size}
use Rattle.form_parser.proofs.Sizes.{size_within_bytes}
use Rattle.form_elaboration.specs.Nodes.{node}
use Rattle.form_elaboration.specs.Statements.{Several, statement_of, statements_of}
use Rattle.form_elaboration.specs.Elaboration.{no_scope, main_function, main_program}
use Rattle.form_elaboration.specs.Light.{IsLight, ProgramsAreLight}
use Rattle.form_elaboration.proofs.Fits.{same_value, none_or_some, mapped}
use Rattle.form_elaboration.proofs.Counts.{Count, counted, ExpressionsPay, StatementsPay}
use Rattle.form_elaboration.proofs.PaidStatements.{in_turn_pays, block_pays, every_statement}

-- ---- weights: 54 for a token

abbrev weighs : ℕ → ℕ → Type 0
weighs w s = w + 38 ≤ 54 * s

abbrev statement_weighs : ℕ → ℕ → Type 0
statement_weighs w s = w + 2 ≤ 54 * s

abbrev body_weighs : ℕ → ℕ → Type 0
body_weighs w s = w ≤ 54 * s

abbrev all_weigh : List ℕ → ℕ → Type 0
all_weigh ws s = with_each 2 ws ≤ 54 * s

expressions_weigh : ExpressionsPay kind_weight weighs
expressions_weigh = record {
  number = λ n. omega arith;
  truth = λ b. omega arith;
  name = λ x. omega arith;
  negation = λ a s h. omega (arith, h);
  opposite = λ a s h. omega (arith, h);
  binary = λ op a b s t h k. omega (arith, h, k);
  compare = λ order a b s t h k. omega (arith, h, k);
  equal = λ a b s t h k. omega (arith, h, k);
  unequal = λ a b s t h k. omega (arith, h, k);
  both = λ a b s t h k. omega (arith, h, k);
  either = λ a b s t h k. omega (arith, h, k);
}

statements_weigh : StatementsPay kind_weight weighs statement_weighs body_weighs all_weigh
statements_weigh = record {
  declare = λ x a s h. omega (arith, h);
  assign = λ x a s h. omega (arith, h);
  print = λ a s h. omega (arith, h);
  held = λ a b s t h k. omega (arith, h, k);
  either = λ a b c s t u h k l. omega (arith, h, k, l);
  repeated = λ x a b s t h k. omega (arith, h, k);
  none = omega arith;
  next = λ a ns s t h k. omega (arith, h, k);
  body = λ ns t h. h;
}

-- ---- nodes: three for two tokens

abbrev has_nodes : ℕ → ℕ → Type 0
has_nodes n s = 2 * n + 1 ≤ 3 * s

abbrev statement_has_nodes : ℕ → ℕ → Type 0
statement_has_nodes n s = 2 * n ≤ 3 * s

abbrev body_has_nodes : ℕ → ℕ → Type 0
body_has_nodes n s = 2 * n ≤ 3 * s + 2

abbrev all_have_nodes : List ℕ → ℕ → Type 0
all_have_nodes ns s = 2 * total ns ≤ 3 * s

expressions_have_nodes : ExpressionsPay kind_nodes has_nodes
expressions_have_nodes = record {
  number = λ n. omega arith;
  truth = λ b. omega arith;
  name = λ x. omega arith;
  negation = λ a s h. omega (arith, h);
  opposite = λ a s h. omega (arith, h);
  binary = λ op a b s t h k. omega (arith, h, k);
  compare = λ order a b s t h k. omega (arith, h, k);
  equal = λ a b s t h k. omega (arith, h, k);
  unequal = λ a b s t h k. omega (arith, h, k);
  both = λ a b s t h k. omega (arith, h, k);
  either = λ a b s t h k. omega (arith, h, k);
}

statements_have_nodes : StatementsPay kind_nodes has_nodes statement_has_nodes body_has_nodes all_have_nodes
statements_have_nodes = record {
  declare = λ x a s h. omega (arith, h);
  assign = λ x a s h. omega (arith, h);
  print = λ a s h. omega (arith, h);
  held = λ a b s t h k. omega (arith, h, k);
  either = λ a b c s t u h k l. omega (arith, h, k, l);
  repeated = λ x a b s t h k. omega (arith, h, k);
  none = omega arith;
  next = λ a ns s t h k. omega (arith, h, k);
  body = λ ns t h. omega (arith, h);
}

-- ---- units of texts: one for four tokens

abbrev has_units : ℕ → ℕ → Type 0
has_units n s = 4 * n + 1 ≤ s

abbrev part_has_units : ℕ → ℕ → Type 0
part_has_units n s = 4 * n ≤ s

abbrev all_have_units : List ℕ → ℕ → Type 0
all_have_units ns s = 4 * total ns ≤ s

expressions_have_units : ExpressionsPay kind_units has_units
expressions_have_units = record {
  number = λ n. omega arith;
  truth = λ b. omega arith;
  name = λ x. omega arith;
  negation = λ a s h. omega (arith, h);
  opposite = λ a s h. omega (arith, h);
  binary = λ op a b s t h k. omega (arith, h, k);
  compare = λ order a b s t h k. omega (arith, h, k);
  equal = λ a b s t h k. omega (arith, h, k);
  unequal = λ a b s t h k. omega (arith, h, k);
  both = λ a b s t h k. omega (arith, h, k);
  either = λ a b s t h k. omega (arith, h, k);
}

statements_have_units : StatementsPay kind_units has_units part_has_units part_has_units all_have_units
statements_have_units = record {
  declare = λ x a s h. omega (arith, h);
  assign = λ x a s h. omega (arith, h);
  print = λ a s h. omega (arith, h);
  held = λ a b s t h k. omega (arith, h, k);
  either = λ a b c s t u h k l. omega (arith, h, k, l);
  repeated = λ x a b s t h k. omega (arith, h, k);
  none = omega arith;
  next = λ a ns s t h k. omega (arith, h, k);
  body = λ ns t h. h;
}

-- ---- programs

-- the count of the whole body, and the locals
record Whole (m : Count) (B : ℕ → ℕ → Type 0) (file : ℕ) (source : Source) (inside : Several) : Type 0 where
  counts : B (counted m (node file source.body type_is.Unit (core.Block inside.parts))) (statements_size source.statements)
  locals : 4 * length inside.scope.locals ≤ statements_size source.statements

whole : (file : ℕ) (text : List ℕ) (source : Source) (inside : Several) (m : Count) (E S B : ℕ → ℕ → Type 0) (P : List ℕ → ℕ → Type 0) → ExpressionsPay m E → StatementsPay m E S B P
    → statements_of file text source.statements no_scope ≡ Some inside → Whole m B file source inside
whole file text source inside m E S B P expressions pays h =
    let all = in_turn_pays file text m E S B P expressions pays Statement (statement_of file text) statement_size (every_statement file text m E S B P expressions pays) source.statements no_scope inside h in
    let locals = all.locals in
    record { counts = block_pays file text m E S B P expressions pays source.body inside.parts (statements_size source.statements) all.counts; locals = omega arith }

main_light : (file : ℕ) (text : List ℕ) (source : Source) (inside : Several) → statements_size source.statements ≤ 250 → statements_of file text source.statements no_scope ≡ Some inside
    → IsLight (main_function file source inside.parts inside.scope.locals)
main_light file text source inside short h =
    let w = whole file text source inside kind_weight weighs statement_weighs body_weighs all_weigh expressions_weigh statements_weigh h in
    let n = whole file text source inside kind_nodes has_nodes statement_has_nodes body_has_nodes all_have_nodes expressions_have_nodes statements_have_nodes h in
    let u = whole file text source inside kind_units has_units part_has_units part_has_units all_have_units expressions_have_units statements_have_units h in
    let weight = w.counts in
    let nodes = n.counts in
    let units = u.counts in
    let locals = u.locals in
    record { weight = omega arith; nodes = omega arith; locals = omega arith; text_units = omega arith }

-- the one function of a program with one
only : (f g : Function) (n : ℕ) → slice_get (f ∷ []) n ≡ Some g → f ≡ g
only f g zero h = same_value h
only f g (suc n) h = none_or_some h

pub programs_light : ProgramsAreLight
programs_light file bytes program form n f h =
    let source = form.source in
    let k = mapped (main_program file source) (statements_of file bytes source.statements no_scope) form.elaborates in
    let inside = k.value in
    let size = size_within_bytes bytes source form.is_written in
    let short = form.is_written.short in
    let few : statements_size source.statements ≤ 250 = omega arith in
    subst IsLight (only (main_function file source inside.parts inside.scope.locals) f n (subst (λ (p : Program). slice_get p.functions n ≡ Some f) k.is_it h)) (main_light file bytes source inside few k.was)

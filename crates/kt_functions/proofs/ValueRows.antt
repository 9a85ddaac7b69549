-- The steps of the functions that read default values and bodies.
use Rattle.std.proofs.Common.{◌≡◌, ℕ, ◌≤◌, max, Bool, true, false, List, [], ◌∷◌, length, drop, Option, Some, None, refl, ap, ◌∙◌, arith}
use Rattle.grammars.specs.Grammar.{row, Cst, none, leaf, node, pair, left, right, first, test, Derives, d_nothing, d_one, d_row, d_both, d_right, d_left, d_done, Reads, r_one, r_both, Productive}
use Rattle.kc_text.specs.declared.errors.Fail.{Fail}
use Rattle.kc_tree.specs.declared.decl.FunBody.{FunBody}
use Rattle.kc_tree.specs.declared.decl.FunBody.TheVariants as fun_body
use Rattle.kc_tree.specs.declared.expr.Expr.{Expr}
use Rattle.kt_bodies.proofs.TryRows.{has_block}
use Rattle.kt_functions.specs.Values.{begins_body, block_body, value_body}
use Rattle.kt_lexer.specs.declared.token.Token.{Token}
use Rattle.kt_lexer.specs.declared.token.Operator.TheVariants as operator
use Rattle.kt_grammar.specs.declared.cursor.Cursor.{Cursor}
use Rattle.kt_grammar.specs.Built.{block_statements, expression_of}
use Rattle.kt_grammar.specs.DeclarationsBuilt as built
use Rattle.kt_grammar.specs.Moves.{Moved}
use Rattle.kt_grammar.specs.Parsed.{Advanced, Halts}
use Rattle.kt_grammar.specs.Rows as rows
use Rattle.kt_grammar.specs.Rows.{Row, grammar}
use Rattle.kt_grammar.specs.Tokens.{is_op}
use Rattle.kt_grammar.proofs.Advances.{halts_row, halts_left, halts_right}
use Rattle.kt_grammar.proofs.SingleTokens.{a_name}
use Rattle.kt_grammar.proofs.Steps.{standing, read_one, read_both, read_row, read_first, read_second, read_nothing}

-- ---- parts have derivations

abbrev turn_tree : Cst Token → Cst Token
turn_tree x = node (pair x none)

abbrev prefix_tree : Cst Token
prefix_tree = node (right (node (pair (node (right (left (leaf a_name)))) none)))

abbrev named_tree : Cst Token
named_tree = turn_tree (turn_tree (turn_tree (turn_tree (turn_tree (turn_tree (turn_tree prefix_tree))))))

abbrev expression_tree : Cst Token
expression_tree = turn_tree (turn_tree (turn_tree (node (pair named_tree (right none)))))

-- a name is an expression
an_expression : Derives grammar (row rows.expression) (a_name ∷ []) expression_tree []
an_expression = d_row (d_both (d_row (d_both (d_row (d_both (d_row (d_both (d_row (d_both (d_row (d_both (d_row (d_both (d_row (d_both (d_row (d_both (d_row (d_both (d_row (d_both
    (d_row (d_right (d_row (d_both (d_row (d_right (d_left (d_one refl)))) d_done)))) d_done)) d_done)) d_done)) d_done)) d_done)) d_done)) d_done)) (d_right d_nothing))) d_done)) d_done)) d_done)

pub has_expression : Productive grammar (row rows.expression)
has_expression = (a_name ∷ [], expression_tree, an_expression)

pub has_default : Productive grammar rows.default
has_default = ([], right none, d_right d_nothing)

pub has_body : Productive grammar (row rows.body)
has_body = let k = has_block in (k.0, node (left k.1), d_row (d_left k.2))

pub has_written_body : (b : Bool) → Productive grammar (rows.body_of_function b)
has_written_body true = ([], none, d_nothing)
has_written_body false = ([], right none, d_right d_nothing)

-- ---- default values

pub no_default : {ts : List Token} {start : Cursor} → start.at ≤ length ts → test (is_op operator.Assign) (first (drop start.at ts)) ≡ false → Advanced rows.default built.value_of ts start start None
no_default w h = record { tree = right none; looked = 0; read = read_second h (read_nothing w); builds = refl; so_far = omega arith }

pub default_from : {ts : List Token} {start mid end : Cursor} {x : Expr} → Moved (is_op operator.Assign) ts start mid → Advanced (row rows.expression) expression_of ts mid end x → Advanced rows.default built.value_of ts start end (Some x)
default_from o p = record {
  tree = left (pair (leaf o.taken.token) p.tree);
  looked = max 0 p.looked;
  read = read_first (standing o.taken) (read_both (read_one o.taken) p.read);
  builds = ap Some p.builds;
  so_far = omega (arith, o.so_far, p.so_far);
}

-- ---- bodies

pub block_from : {ts : List Token} {start end : Cursor} {xs : List Expr} → Advanced (row rows.block) block_statements ts start end xs → Advanced (row rows.block) block_body ts start end (fun_body.Block xs)
block_from p = record { tree = p.tree; looked = p.looked; read = p.read; builds = ap (λ xs. fun_body.Block xs) p.builds; so_far = p.so_far }

pub value_from : {ts : List Token} {start mid end : Cursor} {x : Expr} → Moved (is_op operator.Assign) ts start mid → Advanced (row rows.expression) expression_of ts mid end x → Advanced rows.value value_body ts start end (fun_body.Expr x)
value_from o p = record {
  tree = pair (leaf o.taken.token) p.tree;
  looked = max 0 p.looked;
  read = read_both (read_one o.taken) p.read;
  builds = ap (λ x. fun_body.Expr x) p.builds;
  so_far = omega (arith, o.so_far, p.so_far);
}

pub body_block : {ts : List Token} {start end : Cursor} {b : FunBody} → test (is_op operator.OpenBrace) (first (drop start.at ts)) ≡ true → Advanced (row rows.block) block_body ts start end b
    → Advanced (row rows.body) built.body_of ts start end (Some b)
body_block h p = record { tree = node (left p.tree); looked = p.looked; read = read_row (read_first h p.read); builds = ap Some p.builds; so_far = p.so_far }

body_built : {ts r : List Token} {c : Cst Token} → Reads grammar rows.value ts c r → Some (value_body c) ≡ built.body_of (node (right c))
body_built (r_both (r_one h) d) = refl

pub body_value : {ts : List Token} {start end : Cursor} {b : FunBody} → test (is_op operator.OpenBrace) (first (drop start.at ts)) ≡ false → Advanced rows.value value_body ts start end b
    → Advanced (row rows.body) built.body_of ts start end (Some b)
body_value h p = record { tree = node (right p.tree); looked = p.looked; read = read_row (read_second h p.read); builds = ap Some p.builds ∙ body_built p.read.reads; so_far = p.so_far }

pub block_halts : {ts : List Token} {start : Cursor} {e : Fail ℕ} → start.at ≤ length ts → test (is_op operator.OpenBrace) (first (drop start.at ts)) ≡ true → Halts (row rows.block) ts start e → Halts (row rows.body) ts start e
block_halts w h k = halts_row (halts_left w h k)

pub value_halts : {ts : List Token} {start : Cursor} {e : Fail ℕ} → start.at ≤ length ts → test (is_op operator.OpenBrace) (first (drop start.at ts)) ≡ false → Halts rows.value ts start e → Halts (row rows.body) ts start e
value_halts w h k = halts_row (halts_right w h k)

-- ---- bodies that may be left out

pub abstract_body : (b : Bool) {ts : List Token} {start : Cursor} → b ≡ true → start.at ≤ length ts → Advanced (rows.body_of_function b) built.written_body ts start start None
abstract_body true e w = record { tree = none; looked = 0; read = read_nothing w; builds = refl; so_far = omega arith }
abstract_body false e w = absurd (cc)

pub no_body : (b : Bool) {ts : List Token} {start : Cursor} → b ≡ false → start.at ≤ length ts → test begins_body (first (drop start.at ts)) ≡ false → Advanced (rows.body_of_function b) built.written_body ts start start None
no_body true e w h = absurd (cc)
no_body false e w h = record { tree = right none; looked = 0; read = read_second h (read_nothing w); builds = refl; so_far = omega arith }

pub some_body : (b : Bool) {ts : List Token} {start end : Cursor} {x : Option FunBody} → b ≡ false → test begins_body (first (drop start.at ts)) ≡ true → Advanced (row rows.body) built.body_of ts start end x
    → Advanced (rows.body_of_function b) built.written_body ts start end x
some_body true e h p = absurd (cc)
some_body false e h p = record { tree = left p.tree; looked = p.looked; read = read_first h p.read; builds = p.builds; so_far = p.so_far }

pub body_halts : (b : Bool) {ts : List Token} {start : Cursor} {x : Fail ℕ} → b ≡ false → start.at ≤ length ts → test begins_body (first (drop start.at ts)) ≡ true → Halts (row rows.body) ts start x → Halts (rows.body_of_function b) ts start x
body_halts true e w h k = absurd (cc)
body_halts false e w h k = halts_left w h k

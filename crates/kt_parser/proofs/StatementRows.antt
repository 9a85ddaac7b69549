-- The steps of the functions that read statements.
use Rattle.std.proofs.Common.{◌≡◌, ℕ, ◌≤◌, max, true, false, List, length, drop, Result, Ok, Err, refl, sym, ap, ◌∙◌, arith}
use Rattle.grammars.specs.Grammar.{Part, next, one, row, both, choose, guard, Cst, leaf, node, pair, left, right, first, test, Reads, r_one, r_both, r_left, r_right, d_right, Productive}
use Rattle.kc_text.specs.declared.errors.Fail.{Fail}
use Rattle.kc_tree.specs.declared.expr.Expr.{Expr}
use Rattle.kt_parser.specs.Statements as spec
use Rattle.kt_lexer.specs.declared.token.Token.{Token}
use Rattle.kt_grammar.specs.declared.cursor.Cursor.{Cursor}
use Rattle.kt_grammar.specs.Built as built
use Rattle.kt_grammar.specs.Parsed.{Advanced, Advances}
use Rattle.kt_grammar.specs.Rows as rows
use Rattle.kt_grammar.specs.Rows.{Row, grammar}
use Rattle.kt_grammar.specs.Signs.{TokenTaken}
use Rattle.kt_grammar.specs.Tokens.{is_prefix, is_local, is_assignment, unmarked}
use Rattle.kt_grammar.specs.Turns as turns
use Rattle.kt_grammar.proofs.Advances.{halts_as, halts_left, halts_right, halts_after, halts_second, refused_guard, read_guard}
use Rattle.kt_grammar.proofs.OperatorRows.{has_signed}
use Rattle.kt_grammar.proofs.Steps.{standing, read_one, read_both, read_first, read_second}
use Rattle.kt_grammar.proofs.TurnRows.{operators_are, has_operators}

-- ---- behind a postfix expression

pub place_set : {ts : List Token} {start mid : Cursor} {t : Token} (x : Expr) → start.at ≤ length ts → TokenTaken (unmarked is_assignment) ts start mid t → (r : Result (Expr × Cursor) (Fail ℕ))
    → Advances (row rows.expression) (λ c. spec.assigned x t (built.expression_of c)) ts mid r → Advances spec.placed (spec.placed_of x) ts start r
place_set x w o (Ok k) p = record {
  tree = left (pair (leaf o.taken.token) p.tree);
  looked = max 0 p.looked;
  read = read_first (standing o.taken) (read_both (read_one o.taken) p.read);
  builds = p.builds ∙ ap (λ (t : Token). spec.assigned x t (built.expression_of p.tree)) o.same;
  so_far = omega (arith, o.so_far, p.so_far);
}
place_set x w o (Err e) p = halts_left w (standing o.taken) (halts_after o.taken o.so_far p)

pub place_not_set : (ts : List Token) (start : Cursor) (x : Expr) → start.at ≤ length ts → test (unmarked is_assignment) (first (drop start.at ts)) ≡ false → (r : Result (Expr × Cursor) (Fail ℕ))
    → Advances turns.cast_on (turns.cast_on_of x) ts start r → Advances spec.placed (spec.placed_of x) ts start r
place_not_set ts start x w h (Ok k) p = record { tree = right p.tree; looked = p.looked; read = read_second h p.read; builds = p.builds ∙ operators_are x p.read.reads; so_far = p.so_far }
place_not_set ts start x w h (Err e) p = halts_right w h p

pub has_placed : Productive grammar spec.placed
has_placed = let k = has_operators in (k.0, right k.1, d_right k.2)

placed_is : {us rest : List Token} {d : Cst Token} (c : Cst Token) → Reads grammar spec.placed us d rest → spec.no_prefix_of (pair c d) ≡ spec.placed_of (built.postfix_of c) d
placed_is c (r_left h (r_both (r_one k) d)) = refl
placed_is c (r_right h d) = refl

pub placed_from : {ts : List Token} {start mid : Cursor} {x : Expr} → Advanced (row rows.postfix) built.postfix_of ts start mid x → (r : Result (Expr × Cursor) (Fail ℕ))
    → Advances spec.placed (spec.placed_of x) ts mid r → Advances spec.no_prefix spec.no_prefix_of ts start r
placed_from p (Ok k) q = record {
  tree = pair p.tree q.tree;
  looked = max p.looked q.looked;
  read = read_both p.read q.read;
  builds = q.builds ∙ ap (λ (z : Expr). spec.placed_of z q.tree) p.builds ∙ sym (placed_is p.tree q.read.reads);
  so_far = omega (arith, p.so_far, q.so_far);
}
placed_from p (Err e) q = halts_second p.read p.so_far q

-- ---- an expression that begins with a prefix operator

pub signed_from : (ts : List Token) (start : Cursor) → start.at ≤ length ts → test is_prefix (first (drop start.at ts)) ≡ true → (r : Result (Expr × Cursor) (Fail ℕ))
    → Advances (row rows.expression) built.expression_of ts start r → Advances (guard (next is_prefix) (row rows.expression)) spec.signed_of ts start r
signed_from ts start w h (Ok k) p = record { tree = node p.tree; looked = p.looked; read = read_guard refl h p.read; builds = p.builds; so_far = p.so_far }
signed_from ts start w h (Err e) p = halts_as (λ place r. refused_guard w h has_signed r) p

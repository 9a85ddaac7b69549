-- The steps of the functions that read branches.
use Rattle.std.proofs.Common.{◌≡◌, ℕ, ◌≤◌, max, false, List, [], ◌∷◌, ◌++◌, length, drop, Result, Ok, Err, Option, refl, sym, ap, ◌∙◌, arith}
use Rattle.grammars.specs.Grammar.{next, row, guard, Cst, none, leaf, node, pair, left, right, first, test, d_nothing, d_one, d_row, d_both, d_left, d_right, d_guard, Reads, r_one, r_both, r_left, r_right, Productive}
use Rattle.kc_text.specs.declared.errors.Fail.{Fail}
use Rattle.kc_tree.specs.declared.fault.Span.{Span}
use Rattle.kc_tree.specs.declared.expr.Expr.{Expr}
use Rattle.kc_tree.specs.declared.expr.Cond.{Cond}
use Rattle.kc_tree.specs.declared.expr.Branch.{Branch}
use Rattle.kt_bodies.proofs.Sequences.{IsSequence, turn_part}
use Rattle.kt_bodies.proofs.StatementRows.{has_statement}
use Rattle.kt_lexer.specs.declared.token.Token.{Token}
use Rattle.kt_lexer.specs.declared.token.Keyword.TheVariants as keyword
use Rattle.kt_lexer.specs.declared.token.Operator.TheVariants as operator
use Rattle.kt_grammar.specs.declared.cursor.Cursor.{Cursor}
use Rattle.kt_grammar.specs.Built as built
use Rattle.kt_grammar.specs.Moves.{Moved}
use Rattle.kt_grammar.specs.Parsed.{Advanced, Advances}
use Rattle.kt_grammar.specs.Rows as rows
use Rattle.kt_grammar.specs.Rows.{grammar}
use Rattle.kt_grammar.specs.Tokens.{is_op, is_word}
use Rattle.kt_grammar.specs.TypesBuilt.{between}
use Rattle.kt_grammar.proofs.Advances.{halts_row, halts_right, halts_second, halts_after}
use Rattle.kt_grammar.proofs.Extents.{placed}
use Rattle.kt_grammar.proofs.Progress.{goes_on}
use Rattle.kt_grammar.proofs.SingleTokens.{word_token}
use Rattle.kt_grammar.proofs.Steps.{standing, has_both, read_one, read_both, read_row, read_first, read_second}
use Rattle.kt_grammar.proofs.TypeRows.{stretch, first_taken, has_op}
use Rattle.kt_when.specs.Branches.{begins_branch, begins_further_branch, head, conditions_of_head, begin_of, Head, ReadsHead, arrow_and_body, branch, behind_head}
use Rattle.kt_when.specs.Conditions.{ReadsConditions}

-- ---- what stands before the arrow

pub else_head : {ts : List Token} {start end : Cursor} {xs : List Cond} → Moved (is_word keyword.Else) ts start end → xs ≡ [] → Head ts start end xs
else_head o i = record {
  advanced = record { tree = left (leaf o.taken.token); looked = 0; read = read_first (standing o.taken) (read_one o.taken); builds = i; so_far = omega (arith, o.so_far) };
  begins = sym (first_taken o.taken);
}

pub conditions_head : (ts : List Token) (start : Cursor) → start.at ≤ length ts → test (is_word keyword.Else) (first (drop start.at ts)) ≡ false → (r : Result (List Cond × Cursor) (Fail ℕ)) → ReadsConditions ts start r
    → ReadsHead ts start r
conditions_head ts start w h (Ok k) q = record {
  advanced = record { tree = right q.advanced.tree; looked = q.advanced.looked; read = read_second h q.advanced.read; builds = q.advanced.builds; so_far = q.advanced.so_far };
  begins = q.begins;
}
conditions_head ts start w h (Err e) q = halts_right w h q

-- ---- one branch

pub has_arrow_and_body : Productive grammar arrow_and_body
has_arrow_and_body = has_both (has_op operator.Arrow) has_statement

branch_alike : (xs : List Cond) {s u : Span} {x y : Expr} → s ≡ u → x ≡ y → (let b : Branch = record { span = s; conds = xs; body = x } in b) ≡ record { span = u; conds = xs; body = y }
branch_alike xs f g = cc

pub body_from : (xs ys : List Branch) (begin : ℕ) (cs : List Cond) {ts : List Token} {start end : Cursor} {s : Span} {x y : Expr} → Advanced (row rows.statement) built.statement_of ts start end x → y ≡ built.as_body x
    → s ≡ stretch ts begin end.at → ys ≡ xs ++ record { span = s; conds = cs; body = y } ∷ [] → Advanced (row rows.statement) (λ c. xs ++ branch (first (drop begin ts)) cs c ∷ []) ts start end ys
body_from xs ys begin cs {ts = ts} p e f g = record {
  tree = p.tree;
  looked = p.looked;
  read = p.read;
  builds = g ∙ ap (λ b. xs ++ b ∷ []) (branch_alike cs (f ∙ ap (λ t. between (first (drop begin ts)) t) (sym (placed (goes_on refl p.read) p.read).ends)) (e ∙ ap built.as_body p.builds));
  so_far = p.so_far;
}

pub arrow_from : (xs : List Branch) (t : Option Token) (cs : List Cond) {ts : List Token} {start mid : Cursor} → Moved (is_op operator.Arrow) ts start mid → (r : Result (List Branch × Cursor) (Fail ℕ))
    → Advances (row rows.statement) (λ c. xs ++ branch t cs c ∷ []) ts mid r → Advances arrow_and_body (λ c. xs ++ behind_head t cs c ∷ []) ts start r
arrow_from xs t cs o (Ok k) q = record {
  tree = pair (leaf o.taken.token) q.tree;
  looked = max 0 q.looked;
  read = read_both (read_one o.taken) q.read;
  builds = q.builds;
  so_far = omega (arith, o.so_far, q.so_far);
}
arrow_from xs t cs o (Err e) q = halts_after o.taken o.so_far q

branch_built : {ts r us q : List Token} {c d : Cst Token} → Reads grammar head ts c r → Reads grammar arrow_and_body us d q → behind_head (begin_of c) (conditions_of_head c) d ∷ [] ≡ built.branch_of (node (pair c d))
branch_built (r_left h (r_one k)) (r_both i d) = refl
branch_built (r_right h (r_both p q)) (r_both i d) = refl

pub branch_from : (xs : List Branch) {ts : List Token} {start mid : Cursor} {cs : List Cond} → Head ts start mid cs → (r : Result (List Branch × Cursor) (Fail ℕ))
    → Advances arrow_and_body (λ c. xs ++ behind_head (first (drop start.at ts)) cs c ∷ []) ts mid r → Advances (row rows.branch) (λ c. xs ++ built.branch_of c) ts start r
branch_from xs {cs = cs} k (Ok m) q =
    let p = k.advanced in
    record {
      tree = node (pair p.tree q.tree);
      looked = max p.looked q.looked;
      read = read_row (read_both p.read q.read);
      builds = q.builds ∙ ap (λ t. xs ++ behind_head t cs q.tree ∷ []) (sym k.begins) ∙ ap (λ (us : List Cond). xs ++ behind_head (begin_of p.tree) us q.tree ∷ []) p.builds ∙ ap (λ ys. xs ++ ys) (branch_built p.read.reads q.read.reads);
      so_far = omega (arith, p.so_far, q.so_far);
    }
branch_from xs k (Err e) q = halts_row (halts_second k.advanced.read k.advanced.so_far q)

-- ---- branches

abbrev else_token : Token
else_token = word_token keyword.Else

-- `else` with a body, and nothing behind it
has_further_branch : Productive grammar (guard (next begins_further_branch) (turn_part rows.branch rows.after_branch))
has_further_branch =
    let k = has_arrow_and_body in
    (else_token ∷ k.0, node (pair (node (pair (left (leaf else_token)) k.1)) (node (right none))), d_guard refl (d_both (d_row (d_both (d_left (d_one refl)) k.2)) (d_row (d_right d_nothing))) (omega arith))

pub branches_list : IsSequence rows.branches rows.more_branches rows.after_branch rows.branch begins_branch begins_further_branch built.branch_of built.branches_of built.more_branches_of built.branches_behind
branches_list = record {
  rule = refl;
  rule_more = refl;
  rule_after = refl;
  takes = refl;
  productive = has_further_branch;
  none_is = refl;
  some_is = λ c d. refl;
  more_none = refl;
  more_again = λ s d. refl;
  more_some = λ c d. refl;
  behind_none = refl;
  behind_again = λ s d. refl;
  behind_some = λ c d. refl;
}

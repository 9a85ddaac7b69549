-- The steps of the functions that read calls.
use Rattle.std.proofs.Common.{◌≡◌, ℕ, ◌≤◌, max, true, false, List, [], ◌∷◌, ◌++◌, length, drop, Result, Ok, Err, Option, Some, None, refl, sym, ap, ◌∙◌, arith, append-nil}
use Rattle.grammars.specs.Grammar.{next, row, both, Cst, none, leaf, node, pair, left, right, first, test, Derives, d_nothing, d_one, d_row, d_both, d_right, d_guard, Reads, r_nothing, r_one, r_both, r_left, r_right, r_guard, Productive}
use Rattle.kc_text.specs.declared.errors.Fail.{Fail}
use Rattle.kc_text.specs.declared.errors.Fail.TheVariants.{Found}
use Rattle.kc_tree.specs.declared.fault.Span.{Span}
use Rattle.kc_tree.specs.declared.types.Word.{Word}
use Rattle.kc_tree.specs.declared.expr.Arg.{Arg}
use Rattle.kc_tree.specs.declared.expr.Expr.{Expr}
use Rattle.kt_calls.specs.Calls.{label_before, on_line_of, maybe_on_line, maybe_on_line_of, in_brackets, in_brackets_of, with_brackets, with_brackets_of}
use Rattle.kt_lexer.specs.declared.token.Token.{Token}
use Rattle.kt_lexer.specs.declared.token.Operator.TheVariants as operator
use Rattle.kt_grammar.specs.declared.cursor.Cursor.{Cursor}
use Rattle.kt_grammar.specs.Built as built
use Rattle.kt_grammar.specs.Moves.{Moved}
use Rattle.kt_grammar.specs.Parsed.{Advanced, Halts, Advances}
use Rattle.kt_grammar.specs.Rows as rows
use Rattle.kt_grammar.specs.Rows.{grammar, op}
use Rattle.kt_grammar.specs.Signs.{TokenTaken}
use Rattle.kt_grammar.specs.Tokens.{is_op, is_label, unmarked, begins_trailing}
use Rattle.kt_grammar.specs.TypesBuilt.{word_of}
use Rattle.kt_grammar.proofs.Advances.{halts_row, halts_left, halts_right, halts_second, halts_as, refused_guard, read_guard, not_guarded}
use Rattle.kt_grammar.proofs.Extents.{between_is}
use Rattle.kt_grammar.proofs.Progress.{goes_on}
use Rattle.kt_grammar.proofs.SingleTokens.{op_token}
use Rattle.kt_grammar.proofs.Steps.{standing, has_both, read_one, read_both, read_row, read_first, read_second, read_nothing}
use Rattle.kt_grammar.proofs.TypeRows.{stretch, has_op}

-- ---- parts have derivations

abbrev pub opening : Token
opening = op_token operator.OpenBrace

abbrev pub closing : Token
closing = op_token operator.CloseBrace

abbrev pub braces : Cst Token
braces = node (pair (right none) (node (pair (leaf opening) (right (right (pair (node (right none)) (leaf closing)))))))

pub a_lambda : Derives grammar (row rows.trailing) (opening ∷ closing ∷ []) braces []
a_lambda = d_row (d_both (d_right d_nothing) (d_row (d_both (d_one refl) (d_right (d_right (d_both (d_row (d_right d_nothing)) (d_one refl)))))))

pub has_on_line : Productive grammar rows.a_trailing
has_on_line = (opening ∷ closing ∷ [], node braces, d_guard {f = next (unmarked begins_trailing)} refl a_lambda (omega arith))

pub has_maybe_on_line : Productive grammar maybe_on_line
has_maybe_on_line = ([], right none, d_right d_nothing)

pub has_arguments : Productive grammar (row rows.arguments)
has_arguments = ([], node (right none), d_row (d_right d_nothing))

pub has_arguments_close : Productive grammar (both (row rows.arguments) (op operator.CloseRound))
has_arguments_close = has_both has_arguments (has_op operator.CloseRound)

-- ---- a lambda, with its label

pub no_label : {ts : List Token} {start : Cursor} → start.at ≤ length ts → test is_label (first (drop start.at ts)) ≡ false → Advanced label_before built.label_of ts start start None
no_label w h = record { tree = right none; looked = 0; read = read_second h (read_nothing w); builds = refl; so_far = omega arith }

pub label_taken : {ts : List Token} {start mid : Cursor} {t : Token} {w : Word} → TokenTaken is_label ts start mid t → w ≡ word_of t → Advanced label_before built.label_of ts start mid (Some w)
label_taken o e = record {
  tree = left (leaf o.taken.token);
  looked = 0;
  read = read_first (standing o.taken) (read_one o.taken);
  builds = ap Some (e ∙ ap word_of o.same);
  so_far = omega (arith, o.so_far);
}

trailing_alike : {s p : Span} {x y : Expr} → s ≡ p → x ≡ y
    → (let a : Arg = record { span = s; name = None; spread = false; trailing = true; value = x } in a) ≡ record { span = p; name = None; spread = false; trailing = true; value = y }
trailing_alike e f = cc

pub trailing_from : (xs ys : List Arg) (a : Arg) {ts : List Token} {start mid end : Cursor} {s : Span} {l : Option Word} {x : Expr} → Advanced label_before built.label_of ts start mid l
    → Advanced (row rows.lambda) (built.lambda_of l) ts mid end x → s ≡ stretch ts start.at end.at → a ≡ record { span = s; name = None; spread = false; trailing = true; value = x } → ys ≡ xs ++ a ∷ []
    → Advanced (row rows.trailing) (λ c. xs ++ built.trailing_of c) ts start end ys
trailing_from xs ys a p q e f g =
    let whole = read_both p.read q.read in
    record {
      tree = node (pair p.tree q.tree);
      looked = max p.looked q.looked;
      read = read_row {n = rows.trailing} whole;
      builds = g ∙ ap (λ (b : Arg). xs ++ b ∷ []) (f ∙ trailing_alike (e ∙ between_is (goes_on refl whole) whole (goes_on refl q.read) q.read) (q.builds ∙ ap (λ (m : Option Word). built.lambda_of m q.tree) p.builds));
      so_far = omega (arith, p.so_far, q.so_far);
    }

-- ---- on the same line

pub on_line_from : (xs : List Arg) (ts : List Token) (start : Cursor) → start.at ≤ length ts → test (unmarked begins_trailing) (first (drop start.at ts)) ≡ true → (r : Result (List Arg × Cursor) (Fail ℕ))
    → Advances (row rows.trailing) (λ c. xs ++ built.trailing_of c) ts start r → Advances rows.a_trailing (λ c. xs ++ on_line_of c) ts start r
on_line_from xs ts start w h (Ok k) p = record { tree = node p.tree; looked = p.looked; read = read_guard refl h p.read; builds = p.builds; so_far = p.so_far }
on_line_from xs ts start w h (Err e) p = halts_as (λ place r. refused_guard w h has_on_line r) p

pub on_line_wanted : {ts : List Token} {start : Cursor} {e : Fail ℕ} → start.at ≤ length ts → test (unmarked begins_trailing) (first (drop start.at ts)) ≡ false
    → e ≡ (let x : Fail ℕ = Found (max start.looked start.at) in x) → Halts rows.a_trailing ts start e
on_line_wanted w h i = not_guarded w h has_on_line i

pub maybe_from : (xs : List Arg) (ts : List Token) (start : Cursor) → start.at ≤ length ts → test (unmarked begins_trailing) (first (drop start.at ts)) ≡ true → (r : Result (List Arg × Cursor) (Fail ℕ))
    → Advances (row rows.trailing) (λ c. xs ++ built.trailing_of c) ts start r → Advances maybe_on_line (λ c. xs ++ maybe_on_line_of c) ts start r
maybe_from xs ts start w h (Ok k) p = record { tree = left (node p.tree); looked = p.looked; read = read_first h (read_guard refl h p.read); builds = p.builds; so_far = p.so_far }
maybe_from xs ts start w h (Err e) p = halts_left w h (halts_as (λ place r. refused_guard w h has_on_line r) p)

pub none_on_line : (xs : List Arg) {ts : List Token} {start : Cursor} → start.at ≤ length ts → test (unmarked begins_trailing) (first (drop start.at ts)) ≡ false
    → Advanced maybe_on_line (λ c. xs ++ maybe_on_line_of c) ts start start xs
none_on_line xs w h = record { tree = right none; looked = 0; read = read_second h (read_nothing w); builds = sym (append-nil xs); so_far = omega arith }

-- ---- arguments in brackets

pub all_arguments : (xs : List Arg) (ts : List Token) (start : Cursor) → xs ≡ [] → (r : Result (List Arg × Cursor) (Fail ℕ)) → Advances (row rows.arguments) (λ c. xs ++ built.arguments_of c) ts start r
    → Advances (row rows.arguments) built.arguments_of ts start r
all_arguments xs ts start i (Ok k) p = record { tree = p.tree; looked = p.looked; read = p.read; builds = p.builds ∙ ap (λ ys. ys ++ built.arguments_of p.tree) i; so_far = p.so_far }
all_arguments xs ts start i (Err e) p = p

pub in_brackets_from : {ts : List Token} {start next mid end : Cursor} {t : Token} {xs : List Arg} → TokenTaken (unmarked (is_op operator.OpenRound)) ts start next t → Advanced (row rows.arguments) built.arguments_of ts next mid xs
    → Moved (is_op operator.CloseRound) ts mid end → Advanced in_brackets in_brackets_of ts start end xs
in_brackets_from o p q = record {
  tree = pair (leaf o.taken.token) (pair p.tree (leaf q.taken.token));
  looked = max 0 (max p.looked 0);
  read = read_both (read_one o.taken) (read_both p.read (read_one q.taken));
  builds = p.builds;
  so_far = omega (arith, o.so_far, p.so_far, q.so_far);
}

pub brackets_from : {ts : List Token} {start mid : Cursor} {xs : List Arg} → Advanced in_brackets in_brackets_of ts start mid xs → (r : Result (List Arg × Cursor) (Fail ℕ))
    → Advances maybe_on_line (λ c. xs ++ maybe_on_line_of c) ts mid r → Advances with_brackets with_brackets_of ts start r
brackets_from p (Ok k) q = record {
  tree = pair p.tree q.tree;
  looked = max p.looked q.looked;
  read = read_both p.read q.read;
  builds = q.builds ∙ ap (λ ys. ys ++ maybe_on_line_of q.tree) p.builds;
  so_far = omega (arith, p.so_far, q.so_far);
}
brackets_from p (Err e) q = halts_second p.read p.so_far q

-- ---- the call

with_brackets_built : {ts r : List Token} {c : Cst Token} → Reads grammar with_brackets ts c r → with_brackets_of c ≡ built.call_of (node (left c))
with_brackets_built (r_both (r_both (r_one a) (r_both d (r_one b))) (r_left i (r_guard h e l))) = refl
with_brackets_built (r_both (r_both (r_one a) (r_both {x = x} d (r_one b))) (r_right i r_nothing)) = append-nil (built.arguments_of x)

on_line_built : {ts r : List Token} {c : Cst Token} → Reads grammar rows.a_trailing ts c r → on_line_of c ≡ built.call_of (node (right c))
on_line_built (r_guard h e l) = refl

pub call_brackets : (ts : List Token) (start : Cursor) → start.at ≤ length ts → test (unmarked (is_op operator.OpenRound)) (first (drop start.at ts)) ≡ true → (r : Result (List Arg × Cursor) (Fail ℕ))
    → Advances with_brackets with_brackets_of ts start r → Advances (row rows.call) built.call_of ts start r
call_brackets ts start w h (Ok k) q = record { tree = node (left q.tree); looked = q.looked; read = read_row (read_first h q.read); builds = q.builds ∙ with_brackets_built q.read.reads; so_far = q.so_far }
call_brackets ts start w h (Err e) q = halts_row (halts_left w h q)

pub call_lambda : (xs : List Arg) (ts : List Token) (start : Cursor) → start.at ≤ length ts → test (unmarked (is_op operator.OpenRound)) (first (drop start.at ts)) ≡ false → xs ≡ [] → (r : Result (List Arg × Cursor) (Fail ℕ))
    → Advances rows.a_trailing (λ c. xs ++ on_line_of c) ts start r → Advances (row rows.call) built.call_of ts start r
call_lambda xs ts start w h i (Ok k) q = record {
  tree = node (right q.tree);
  looked = q.looked;
  read = read_row (read_second h q.read);
  builds = q.builds ∙ ap (λ ys. ys ++ on_line_of q.tree) i ∙ on_line_built q.read.reads;
  so_far = q.so_far;
}
call_lambda xs ts start w h i (Err e) q = halts_row (halts_right w h q)

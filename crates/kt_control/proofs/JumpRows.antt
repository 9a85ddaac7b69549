-- The steps of the functions that read jumps.
use Rattle.std.proofs.Common.{◌≡◌, ℕ, ◌≤◌, max, true, false, List, [], ◌∷◌, length, drop, Result, Ok, Err, Option, Some, None, refl, ap, ◌∙◌, arith}
use Rattle.grammars.specs.Grammar.{next, row, both, none, leaf, node, pair, left, right, first, test, d_nothing, d_right, d_guard, Productive}
use Rattle.kc_text.specs.declared.errors.Fail.{Fail}
use Rattle.kc_tree.specs.declared.fault.Span.{Span}
use Rattle.kc_tree.specs.declared.types.Word.{Word}
use Rattle.kc_tree.specs.declared.expr.Expr.{Expr}
use Rattle.kc_tree.specs.declared.expr.ExprKind.{ExprKind}
use Rattle.kc_tree.specs.declared.expr.ExprKind.TheVariants as e
use Rattle.kt_control.specs.Jumps.{on_line, value_on_line, return_, throw_, break_, return_of, throw_of, break_of, returned, kind_at}
use Rattle.kt_control.specs.Labels.{label_use}
use Rattle.kt_control.specs.Places.{place_of}
use Rattle.kt_grammar.proofs.OperatorRows.{an_expression}
use Rattle.kt_control.proofs.TokenMoves.{has_label}
use Rattle.kt_lexer.specs.declared.token.Token.{Token}
use Rattle.kt_lexer.specs.declared.token.Keyword.TheVariants as keyword
use Rattle.kt_grammar.specs.declared.cursor.Cursor.{Cursor}
use Rattle.kt_grammar.specs.Built as built
use Rattle.kt_grammar.specs.Built.{across}
use Rattle.kt_grammar.specs.Moves.{Moved}
use Rattle.kt_grammar.specs.Parsed.{Advanced, Advances}
use Rattle.kt_grammar.specs.Rows as rows
use Rattle.kt_grammar.specs.Rows.{Row, grammar, word}
use Rattle.kt_grammar.specs.Tokens.{is_word, is_break, is_label_use, unmarked, begins_expression}
use Rattle.kt_grammar.proofs.Advances.{halts_as, halts_row, halts_left, halts_right, halts_second, halts_after, refused_guard, read_guard}
use Rattle.kt_grammar.proofs.Extents.{between_is}
use Rattle.kt_grammar.proofs.Progress.{goes_on}
use Rattle.kt_grammar.proofs.SingleTokens.{a_name}
use Rattle.kt_grammar.proofs.Steps.{has_both, read_one, read_both, read_row, read_first, read_second, read_nothing}
use Rattle.kt_grammar.proofs.TypeRows.{stretch, first_taken}

-- ---- parts have derivations

has_on_line : Productive grammar on_line
has_on_line = (a_name ∷ [], node an_expression.0, d_guard {f = next (unmarked begins_expression)} refl an_expression.1 (omega arith))

pub has_no_value : Productive grammar value_on_line
has_no_value = ([], right none, d_right d_nothing)

pub has_behind_return : Productive grammar (both label_use value_on_line)
has_behind_return = has_both (has_label is_label_use) has_no_value

-- ---- `return`

return_alike : {s u : Span} {l m : Option Word} {x y : Option Expr} → s ≡ u → l ≡ m → x ≡ y → (let z : Expr = record { span = s; kind = e.Return l x } in z) ≡ record { span = u; kind = e.Return m y }
return_alike f g h = cc

pub return_value_from : (t : Option Token) (l : Option Word) {ts : List Token} {start end : Cursor} {x v y : Expr} {s : Span} → Advanced (row rows.expression) built.expression_of ts start end x
    → s ≡ across (place_of t) x.span → v ≡ x → y ≡ record { span = s; kind = e.Return l (Some v) } → Advanced (row rows.expression) (λ c. returned (place_of t) l (built.expression_of c)) ts start end y
return_value_from t l p f i g = record {
  tree = p.tree;
  looked = p.looked;
  read = p.read;
  builds = g ∙ return_alike f refl (ap Some i) ∙ ap (λ (x : Expr). returned (place_of t) l x) p.builds;
  so_far = p.so_far;
}

pub return_with : {ts : List Token} {start next mid : Cursor} {l : Option Word} → Moved (is_word keyword.Return) ts start next → Advanced label_use built.label_of ts next mid l
    → test (unmarked begins_expression) (first (drop mid.at ts)) ≡ true → (r : Result (Expr × Cursor) (Fail ℕ))
    → Advances (row rows.expression) (λ c. returned (place_of (first (drop start.at ts))) l (built.expression_of c)) ts mid r → Advances return_ return_of ts start r
return_with {l = l} o p h (Ok k) q = record {
  tree = pair (leaf o.taken.token) (pair p.tree (left (node q.tree)));
  looked = max 0 (max p.looked q.looked);
  read = read_both (read_one o.taken) (read_both p.read (read_first h (read_guard refl h q.read)));
  builds = q.builds ∙ ap (λ t. returned (place_of t) l (built.expression_of q.tree)) (first_taken o.taken) ∙ ap (λ m. returned o.taken.token.span m (built.expression_of q.tree)) p.builds;
  so_far = omega (arith, o.so_far, p.so_far, q.so_far);
}
return_with o p h (Err x) q = halts_after o.taken o.so_far (halts_second p.read p.so_far (halts_left p.read.within h (halts_as (λ place r. refused_guard p.read.within h has_on_line r) q)))

pub return_bare : {ts : List Token} {start next mid : Cursor} {l : Option Word} {s : Span} {y : Expr} → Moved (is_word keyword.Return) ts start next → Advanced label_use built.label_of ts next mid l
    → test (unmarked begins_expression) (first (drop mid.at ts)) ≡ false → s ≡ stretch ts start.at mid.at → y ≡ record { span = s; kind = e.Return l None } → Advanced return_ return_of ts start mid y
return_bare o p h f g =
    let whole = read_both (read_one o.taken) p.read in
    record {
      tree = pair (leaf o.taken.token) (pair p.tree (right none));
      looked = max 0 (max p.looked 0);
      read = read_both (read_one o.taken) (read_both p.read (read_second h (read_nothing p.read.within)));
      builds = g ∙ return_alike {x = None} (f ∙ between_is (goes_on refl whole) whole (goes_on refl whole) whole) p.builds refl;
      so_far = omega (arith, o.so_far, p.so_far);
    }

-- ---- `throw`

throw_alike : {s u : Span} {x y : Expr} → s ≡ u → x ≡ y → (let z : Expr = record { span = s; kind = e.Throw x } in z) ≡ record { span = u; kind = e.Throw y }
throw_alike f g = cc

pub throw_from : {ts : List Token} {start mid end : Cursor} {x v y : Expr} {s : Span} → Moved (is_word keyword.Throw) ts start mid → Advanced (row rows.expression) built.expression_of ts mid end x
    → s ≡ across (place_of (first (drop start.at ts))) x.span → v ≡ x → y ≡ record { span = s; kind = e.Throw v } → Advanced throw_ throw_of ts start end y
throw_from {x = x} o p f i g = record {
  tree = pair (leaf o.taken.token) p.tree;
  looked = max 0 p.looked;
  read = read_both (read_one o.taken) p.read;
  builds = g ∙ throw_alike (f ∙ ap (λ t. across (place_of t) x.span) (first_taken o.taken) ∙ ap (λ (z : Expr). across o.taken.token.span z.span) p.builds) (i ∙ p.builds);
  so_far = omega (arith, o.so_far, p.so_far);
}

-- ---- `break` and `continue`

break_alike : {s u : Span} {x y : ExprKind} → s ≡ u → x ≡ y → (let z : Expr = record { span = s; kind = x } in z) ≡ record { span = u; kind = y }
break_alike f g = cc

pub break_from : {ts : List Token} {start mid end : Cursor} {l : Option Word} {s : Span} {y : Expr} → Moved is_break ts start mid → Advanced label_use built.label_of ts mid end l
    → s ≡ stretch ts start.at end.at → y ≡ record { span = s; kind = kind_at (first (drop start.at ts)) l } → Advanced break_ break_of ts start end y
break_from {l = l} o p f g =
    let whole = read_both (read_one o.taken) p.read in
    record {
      tree = pair (leaf o.taken.token) p.tree;
      looked = max 0 p.looked;
      read = whole;
      builds = g ∙ break_alike (f ∙ between_is (goes_on refl whole) whole (goes_on refl whole) whole) (ap (λ t. kind_at t l) (first_taken o.taken) ∙ ap (λ m. built.jump_kind o.taken.token.kind m) p.builds);
      so_far = omega (arith, o.so_far, p.so_far);
    }

-- ---- all of them

pub jump_return : (ts : List Token) (start : Cursor) → start.at ≤ length ts → test (is_word keyword.Return) (first (drop start.at ts)) ≡ true → (r : Result (Expr × Cursor) (Fail ℕ))
    → Advances return_ return_of ts start r → Advances (row rows.jump) built.jump_of ts start r
jump_return ts start w h (Ok k) q = record { tree = node (left q.tree); looked = q.looked; read = read_row (read_first h q.read); builds = q.builds; so_far = q.so_far }
jump_return ts start w h (Err x) q = halts_row (halts_left w h q)

pub jump_throw : (ts : List Token) (start : Cursor) → start.at ≤ length ts → test (is_word keyword.Return) (first (drop start.at ts)) ≡ false → test (is_word keyword.Throw) (first (drop start.at ts)) ≡ true
    → (r : Result (Expr × Cursor) (Fail ℕ)) → Advances throw_ throw_of ts start r → Advances (row rows.jump) built.jump_of ts start r
jump_throw ts start w h k (Ok m) q = record { tree = node (right (left q.tree)); looked = q.looked; read = read_row (read_second h (read_first k q.read)); builds = q.builds; so_far = q.so_far }
jump_throw ts start w h k (Err x) q = halts_row (halts_right w h (halts_left w k q))

pub jump_break : (ts : List Token) (start : Cursor) → start.at ≤ length ts → test (is_word keyword.Return) (first (drop start.at ts)) ≡ false → test (is_word keyword.Throw) (first (drop start.at ts)) ≡ false
    → (r : Result (Expr × Cursor) (Fail ℕ)) → Advances break_ break_of ts start r → Advances (row rows.jump) built.jump_of ts start r
jump_break ts start w h k (Ok m) q = record { tree = node (right (right q.tree)); looked = q.looked; read = read_row (read_second h (read_second k q.read)); builds = q.builds; so_far = q.so_far }
jump_break ts start w h k (Err x) q = halts_row (halts_right w h (halts_right w k q))

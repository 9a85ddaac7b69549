-- The steps of the functions that read types before an arrow.
use Rattle.std.proofs.Common.{◌≡◌, ℕ, ◌+◌, ◌≤◌, max, true, false, List, [], ◌∷◌, length, drop, Result, Ok, Err, Some, refl, sym, ap, subst, ◌∙◌, arith}
use Rattle.grammars.specs.Grammar.{next, Part, nothing, row, both, choose, none, leaf, node, pair, left, right, first, test, d_nothing, d_row, d_left, d_right, Productive}
use Rattle.kc_text.specs.declared.errors.Fail.{Fail}
use Rattle.kc_tree.specs.declared.fault.Span.{Span}
use Rattle.kc_tree.specs.declared.types.«Type».{«Type»}
use Rattle.kc_tree.specs.declared.types.TypeKind.TheVariants as type_kind
use Rattle.kt_lexer.specs.declared.token.Token.{Token}
use Rattle.kt_lexer.specs.declared.token.Operator.TheVariants as operator
use Rattle.kt_grammar.specs.declared.cursor.Cursor.{Cursor}
use Rattle.kt_grammar.specs.declared.lookahead.Goal.TheVariants as goal
use Rattle.kt_grammar.specs.declared.lookahead.Mode.TheVariants as mode
use Rattle.kt_grammar.specs.Lookahead.{result_follows}
use Rattle.kt_grammar.specs.Parsed.{Advanced, Halts, Advances}
use Rattle.kt_grammar.specs.Moves.{Moved}
use Rattle.kt_grammar.specs.Rows as rows
use Rattle.kt_grammar.specs.Rows.{Row, grammar, op, question_marks, to_type, behind_first_type}
use Rattle.kt_grammar.specs.Tokens.{is_op}
use Rattle.kt_grammar.specs.TypesBuilt as built
use Rattle.kt_grammar.specs.TypesBuilt.{between}
use Rattle.kt_grammar.proofs.Advances.{refused_wider, refused_left, halts_second, halts_on, halts_row, halts_right, halts_after}
use Rattle.kt_grammar.proofs.Extents.{between_is, placed}
use Rattle.kt_grammar.proofs.OperandRows.{Formed, formed_as}
use Rattle.kt_grammar.proofs.Progress.{goes_on}
use Rattle.kt_grammar.proofs.Steps.{standing, has_both, wider, read_one, read_row, read_both, read_first, read_second, read_left, read_instead, read_nothing}
use Rattle.kt_grammar.proofs.TypeRows.{stretch, first_taken, fun_alike, has_op, has_dotted, has_no_arguments, has_marks}

abbrev pub name_part : Part Row Token
name_part = both (row rows.dotted) (choose (next (is_op operator.Less)) (row rows.type_arguments) nothing)

abbrev pub core_part : Part Row Token
core_part = choose (next (is_op operator.OpenRound)) (row rows.bracketed_before_arrow) name_part

abbrev pub close_part : Part Row Token
close_part = both (op operator.CloseRound) (choose result_follows (to_type rows.type_before_arrow) nothing)

abbrev pub result_part : Part Row Token
result_part = both (op operator.CloseRound) (to_type rows.type_before_arrow)

abbrev pub first_part : Part Row Token
first_part = behind_first_type result_follows rows.type_before_arrow

-- ---- parts have derivations

pub has_type_before : Productive grammar (row rows.type_before_arrow)
has_type_before = let k = has_both has_dotted has_no_arguments in let m = has_both {a = core_part} (k.0, right k.1, d_right k.2) has_marks in (m.0, node m.1, d_row m.2)

pub has_to_type_before : Productive grammar (to_type rows.type_before_arrow)
has_to_type_before = has_both (has_op operator.Arrow) has_type_before

pub has_result : Productive grammar result_part
has_result = has_both (has_op operator.CloseRound) has_to_type_before

pub has_no_result : Productive grammar (choose result_follows (to_type rows.type_before_arrow) nothing)
has_no_result = ([], right none, d_right d_nothing)

pub has_first_part : Productive grammar first_part
has_first_part = let k = has_both (has_op operator.CloseRound) has_no_result in (k.0, right k.1, d_right k.2)

pub has_bracketed_part : Productive grammar (choose (next (is_op operator.CloseRound)) result_part (both (row rows.type_) first_part))
has_bracketed_part = let k = has_result in (k.0, left k.1, d_left k.2)

-- ---- brackets

pub empty_before : {ts : List Token} {start mid end : Cursor} {s : Span} {ps : List «Type»} {x y : «Type»} → Moved (is_op operator.OpenRound) ts start mid → test (is_op operator.CloseRound) (first (drop mid.at ts)) ≡ true
    → Advanced result_part built.result_of ts mid end x → s ≡ stretch ts start.at end.at → ps ≡ []
    → y ≡ record { span = s; kind = type_kind.Fun ps x } → Advanced (row rows.bracketed_before_arrow) built.in_brackets_of ts start end y
empty_before o h q e f g = record {
  tree = node (pair (leaf o.taken.token) (left q.tree));
  looked = max 0 q.looked;
  read = read_row (read_both (read_one o.taken) (read_first h q.read));
  builds = g ∙ fun_alike (e ∙ between_is (goes_on refl (read_one o.taken)) (read_one o.taken) (goes_on refl q.read) q.read) f q.builds;
  so_far = omega (arith, o.so_far, q.so_far);
}

pub bracketed_before : {ts : List Token} {start next mid : Cursor} {x : «Type»} → Moved (is_op operator.OpenRound) ts start next → test (is_op operator.CloseRound) (first (drop next.at ts)) ≡ false
    → Advanced (row rows.type_) built.type_of ts next mid x → (r : Result («Type» × Cursor) (Fail ℕ))
    → Advances first_part (built.behind_first_of (first (drop start.at ts)) x) ts mid r → Advances (row rows.bracketed_before_arrow) built.in_brackets_of ts start r
bracketed_before {x = x} o h p (Ok k) q = record {
  tree = node (pair (leaf o.taken.token) (right (pair p.tree q.tree)));
  looked = max 0 (max p.looked q.looked);
  read = read_row (read_both (read_one o.taken) (read_second h (read_both p.read q.read)));
  builds = q.builds ∙ ap (λ t. built.behind_first_of t x q.tree) (first_taken o.taken) ∙ ap (λ m. built.behind_first_of (Some o.taken.token) m q.tree) p.builds;
  so_far = omega (arith, o.so_far, p.so_far, q.so_far);
}
bracketed_before o h p (Err e) q = halts_row (halts_after o.taken o.so_far (halts_right o.taken.within h (halts_second p.read p.so_far q)))

pub many_before : (begin : ℕ) {ts : List Token} {start next mid end : Cursor} {s : Span} {head x y : «Type»} {ps : List «Type»} → Moved (is_op operator.Comma) ts start next
    → Advanced (row rows.types) (λ c. head ∷ built.types_of c) ts next mid ps → Advanced result_part built.result_of ts mid end x → s ≡ stretch ts begin end.at
    → y ≡ record { span = s; kind = type_kind.Fun ps x } → Advanced first_part (built.behind_first_of (first (drop begin ts)) head) ts start end y
many_before begin {ts = ts} o p q e g = record {
  tree = left (pair (leaf o.taken.token) (pair p.tree q.tree));
  looked = max 0 (max p.looked q.looked);
  read = read_first (standing o.taken) (read_both (read_one o.taken) (read_both p.read q.read));
  builds = g ∙ fun_alike (e ∙ ap (λ m. between (first (drop begin ts)) m) (sym (placed (goes_on refl q.read) q.read).ends)) p.builds q.builds;
  so_far = omega (arith, o.so_far, p.so_far, q.so_far);
}

pub only_before : (begin : ℕ) (ts : List Token) (start : Cursor) (head : «Type») → start.at ≤ length ts → test (is_op operator.Comma) (first (drop start.at ts)) ≡ false → (r : Result («Type» × Cursor) (Fail ℕ))
    → Advances close_part (λ c. built.behind_first_of (first (drop begin ts)) head (right c)) ts start r → Advances first_part (built.behind_first_of (first (drop begin ts)) head) ts start r
only_before begin ts start head w h (Ok k) q = record { tree = right q.tree; looked = q.looked; read = read_second h q.read; builds = q.builds; so_far = q.so_far }
only_before begin ts start head w h (Err e) q = halts_right w h q

-- ---- `)`, and a result where the tokens behind say so

result_formed : (ts : List Token) (at n : ℕ) → at ≤ length ts → n ≡ at + result_follows.far (drop at ts) → Formed (to_type rows.type_before_arrow) ts at n
result_formed ts at n w e = formed_as (to_type rows.type_before_arrow) goal.BeforeArrow mode.Arrow (λ us k. k) ts at n w e

pub one_before : (begin n : ℕ) {ts : List Token} {start end : Cursor} (mid : Cursor) {head : «Type»} → Moved (is_op operator.CloseRound) ts start end
    → result_follows.holds (drop end.at ts) ≡ false → n ≡ end.at + result_follows.far (drop end.at ts) → mid ≡ record { at = end.at; looked = max end.looked n }
    → Advanced close_part (λ c. built.behind_first_of (first (drop begin ts)) head (right c)) ts start mid head
one_before begin n {ts = ts} {start = start} {end = end} mid {head = head} o h e m =
    let k = result_formed ts end.at n o.taken.within e in
    subst (λ (c : Cursor). Advanced close_part (λ d. built.behind_first_of (first (drop begin ts)) head (right d)) ts start c head) (sym m) (record {
      tree = pair (leaf o.taken.token) (right none);
      looked = max 0 (max n 0);
      read = read_both (read_one o.taken) (read_instead n h e k.within k.begun (read_nothing o.taken.within));
      builds = refl;
      so_far = omega (arith, o.so_far);
    })

pub parameter_before : (begin n : ℕ) {ts : List Token} {start end next last : Cursor} (mid : Cursor) {s : Span} {head x y : «Type»} {ps : List «Type»} → Moved (is_op operator.CloseRound) ts start end
    → result_follows.holds (drop end.at ts) ≡ true → n ≡ end.at + result_follows.far (drop end.at ts) → mid ≡ record { at = end.at; looked = max end.looked n }
    → Moved (is_op operator.Arrow) ts mid next → Advanced (row rows.type_before_arrow) built.type_of ts next last x → s ≡ stretch ts begin last.at → ps ≡ head ∷ []
    → y ≡ record { span = s; kind = type_kind.Fun ps x } → Advanced close_part (λ c. built.behind_first_of (first (drop begin ts)) head (right c)) ts start last y
parameter_before begin n {ts = ts} {start = start} {end = end} {next = next} mid o h e m a q f g i =
    let k = result_formed ts end.at n o.taken.within e in
    let b = subst (λ (c : Cursor). Moved (is_op operator.Arrow) ts c next) m a in
    record {
      tree = pair (leaf o.taken.token) (left (pair (leaf b.taken.token) q.tree));
      looked = max 0 (max n (max 0 q.looked));
      read = read_both (read_one o.taken) (read_left h (omega (arith, e)) (wider n k.within k.begun (read_both (read_one b.taken) q.read)));
      builds = i ∙ fun_alike (f ∙ ap (λ t. between (first (drop begin ts)) t) (sym (placed (goes_on refl q.read) q.read).ends)) g q.builds;
      so_far = omega (arith, o.so_far, b.so_far, q.so_far);
    }

pub result_halts : (n : ℕ) {ts : List Token} {start end : Cursor} (mid : Cursor) {x : Fail ℕ} → Moved (is_op operator.CloseRound) ts start end
    → result_follows.holds (drop end.at ts) ≡ true → n ≡ end.at + result_follows.far (drop end.at ts) → mid ≡ record { at = end.at; looked = max end.looked n }
    → Halts (to_type rows.type_before_arrow) ts mid x → Halts close_part ts start x
result_halts n {ts = ts} {start = start} {end = end} mid {x = x} o h e m q =
    let k = result_formed ts end.at n o.taken.within e in
    halts_after o.taken o.so_far (halts_on {start = end} {mid = record { at = end.at; looked = max end.looked n }} n refl
    (λ place r. refused_left o.taken.within h (omega (arith, e)) (refused_wider n o.taken.within k.within k.begun r)) (subst (λ (c : Cursor). Halts (to_type rows.type_before_arrow) ts c x) m q))

pub result_before : {ts : List Token} {start mid next : Cursor} → Moved (is_op operator.CloseRound) ts start mid → Moved (is_op operator.Arrow) ts mid next → (r : Result («Type» × Cursor) (Fail ℕ))
    → Advances (row rows.type_before_arrow) built.type_of ts next r → Advances result_part built.result_of ts start r
result_before o a (Ok k) q = record {
  tree = pair (leaf o.taken.token) (pair (leaf a.taken.token) q.tree);
  looked = max 0 (max 0 q.looked);
  read = read_both (read_one o.taken) (read_both (read_one a.taken) q.read);
  builds = q.builds;
  so_far = omega (arith, o.so_far, a.so_far, q.so_far);
}
result_before o a (Err e) q = halts_after o.taken o.so_far (halts_after a.taken a.so_far q)

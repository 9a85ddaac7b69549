-- The steps of the functions that read what stands behind an operand.
use Rattle.std.proofs.Common.{◌≡◌, ℕ, suc, ◌+◌, ◌<◌, ◌≤◌, max, inl, inr, Bool, true, false, if◌then◌else◌, List, [], ◌∷◌, ◌++◌, length, length-append, length-drop, drop, Result, Ok, Err, refl, sym, ap, ◌∙◌, arith, append-nil}
use Rattle.grammars.specs.Automata.{go, stop, goes}
use Rattle.grammars.specs.Grammar.{next, Part, row, both, choose, Cst, none, leaf, node, pair, left, right, first, test, Derives, d_nothing, d_one, d_row, d_both, d_left, d_right, d_done, d_guard, Reads, r_one, r_both, r_left, r_right, r_guard, Productive, Begun}
use Rattle.grammars.proofs.Later.{begun_here, begun_row, begun_left, begun_right, begun_guard}
use Rattle.grammars.proofs.Stacks.{all_both}
use Rattle.kc_text.specs.declared.errors.Fail.{Fail}
use Rattle.kc_tree.specs.declared.fault.Span.{Span}
use Rattle.kc_tree.specs.declared.types.Word.{Word}
use Rattle.kc_tree.specs.declared.types.TypeArg.{TypeArg}
use Rattle.kc_tree.specs.declared.expr.Arg.{Arg}
use Rattle.kc_tree.specs.declared.expr.Expr.{Expr}
use Rattle.kt_bodies.specs.Looks.{Looked}
use Rattle.kt_bodies.specs.Terminals.{NameMoved}
use Rattle.kt_bodies.proofs.Looking.{looked_at, looked_turn, looked_stop, halts_looked_more}
use Rattle.kt_calls.specs.declared.nodes.Ending.{Ending}
use Rattle.kt_calls.specs.declared.nodes.EndingKind.TheVariants as ending
use Rattle.kt_calls.specs.Suffixes.{ended, postfix_operator, operator_of, member, member_of, more_indexes, indexes, indexes_of, index, index_of, called, typed_call, typed_call_of, typed_call_on_line, any_call, any_call_of, suffix, ending_of, suffixes}
use Rattle.kt_calls.proofs.CallRows.{opening, closing, braces, a_lambda}
use Rattle.kt_lexer.specs.declared.token.Token.{Token}
use Rattle.kt_lexer.specs.declared.token.Operator.TheVariants as operator
use Rattle.kt_grammar.specs.declared.cursor.Cursor.{Cursor}
use Rattle.kt_grammar.specs.declared.lookahead.Frame.TheVariants as frame
use Rattle.kt_grammar.specs.declared.lookahead.Goal.TheVariants as goal
use Rattle.kt_grammar.specs.declared.lookahead.Mode.TheVariants as mode
use Rattle.kt_grammar.specs.declared.lookahead.Place.{Place}
use Rattle.kt_grammar.specs.Built as built
use Rattle.kt_grammar.specs.Lookahead.{step, at_end, operand_end, opens, suffix_follows}
use Rattle.kt_grammar.specs.Moves.{Moved}
use Rattle.kt_grammar.specs.Parsed.{Advanced, Advances}
use Rattle.kt_grammar.specs.Rows as rows
use Rattle.kt_grammar.specs.Rows.{Row, grammar, op}
use Rattle.kt_grammar.specs.Signs.{TokenTaken}
use Rattle.kt_grammar.specs.Tokens.{is_op, is_dot, is_postfix, unmarked, begins_trailing}
use Rattle.kt_grammar.specs.TypesBuilt.{between, type_arguments_of}
use Rattle.kt_grammar.proofs.OperatorRows.{has_expression}
use Rattle.kt_grammar.proofs.Advances.{halts_left, halts_right, halts_second, halts_after, halts_as, refused_guard, read_guard}
use Rattle.kt_grammar.proofs.Extents.{between_is, placed}
use Rattle.kt_grammar.proofs.OperandRows.{Formed, formed_as}
use Rattle.kt_grammar.proofs.Progress.{goes_on}
use Rattle.kt_grammar.proofs.SingleTokens.{a_name, op_token}
use Rattle.kt_grammar.proofs.Steps.{BegunAt, begun_to, by_order, standing, has_both, read_one, read_both, read_row, read_first, read_second, read_nothing}
use Rattle.kt_grammar.proofs.TypeRows.{stretch, has_op}

-- ---- parts have derivations

-- a name alone as an expression
pub has_more_indexes : Productive grammar more_indexes
has_more_indexes = ([], right none, d_right d_nothing)

pub has_close : Productive grammar (op operator.CloseSquare)
has_close = has_op operator.CloseSquare

pub has_behind_index : Productive grammar (both more_indexes (op operator.CloseSquare))
has_behind_index = has_both has_more_indexes has_close

pub has_indexes : Productive grammar indexes
has_indexes = has_both has_expression has_behind_index

abbrev a_call : Cst Token
a_call = node (right (node braces))

calls : Derives grammar (row rows.call) (opening ∷ closing ∷ []) a_call []
calls = d_row (d_right (d_guard {f = next (unmarked begins_trailing)} refl a_lambda (omega arith)))

pub has_call : Productive grammar (row rows.call)
has_call = (opening ∷ closing ∷ [], a_call, calls)

abbrev less : Token
less = op_token operator.Less

abbrev star : Token
star = op_token operator.Times

abbrev greater : Token
greater = op_token operator.Greater

pub has_typed_on_line : Productive grammar typed_call_on_line
has_typed_on_line = (
  less ∷ star ∷ greater ∷ opening ∷ closing ∷ [],
  node (pair (node (pair (leaf less) (pair (node (left (leaf star))) (pair (node (right none)) (leaf greater))))) a_call),
  d_guard {f = next (unmarked (is_op operator.Less))} refl (d_both (d_row (d_both (d_one refl) (d_both (d_row (d_left (d_one refl))) (d_both (d_row (d_right d_nothing)) (d_one refl))))) calls) (omega arith),
)

pub has_suffix : Productive grammar (row rows.suffix)
has_suffix = (op_token operator.NotNull ∷ [], node (left (leaf (op_token operator.NotNull))), d_row (d_left (d_one refl)))

pub has_suffixes : Productive grammar suffixes
has_suffixes = ([], none, d_done)

-- ---- operators and members

pub operator_from : {ts : List Token} {start end : Cursor} {t : Token} {y : Ending} → TokenTaken (unmarked is_postfix) ts start end t
    → y ≡ record { span = t.span; kind = ending.Operator (built.postfix_of_token t.kind) } → Advanced postfix_operator operator_of ts start end y
operator_from o g = record { tree = leaf o.taken.token; looked = 0; read = read_one o.taken; builds = g ∙ ap (λ (u : Token). operator_of (leaf u)) o.same; so_far = omega (arith, o.so_far) }

abbrev member_at : Token → Word → Ending
member_at d w = record { span = w.span; kind = ending.Member (built.is_safe d.kind) w }

member_alike : {d e : Token} {w v : Word} → d ≡ e → w ≡ v → member_at d w ≡ member_at e v
member_alike {e = e} {w = w} f g = ap (λ (u : Token). member_at u w) f ∙ ap (λ (u : Word). member_at e u) g

pub member_from : {ts : List Token} {start mid end : Cursor} {d : Token} {w : Word} {y : Ending} → TokenTaken is_dot ts start mid d → NameMoved ts mid end w
    → y ≡ record { span = w.span; kind = ending.Member (built.is_safe d.kind) w } → Advanced member member_of ts start end y
member_from o n g = record {
  tree = pair (leaf o.taken.token) (leaf n.taken.token);
  looked = max 0 0;
  read = read_both (read_one o.taken) (read_one n.taken);
  builds = g ∙ member_alike o.same n.word;
  so_far = omega (arith, o.so_far, n.so_far);
}

-- ---- indexes

pub first_from : (xs ys : List Expr) {ts : List Token} {start end : Cursor} {x : Expr} → Advanced (row rows.expression) built.expression_of ts start end x → xs ≡ [] → ys ≡ xs ++ x ∷ []
    → Advanced (row rows.expression) (λ c. built.expression_of c ∷ []) ts start end ys
first_from xs ys {x = x} p i g = record {
  tree = p.tree;
  looked = p.looked;
  read = p.read;
  builds = g ∙ ap (λ zs. zs ++ x ∷ []) i ∙ ap (λ (z : Expr). z ∷ []) p.builds;
  so_far = p.so_far;
}

pub no_more_indexes : (xs : List Expr) {ts : List Token} {start : Cursor} → start.at ≤ length ts → test (is_op operator.Comma) (first (drop start.at ts)) ≡ false
    → Advanced more_indexes (λ c. xs ++ built.expressions_behind c) ts start start xs
no_more_indexes xs w h = record { tree = right none; looked = 0; read = read_second h (read_nothing w); builds = sym (append-nil xs); so_far = omega arith }

pub more_from : (xs : List Expr) {ts : List Token} {start mid : Cursor} → start.at ≤ length ts → Moved (is_op operator.Comma) ts start mid → (r : Result (List Expr × Cursor) (Fail ℕ))
    → Advances (row rows.expressions) (λ c. xs ++ built.expressions_of c) ts mid r → Advances more_indexes (λ c. xs ++ built.expressions_behind c) ts start r
more_from xs w o (Ok k) q = record {
  tree = left (pair (leaf o.taken.token) q.tree);
  looked = max 0 q.looked;
  read = read_first (standing o.taken) (read_both (read_one o.taken) q.read);
  builds = q.builds;
  so_far = omega (arith, o.so_far, q.so_far);
}
more_from xs w o (Err x) q = halts_left w (standing o.taken) (halts_after o.taken o.so_far q)

pub indexes_from : {ts : List Token} {start mid last end : Cursor} {xs ys : List Expr} → Advanced (row rows.expression) (λ c. built.expression_of c ∷ []) ts start mid xs
    → Advanced more_indexes (λ c. xs ++ built.expressions_behind c) ts mid last ys → Moved (is_op operator.CloseSquare) ts last end → Advanced indexes indexes_of ts start end ys
indexes_from p q o = record {
  tree = pair p.tree (pair q.tree (leaf o.taken.token));
  looked = max p.looked (max q.looked 0);
  read = read_both p.read (read_both q.read (read_one o.taken));
  builds = q.builds ∙ ap (λ zs. zs ++ built.expressions_behind q.tree) p.builds;
  so_far = omega (arith, p.so_far, q.so_far, o.so_far);
}

abbrev index_at : Span → Token → List Expr → Ending
index_at s o xs = record { span = s; kind = ending.Index o.span xs }

index_alike : {s u : Span} {o p : Token} {xs ys : List Expr} → s ≡ u → o ≡ p → xs ≡ ys → index_at s o xs ≡ index_at u p ys
index_alike {u = u} {o = o} {p = p} {xs = xs} f g h = ap (λ (m : Span). index_at m o xs) f ∙ ap (λ (m : Token). index_at u m xs) g ∙ ap (λ (m : List Expr). index_at u p m) h

pub index_from : {ts : List Token} {start next end : Cursor} {o : Token} {xs : List Expr} {s : Span} {y : Ending} → TokenTaken (unmarked (is_op operator.OpenSquare)) ts start next o → Advanced indexes indexes_of ts next end xs
    → s ≡ stretch ts start.at end.at → y ≡ record { span = s; kind = ending.Index o.span xs } → Advanced index index_of ts start end y
index_from o p f g =
    let whole = read_both (read_one o.taken) p.read in
    record {
      tree = pair (leaf o.taken.token) p.tree;
      looked = max 0 p.looked;
      read = whole;
      builds = g ∙ index_alike (f ∙ between_is (goes_on refl whole) whole (goes_on refl whole) whole) o.same p.builds;
      so_far = omega (arith, o.so_far, p.so_far);
    }

-- ---- calls

abbrev call_at : List TypeArg → Span → Span → List Arg → Ending
call_at ts s t xs = record { span = s; kind = ending.Call t ts xs }

call_alike : (ts : List TypeArg) {s u t v : Span} {xs ys : List Arg} → s ≡ u → t ≡ v → xs ≡ ys → call_at ts s t xs ≡ call_at ts u v ys
call_alike ts {u = u} {t = t} {v = v} {xs = xs} f g h = ap (λ (m : Span). call_at ts m t xs) f ∙ ap (λ (m : Span). call_at ts u m xs) g ∙ ap (λ (m : List Arg). call_at ts u v m) h

pub called_from : (types : List TypeArg) {ts : List Token} {start end : Cursor} {s t : Span} {xs : List Arg} {y : Ending} → Advanced (row rows.call) built.call_of ts start end xs
    → t ≡ between (first (drop start.at ts)) (first (drop start.at ts)) → s ≡ stretch ts start.at end.at → y ≡ record { span = s; kind = ending.Call t types xs } → Advanced (row rows.call) (called types) ts start end y
called_from types p e f g = record {
  tree = p.tree;
  looked = p.looked;
  read = p.read;
  builds = g ∙ call_alike types (f ∙ between_is (goes_on refl p.read) p.read (goes_on refl p.read) p.read) (e ∙ ap (λ o. between o o) (sym (placed (goes_on refl p.read) p.read).begins)) p.builds;
  so_far = p.so_far;
}

pub typed_from : {ts : List Token} {start mid : Cursor} {types : List TypeArg} → Advanced (row rows.type_arguments) type_arguments_of ts start mid types → (r : Result (Ending × Cursor) (Fail ℕ))
    → Advances (row rows.call) (called types) ts mid r → Advances typed_call typed_call_of ts start r
typed_from p (Ok k) q = record {
  tree = pair p.tree q.tree;
  looked = max p.looked q.looked;
  read = read_both p.read q.read;
  builds = q.builds ∙ ap (λ (us : List TypeArg). called us q.tree) p.builds;
  so_far = omega (arith, p.so_far, q.so_far);
}
typed_from p (Err x) q = halts_second p.read p.so_far q

pub call_typed : (ts : List Token) (start : Cursor) → start.at ≤ length ts → test (unmarked (is_op operator.Less)) (first (drop start.at ts)) ≡ true → (r : Result (Ending × Cursor) (Fail ℕ))
    → Advances typed_call typed_call_of ts start r → Advances any_call any_call_of ts start r
call_typed ts start w h (Ok k) q = record { tree = left (node q.tree); looked = q.looked; read = read_first h (read_guard refl h q.read); builds = q.builds; so_far = q.so_far }
call_typed ts start w h (Err x) q = halts_left w h (halts_as (λ place r. refused_guard w h has_typed_on_line r) q)

pub call_plain : (types : List TypeArg) (ts : List Token) (start : Cursor) → start.at ≤ length ts → test (unmarked (is_op operator.Less)) (first (drop start.at ts)) ≡ false → types ≡ [] → (r : Result (Ending × Cursor) (Fail ℕ))
    → Advances (row rows.call) (called types) ts start r → Advances any_call any_call_of ts start r
call_plain types ts start w h i (Ok k) q = record { tree = right q.tree; looked = q.looked; read = read_second h q.read; builds = q.builds ∙ ap (λ (us : List TypeArg). called us q.tree) i; so_far = q.so_far }
call_plain types ts start w h i (Err x) q = halts_right w h q

-- ---- the operand with what stands behind it

suffix_built : (x : Expr) {ts r : List Token} {c : Cst Token} → Reads grammar suffix ts c r → ended x (ending_of c) ≡ built.suffix_of x (node c)
suffix_built x (r_left h (r_one k)) = refl
suffix_built x (r_right h (r_left i (r_both (r_one a) (r_one b)))) = refl
suffix_built x (r_right h (r_right i (r_left j (r_both (r_one a) (r_both d (r_both m (r_one b))))))) = refl
suffix_built x (r_right h (r_right i (r_right j (r_left k (r_guard l (r_both d f) s))))) = refl
suffix_built x (r_right h (r_right i (r_right j (r_right k d)))) = refl

pub suffix_from : (x y : Expr) {ts : List Token} {start end : Cursor} {k : Ending} → Advanced suffix ending_of ts start end k → y ≡ ended x k → Advanced (row rows.suffix) (built.suffix_of x) ts start end y
suffix_from x y p g = record {
  tree = node p.tree;
  looked = p.looked;
  read = read_row {n = rows.suffix} p.read;
  builds = g ∙ ap (λ (k : Ending). ended x k) p.builds ∙ suffix_built x p.read.reads;
  so_far = p.so_far;
}

-- ---- what a look for one has gone over begins one

by_opening : (b c : Bool) (s : Place) (n : Place → ℕ) → 0 < elim (if b then stop true else if c then go s else stop false) as (λ _. ℕ) [ go p ↦ suc (n p) | stop d ↦ 0 ] → c ≡ true
by_opening true c s n h = absurd (omega (arith, h))
by_opening false true s n h = refl
by_opening false false s n h = absurd (omega (arith, h))

less_first : (us : List Token) → 0 < suffix_follows.far us → test (unmarked (is_op operator.Less)) (first us) ≡ true
less_first [] h = absurd (omega (arith, h))
less_first (t ∷ us) h = by_opening (operand_end goal.BeforeCall t) (opens goal.BeforeCall t) (record { frames = frame.Angle ∷ []; mode = mode.Argument false }) (λ p. goes (step goal.BeforeCall) (at_end goal.BeforeCall) us p) h

typed_formed : (ts : List Token) (at n : ℕ) → at ≤ length ts → n ≡ at + suffix_follows.far (drop at ts) → Formed typed_call ts at n
typed_formed ts at n w e = formed_as typed_call goal.BeforeCall mode.Operand (λ us k. all_both grammar k) ts at n w e

as_suffix : (us rest : List Token) → Begun grammar typed_call_on_line us rest → Begun grammar (row rows.suffix) us rest
as_suffix us rest k = begun_row grammar (begun_right grammar (begun_right grammar (begun_right grammar (begun_left grammar k))))

suffix_begun : (ts : List Token) (at n : ℕ) → at ≤ length ts → n ≡ at + suffix_follows.far (drop at ts) → n ≤ length ts → BegunAt typed_call ts at n → BegunAt (row rows.suffix) ts at n
suffix_begun ts at n w e v k = elim (by_order n at) [
  | inl h ↦ begun_to (row rows.suffix) ts at at n (omega (arith, h, e)) (begun_here grammar (drop at ts) has_suffix)
  | inr h ↦ as_suffix (drop at ts) (drop n ts) (begun_guard grammar {f = next (unmarked (is_op operator.Less))} (less_first (drop at ts) (omega (arith, h, e))) k
      (omega (arith, h, v, ap length k.split, length-append k.before (drop n ts), length-drop at ts, length-drop n ts)))
]

pub looked_suffix : {ts : List Token} {start : Cursor} {b : Bool} {n : ℕ} (mid : Cursor) → start.at ≤ length ts → b ≡ suffix_follows.holds (drop start.at ts) → n ≡ start.at + suffix_follows.far (drop start.at ts)
    → mid ≡ record { at = start.at; looked = max start.looked n } → Looked suffix_follows (row rows.suffix) ts start mid b
looked_suffix {ts = ts} {start = start} {n = n} mid w h e m =
    let k = typed_formed ts start.at n w e in looked_at mid (record { is = h; far = e }) k.within (suffix_begun ts start.at n w e k.within k.begun) m

-- ---- any number of them

pub suffixes_turn : (x y : Expr) {ts : List Token} {start mid next : Cursor} → Looked suffix_follows (row rows.suffix) ts start mid true → Advanced (row rows.suffix) (built.suffix_of x) ts mid next y
    → (r : Result (Expr × Cursor) (Fail ℕ)) → Advances suffixes (built.suffixes_of y) ts next r → Advances suffixes (built.suffixes_of x) ts start r
suffixes_turn x y k p (Ok m) q = record {
  tree = pair p.tree q.tree;
  looked = max (max _ p.looked) q.looked;
  read = looked_turn k p.read q.read;
  builds = q.builds ∙ ap (λ (z : Expr). built.suffixes_of z q.tree) p.builds;
  so_far = omega (arith, k.so_far, p.so_far, q.so_far);
}
suffixes_turn x y k p (Err e) q = halts_looked_more k p.read p.so_far q

pub suffixes_end : (x : Expr) {ts : List Token} {start mid : Cursor} → Looked suffix_follows (row rows.suffix) ts start mid false → Advanced suffixes (built.suffixes_of x) ts start mid x
suffixes_end x k = record { tree = none; looked = _; read = looked_stop k; builds = refl; so_far = k.so_far }

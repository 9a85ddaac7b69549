-- The steps of the functions that read declarations of local variables.
use Rattle.std.proofs.Common.{◌≡◌, ℕ, ◌≤◌, max, Bool, true, false, List, [], ◌++◌, length, drop, Result, Ok, Err, Option, Some, None, refl, sym, ap, ◌∙◌, arith, append-nil}
use Rattle.grammars.specs.Grammar.{row, both, Cst, none, leaf, node, pair, left, right, first, test, d_nothing, d_row, d_right, Reads, r_nothing, r_one, r_both, r_left, r_right, Productive}
use Rattle.kc_text.specs.declared.errors.Fail.{Fail}
use Rattle.kc_tree.specs.declared.fault.Span.{Span}
use Rattle.kc_tree.specs.declared.types.Word.{Word}
use Rattle.kc_tree.specs.declared.types.«Type».{«Type»}
use Rattle.kc_tree.specs.declared.expr.Expr.{Expr}
use Rattle.kc_tree.specs.declared.expr.ExprKind.TheVariants as e
use Rattle.kc_tree.specs.declared.expr.LocalName.{LocalName}
use Rattle.kt_bodies.specs.Terminals.{NameMoved}
use Rattle.kt_control.specs.declared.locals.Declared.{Declared}
use Rattle.kt_control.specs.Locals.{value_of, more_names, named, named_of, listed, listed_of, valued, in_round, in_round_of, only_one, type_end, type_end_of, with_type, with_type_of, behind_name, one_name, one_name_of, behind_word, declared_of, var_at}
use Rattle.kt_control.specs.Places.{place_of}
use Rattle.kt_grammar.proofs.OperatorRows.{has_expression}
use Rattle.kt_lexer.specs.declared.token.Token.{Token}
use Rattle.kt_lexer.specs.declared.token.Operator.TheVariants as operator
use Rattle.kt_grammar.specs.declared.cursor.Cursor.{Cursor}
use Rattle.kt_grammar.specs.Built as built
use Rattle.kt_grammar.specs.Built.{across}
use Rattle.kt_grammar.specs.Moves.{Moved}
use Rattle.kt_grammar.specs.Parsed.{Advanced, Advances}
use Rattle.kt_grammar.specs.Rows as rows
use Rattle.kt_grammar.specs.Rows.{Row, grammar, op}
use Rattle.kt_grammar.specs.Tokens.{is_op, is_local}
use Rattle.kt_grammar.specs.TypesBuilt as types_built
use Rattle.kt_grammar.proofs.Advances.{halts_left, halts_right, halts_second, halts_after}
use Rattle.kt_grammar.proofs.Extents.{between_is}
use Rattle.kt_grammar.proofs.NameRows.{has_no_type}
use Rattle.kt_grammar.proofs.Progress.{goes_on}
use Rattle.kt_grammar.proofs.Steps.{standing, has_both, read_one, read_both, read_row, read_first, read_second, read_nothing}
use Rattle.kt_grammar.proofs.TypeRows.{stretch, first_taken, has_op, has_name, has_type}

-- ---- parts have derivations

pub has_value : Productive grammar rows.value
has_value = has_both (has_op operator.Assign) has_expression

pub has_no_more : Productive grammar more_names
has_no_more = ([], right none, d_right d_nothing)

pub has_typed_name : Productive grammar (row rows.typed_name)
has_typed_name = let k = has_both has_name has_no_type in (k.0, node k.1, d_row k.2)

pub has_named : Productive grammar named
has_named = has_both has_typed_name has_no_more

pub has_named_close : Productive grammar (both named (op operator.CloseRound))
has_named_close = has_both has_named (has_op operator.CloseRound)

pub has_no_end : Productive grammar type_end
has_no_end = ([], right none, d_right d_nothing)

pub has_type_end : Productive grammar (both (row rows.type_) type_end)
has_type_end = has_both has_type has_no_end

pub has_behind_name : Productive grammar behind_name
has_behind_name = let k = has_value in (k.0, right k.1, d_right k.2)

pub has_behind_word : Productive grammar behind_word
has_behind_word = let k = has_both has_name has_behind_name in (k.0, right k.1, d_right k.2)

-- ---- values

pub value_from : {ts : List Token} {start mid end : Cursor} {x y : Expr} → Moved (is_op operator.Assign) ts start mid → Advanced (row rows.expression) built.expression_of ts mid end x → y ≡ x → Advanced rows.value value_of ts start end y
value_from o p f = record {
  tree = pair (leaf o.taken.token) p.tree;
  looked = max 0 p.looked;
  read = read_both (read_one o.taken) p.read;
  builds = f ∙ p.builds;
  so_far = omega (arith, o.so_far, p.so_far);
}

declared_alike : {ns ms : List LocalName} {b : Bool} {x y : Option Expr} {s u : Span} → ns ≡ ms → x ≡ y → s ≡ u
    → (let d : Declared = record { names = ns; brackets = b; value = x; last = s } in d) ≡ record { names = ms; brackets = b; value = y; last = u }
declared_alike f g h = cc

pub valued_from : (ns : List LocalName) (b : Bool) {ts : List Token} {start end : Cursor} {x : Expr} {s : Span} → Advanced rows.value value_of ts start end x → s ≡ x.span
    → Advanced rows.value (λ c. valued ns b (value_of c)) ts start end (record { names = ns; brackets = b; value = Some x; last = s })
valued_from ns b p f = record {
  tree = p.tree;
  looked = p.looked;
  read = p.read;
  builds = declared_alike refl (ap Some p.builds) (f ∙ ap (λ (x : Expr). x.span) p.builds);
  so_far = p.so_far;
}

-- ---- names in brackets

pub no_more : (ns : List LocalName) {ts : List Token} {start : Cursor} → start.at ≤ length ts → test (is_op operator.Comma) (first (drop start.at ts)) ≡ false
    → Advanced more_names (λ c. ns ++ built.names_behind c) ts start start ns
no_more ns w h = record { tree = right none; looked = 0; read = read_second h (read_nothing w); builds = sym (append-nil ns); so_far = omega arith }

pub more_from : (ns ms : List LocalName) {ts : List Token} {start mid end : Cursor} → Moved (is_op operator.Comma) ts start mid → Advanced (row rows.names) (λ c. ns ++ built.names_of c) ts mid end ms
    → Advanced more_names (λ c. ns ++ built.names_behind c) ts start end ms
more_from ns ms o p = record {
  tree = left (pair (leaf o.taken.token) p.tree);
  looked = max 0 p.looked;
  read = read_first (standing o.taken) (read_both (read_one o.taken) p.read);
  builds = p.builds;
  so_far = omega (arith, o.so_far, p.so_far);
}

pub named_from : {no_names ns ms : List LocalName} {ts : List Token} {start mid end : Cursor} → no_names ≡ [] → Advanced (row rows.typed_name) (λ c. no_names ++ built.typed_name_of c) ts start mid ns
    → Advanced more_names (λ c. ns ++ built.names_behind c) ts mid end ms → Advanced named named_of ts start end ms
named_from i p q = record {
  tree = pair p.tree q.tree;
  looked = max p.looked q.looked;
  read = read_both p.read q.read;
  builds = q.builds ∙ ap (λ ns. ns ++ built.names_behind q.tree) (p.builds ∙ ap (λ ns. ns ++ built.typed_name_of p.tree) i);
  so_far = omega (arith, p.so_far, q.so_far);
}

pub listed_from : {ns : List LocalName} {ts : List Token} {start mid next end : Cursor} → Moved (is_op operator.OpenRound) ts start mid → Advanced named named_of ts mid next ns → Moved (is_op operator.CloseRound) ts next end
    → Advanced listed listed_of ts start end ns
listed_from o p q = record {
  tree = pair (leaf o.taken.token) (pair p.tree (leaf q.taken.token));
  looked = max 0 (max p.looked 0);
  read = read_both (read_one o.taken) (read_both p.read (read_one q.taken));
  builds = p.builds;
  so_far = omega (arith, o.so_far, p.so_far, q.so_far);
}

pub in_round_from : {ns : List LocalName} {ts : List Token} {start mid : Cursor} → Advanced listed listed_of ts start mid ns → (r : Result (Declared × Cursor) (Fail ℕ))
    → Advances rows.value (λ c. valued ns true (value_of c)) ts mid r → Advances in_round in_round_of ts start r
in_round_from p (Ok k) q = record {
  tree = pair p.tree q.tree;
  looked = max p.looked q.looked;
  read = read_both p.read q.read;
  builds = q.builds ∙ ap (λ ns. valued ns true (value_of q.tree)) p.builds;
  so_far = omega (arith, p.so_far, q.so_far);
}
in_round_from p (Err x) q = halts_second p.read p.so_far q

-- ---- one name

pub end_valued : (w : Word) (ty : «Type») (s : Span) (ns : List LocalName) (ts : List Token) (start : Cursor) → start.at ≤ length ts → test (is_op operator.Assign) (first (drop start.at ts)) ≡ true → ns ≡ only_one w (Some ty)
    → (r : Result (Declared × Cursor) (Fail ℕ)) → Advances rows.value (λ c. valued ns false (value_of c)) ts start r → Advances type_end (type_end_of w ty s) ts start r
end_valued w ty s ns ts start v h i (Ok k) q = record {
  tree = left q.tree;
  looked = q.looked;
  read = read_first h q.read;
  builds = q.builds ∙ ap (λ ns. valued ns false (value_of q.tree)) i;
  so_far = q.so_far;
}
end_valued w ty s ns ts start v h i (Err x) q = halts_left v h q

pub end_bare : (w : Word) (ty : «Type») (s : Span) {ns : List LocalName} {ts : List Token} {start : Cursor} → start.at ≤ length ts → test (is_op operator.Assign) (first (drop start.at ts)) ≡ false → ns ≡ only_one w (Some ty)
    → Advanced type_end (type_end_of w ty s) ts start start (record { names = ns; brackets = false; value = None; last = s })
end_bare w ty s v h i = record { tree = right none; looked = 0; read = read_second h (read_nothing v); builds = declared_alike i refl refl; so_far = omega arith }

pub with_type_from : (w : Word) (s : Span) {ts : List Token} {start mid next : Cursor} {ty : «Type»} → Moved (is_op operator.Colon) ts start mid → Advanced (row rows.type_) types_built.type_of ts mid next ty
    → s ≡ stretch ts mid.at next.at → (r : Result (Declared × Cursor) (Fail ℕ)) → Advances type_end (type_end_of w ty s) ts next r → Advances with_type (with_type_of w) ts start r
with_type_from w s {ty = ty} o p f (Ok k) q = record {
  tree = pair (leaf o.taken.token) (pair p.tree q.tree);
  looked = max 0 (max p.looked q.looked);
  read = read_both (read_one o.taken) (read_both p.read q.read);
  builds = q.builds ∙ ap (λ (ty : «Type»). type_end_of w ty s q.tree) p.builds
      ∙ ap (λ (s : Span). type_end_of w (types_built.type_of p.tree) s q.tree) (f ∙ between_is (goes_on refl p.read) p.read (goes_on refl p.read) p.read);
  so_far = omega (arith, o.so_far, p.so_far, q.so_far);
}
with_type_from w s o p f (Err x) q = halts_after o.taken o.so_far (halts_second p.read p.so_far q)

pub name_typed : {w : Word} {ts : List Token} {start mid : Cursor} → NameMoved ts start mid w → test (is_op operator.Colon) (first (drop mid.at ts)) ≡ true → (r : Result (Declared × Cursor) (Fail ℕ))
    → Advances with_type (with_type_of w) ts mid r → Advances one_name one_name_of ts start r
name_typed n h (Ok k) q = record {
  tree = pair (leaf n.taken.token) (left q.tree);
  looked = max 0 q.looked;
  read = read_both (read_one n.taken) (read_first h q.read);
  builds = q.builds ∙ ap (λ (w : Word). with_type_of w q.tree) n.word;
  so_far = omega (arith, n.so_far, q.so_far);
}
name_typed n h (Err x) q = halts_after n.taken n.so_far (halts_left n.taken.within h q)

pub name_valued : {w : Word} (ns : List LocalName) {ts : List Token} {start mid : Cursor} → NameMoved ts start mid w → test (is_op operator.Colon) (first (drop mid.at ts)) ≡ false → ns ≡ only_one w None
    → (r : Result (Declared × Cursor) (Fail ℕ)) → Advances rows.value (λ c. valued ns false (value_of c)) ts mid r → Advances one_name one_name_of ts start r
name_valued ns n h i (Ok k) q = record {
  tree = pair (leaf n.taken.token) (right q.tree);
  looked = max 0 q.looked;
  read = read_both (read_one n.taken) (read_second h q.read);
  builds = q.builds ∙ ap (λ ns. valued ns false (value_of q.tree)) i ∙ ap (λ (w : Word). valued (only_one w None) false (value_of q.tree)) n.word;
  so_far = omega (arith, n.so_far, q.so_far);
}
name_valued ns n h i (Err x) q = halts_after n.taken n.so_far (halts_right n.taken.within h q)

-- ---- the whole

pub word_round : (ts : List Token) (start : Cursor) → start.at ≤ length ts → test (is_op operator.OpenRound) (first (drop start.at ts)) ≡ true → (r : Result (Declared × Cursor) (Fail ℕ))
    → Advances in_round in_round_of ts start r → Advances behind_word declared_of ts start r
word_round ts start w h (Ok k) q = record { tree = left q.tree; looked = q.looked; read = read_first h q.read; builds = q.builds; so_far = q.so_far }
word_round ts start w h (Err x) q = halts_left w h q

pub word_name : (ts : List Token) (start : Cursor) → start.at ≤ length ts → test (is_op operator.OpenRound) (first (drop start.at ts)) ≡ false → (r : Result (Declared × Cursor) (Fail ℕ))
    → Advances one_name one_name_of ts start r → Advances behind_word declared_of ts start r
word_name ts start w h (Ok k) q = record { tree = right q.tree; looked = q.looked; read = read_second h q.read; builds = q.builds; so_far = q.so_far }
word_name ts start w h (Err x) q = halts_right w h q

abbrev local_at : Option Token → Declared → Expr
local_at t d = record { span = across (place_of t) d.last; kind = e.Local (var_at t) d.names d.brackets d.value }

local_built : (t : Token) {ts r : List Token} {c : Cst Token} → Reads grammar behind_word ts c r → local_at (Some t) (declared_of c) ≡ built.local_of (node (pair (leaf t) c))
local_built t (r_left h (r_both (r_both (r_one o) (r_both (r_both n more) (r_one c))) (r_both (r_one a) x))) = refl
local_built t (r_right h (r_both (r_one n) (r_left k (r_both (r_one i) (r_both y (r_left m (r_both (r_one a) x))))))) = refl
local_built t (r_right h (r_both (r_one n) (r_left k (r_both (r_one i) (r_both y (r_right m r_nothing)))))) = refl
local_built t (r_right h (r_both (r_one n) (r_right k (r_both (r_one a) x)))) = refl

span_alike : (t : Option Token) (d : Declared) {s u : Span} → s ≡ u → (let x : Expr = record { span = s; kind = e.Local (var_at t) d.names d.brackets d.value } in x) ≡ record { span = u; kind = e.Local (var_at t) d.names d.brackets d.value }
span_alike t d f = ap (λ (s : Span). (let x : Expr = record { span = s; kind = e.Local (var_at t) d.names d.brackets d.value } in x)) f

pub local_from : {ts : List Token} {start mid end : Cursor} {s : Span} {d : Declared} {y : Expr} → Moved is_local ts start mid → Advanced behind_word declared_of ts mid end d
    → s ≡ across (place_of (first (drop start.at ts))) d.last → y ≡ record { span = s; kind = e.Local (var_at (first (drop start.at ts))) d.names d.brackets d.value } → Advanced (row rows.local) built.local_of ts start end y
local_from {ts = ts} {start = start} {d = d} o p f g = record {
  tree = node (pair (leaf o.taken.token) p.tree);
  looked = max 0 p.looked;
  read = read_row (read_both (read_one o.taken) p.read);
  builds = g ∙ span_alike (first (drop start.at ts)) d f ∙ ap (λ t. local_at t d) (first_taken o.taken) ∙ ap (λ (d : Declared). local_at (Some o.taken.token) d) p.builds ∙ local_built o.taken.token p.read.reads;
  so_far = omega (arith, o.so_far, p.so_far);
}

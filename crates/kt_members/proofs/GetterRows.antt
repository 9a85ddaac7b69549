-- The steps of the functions that read getters.
use Rattle.std.proofs.Common.{◌≡◌, ℕ, ◌≤◌, max, Bool, true, false, List, [], length, drop, Result, Ok, Err, Option, Some, None, refl, sym, ap, ◌∙◌, arith}
use Rattle.grammars.specs.Grammar.{Part, next, one, row, both, Cst, none, leaf, node, pair, left, right, first, test, d_row, d_right, Reads, r_one, r_row, r_both, r_left, r_right, Productive}
use Rattle.kc_text.specs.declared.errors.Fail.{Fail}
use Rattle.kc_tree.specs.declared.decl.FunBody.{FunBody}
use Rattle.kc_tree.specs.declared.decl.FunBody.TheVariants as fun_body
use Rattle.kc_tree.specs.declared.decl.Getter.{Getter}
use Rattle.kc_tree.specs.declared.decl.Setter.{Setter}
use Rattle.kc_tree.specs.declared.expr.Expr.{Expr}
use Rattle.kc_tree.specs.declared.fault.Span.{Span}
use Rattle.kc_tree.specs.declared.types.«Type».{«Type»}
use Rattle.kt_lexer.specs.declared.token.Token.{Token}
use Rattle.kt_lexer.specs.declared.token.Operator.TheVariants as operator
use Rattle.kt_members.specs.declared.getters.AccessorPair.{AccessorPair}
use Rattle.kt_members.specs.declared.member_words.MemberWord.TheVariants as word
use Rattle.kt_members.specs.Getters as spec
use Rattle.kt_members.proofs.SetterRows.{has_behind_value}
use Rattle.kt_members.proofs.TokenRows.{has_member_word, has_value}
use Rattle.kt_grammar.specs.declared.cursor.Cursor.{Cursor}
use Rattle.kt_grammar.specs.Built as expressions
use Rattle.kt_grammar.specs.DeclarationsBuilt as built
use Rattle.kt_grammar.specs.Moves.{Moved}
use Rattle.kt_grammar.specs.Parsed.{Advanced, Halts, Advances}
use Rattle.kt_grammar.specs.Rows as rows
use Rattle.kt_grammar.specs.Rows.{Row, grammar, op, colon_type, value}
use Rattle.kt_grammar.specs.Tokens.{is_op, is_get}
use Rattle.kt_grammar.specs.TypesBuilt.{between, first_of, last_of}
use Rattle.kt_grammar.proofs.Advances.{halts_row, halts_left, halts_right, halts_second, halts_after}
use Rattle.kt_grammar.proofs.Extents.{placed}
use Rattle.kt_grammar.proofs.NameRows.{has_no_type}
use Rattle.kt_grammar.proofs.Progress.{goes_on}
use Rattle.kt_grammar.proofs.Steps.{has_both, standing, read_one, read_both, read_row, read_first, read_second}
use Rattle.kt_grammar.proofs.TypeRows.{stretch, has_op}

-- ---- parts have derivations

pub has_close_type : Productive grammar (both (op operator.CloseRound) colon_type)
has_close_type = has_both (has_op operator.CloseRound) has_no_type

pub has_behind_get : Productive grammar (both (op operator.OpenRound) (both (op operator.CloseRound) colon_type))
has_behind_get = has_both (has_op operator.OpenRound) has_close_type

pub has_behind_head : (var : Bool) → Productive grammar (spec.behind_head var)
has_behind_head var = let k = has_both has_value (has_behind_value var) in (k.0, right k.1, d_right k.2)

pub has_accessors : (var : Bool) → Productive grammar (row (rows.accessors var))
has_accessors var =
    let g = has_both {a = one is_get} (has_member_word word.Get) has_behind_get in
    let k = has_both {a = row rows.getter_head} (g.0, node g.1, d_row g.2) (has_behind_head var) in
    (k.0, node k.1, d_row k.2)

-- ---- the head

pub head_from : {ts : List Token} {start a b c : Cursor} → Moved is_get ts start a → Moved (is_op operator.OpenRound) ts a b → Moved (is_op operator.CloseRound) ts b c
    → (r : Result (Option «Type» × Cursor) (Fail ℕ)) → Advances colon_type expressions.written_type ts c r → Advances (row rows.getter_head) spec.type_in_head ts start r
head_from g o k (Ok m) p = record {
  tree = node (pair (leaf g.taken.token) (pair (leaf o.taken.token) (pair (leaf k.taken.token) p.tree)));
  looked = max 0 (max 0 (max 0 p.looked));
  read = read_row (read_both (read_one g.taken) (read_both (read_one o.taken) (read_both (read_one k.taken) p.read)));
  builds = p.builds;
  so_far = omega (arith, g.so_far, o.so_far, k.so_far, p.so_far);
}
head_from g o k (Err e) p = halts_row (halts_after g.taken g.so_far (halts_after o.taken o.so_far (halts_after k.taken k.so_far p)))

-- ---- bodies

getter_alike : (ty : Option «Type») {s u : Span} {b d : FunBody} → s ≡ u → b ≡ d → (let g : Getter = record { span = s; ty = ty; body = b } in g) ≡ record { span = u; ty = ty; body = d }
getter_alike ty f g = cc

pub braces_from : (begin : ℕ) (ty : Option «Type») {ts : List Token} {start end : Cursor} {s : Span} {xs : List Expr} → Advanced (row rows.block) expressions.block_statements ts start end xs → s ≡ stretch ts begin end.at
    → Advanced (row rows.block) (spec.getter_in_braces (first (drop begin ts)) ty) ts start end (record { span = s; ty = ty; body = fun_body.Block xs })
braces_from begin ty {ts = ts} p f = record {
  tree = p.tree;
  looked = p.looked;
  read = p.read;
  builds = getter_alike ty (f ∙ ap (λ t. between (first (drop begin ts)) t) (sym (placed (goes_on refl p.read) p.read).ends)) (ap fun_body.Block p.builds);
  so_far = p.so_far;
}

pub value_from : (begin : ℕ) (ty : Option «Type») {ts : List Token} {start mid end : Cursor} {s : Span} {x : Expr} → Moved (is_op operator.Assign) ts start mid → Advanced (row rows.expression) expressions.expression_of ts mid end x
    → s ≡ stretch ts begin end.at → Advanced value (spec.getter_with_value (first (drop begin ts)) ty) ts start end (record { span = s; ty = ty; body = fun_body.Expr x })
value_from begin ty {ts = ts} o p f = record {
  tree = pair (leaf o.taken.token) p.tree;
  looked = max 0 p.looked;
  read = read_both (read_one o.taken) p.read;
  builds = getter_alike ty (f ∙ ap (λ t. between (first (drop begin ts)) t) (sym (placed (goes_on refl p.read) p.read).ends)) (ap fun_body.Expr p.builds);
  so_far = omega (arith, o.so_far, p.so_far);
}

-- ---- setters behind them

accessors_alike : {g h : Option Getter} {s u : Option Setter} → g ≡ h → s ≡ u → (let a : AccessorPair = record { getter = g; setter = s } in a) ≡ record { getter = h; setter = u }
accessors_alike e f = cc

pub with_setter : (a : Part Row Token) (of : Cst Token → Option Setter) (g : Getter) {ts : List Token} {start end : Cursor} {s : Option Setter} → Advanced a of ts start end s
    → Advanced a (λ c. (let k : AccessorPair = record { getter = Some g; setter = of c } in k)) ts start end (record { getter = Some g; setter = s })
with_setter a of g p = record { tree = p.tree; looked = p.looked; read = p.read; builds = accessors_alike refl p.builds; so_far = p.so_far }

pub braces_then : (t : Option Token) (ty : Option «Type») (var : Bool) {ts : List Token} {start mid : Cursor} {g : Getter} → start.at ≤ length ts → test (is_op operator.OpenBrace) (first (drop start.at ts)) ≡ true
    → Advanced (row rows.block) (spec.getter_in_braces t ty) ts start mid g → (r : Result (AccessorPair × Cursor) (Fail ℕ))
    → Advances (rows.setter_behind_block var) (λ c. (let k : AccessorPair = record { getter = Some g; setter = built.setter_behind_block_of c } in k)) ts mid r → Advances (spec.behind_head var) (spec.behind_head_of t ty) ts start r
braces_then t ty var w h p (Ok k) q = record {
  tree = left (pair p.tree q.tree);
  looked = max p.looked q.looked;
  read = read_first h (read_both p.read q.read);
  builds = q.builds ∙ accessors_alike (ap Some p.builds) refl;
  so_far = omega (arith, p.so_far, q.so_far);
}
braces_then t ty var w h p (Err e) q = halts_left w h (halts_second p.read p.so_far q)

pub value_then : (t : Option Token) (ty : Option «Type») (var : Bool) {ts : List Token} {start mid : Cursor} {g : Getter} → start.at ≤ length ts → test (is_op operator.OpenBrace) (first (drop start.at ts)) ≡ false
    → Advanced value (spec.getter_with_value t ty) ts start mid g → (r : Result (AccessorPair × Cursor) (Fail ℕ))
    → Advances (rows.setter_behind_value var) (λ c. (let k : AccessorPair = record { getter = Some g; setter = built.setter_behind_value_of c } in k)) ts mid r → Advances (spec.behind_head var) (spec.behind_head_of t ty) ts start r
value_then t ty var w h p (Ok k) q = record {
  tree = right (pair p.tree q.tree);
  looked = max p.looked q.looked;
  read = read_second h (read_both p.read q.read);
  builds = q.builds ∙ accessors_alike (ap Some p.builds) refl;
  so_far = omega (arith, p.so_far, q.so_far);
}
value_then t ty var w h p (Err e) q = halts_right w h (halts_second p.read p.so_far q)

-- ---- the whole

accessors_built : (var : Bool) {ts r us q : List Token} {x y : Cst Token} → Reads grammar (row rows.getter_head) ts x r → Reads grammar (spec.behind_head var) us y q
    → spec.behind_head_of (first_of x) (spec.type_in_head x) y ≡ spec.accessors_of (node (pair x y))
accessors_built var (r_row (r_both (r_one h) (r_both d (r_both e f)))) (r_left i (r_both j k)) = refl
accessors_built var (r_row (r_both (r_one h) (r_both d (r_both e f)))) (r_right i (r_both (r_both (r_one l) m) k)) = refl

pub accessors_from : (var : Bool) {ts : List Token} {start mid : Cursor} {ty : Option «Type»} → Advanced (row rows.getter_head) spec.type_in_head ts start mid ty → (r : Result (AccessorPair × Cursor) (Fail ℕ))
    → Advances (spec.behind_head var) (spec.behind_head_of (first (drop start.at ts)) ty) ts mid r → Advances (row (rows.accessors var)) spec.accessors_of ts start r
accessors_from var {ty = ty} p (Ok k) q = record {
  tree = node (pair p.tree q.tree);
  looked = max p.looked q.looked;
  read = read_row (read_both p.read q.read);
  builds = q.builds ∙ ap (λ t. spec.behind_head_of t ty q.tree) (sym (placed (goes_on refl p.read) p.read).begins) ∙ ap (λ (m : Option «Type»). spec.behind_head_of (first_of p.tree) m q.tree) p.builds
      ∙ accessors_built var p.read.reads q.read.reads;
  so_far = omega (arith, p.so_far, q.so_far);
}
accessors_from var p (Err e) q = halts_row (halts_second p.read p.so_far q)

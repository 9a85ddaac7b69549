-- The steps of the functions that read loops.
use Rattle.std.proofs.Common.{◌≡◌, ℕ, ◌-◌, ◌<◌, ◌≤◌, max, Bool, true, false, List, [], ◌∷◌, ◌++◌, length, drop, Result, Ok, Err, Option, None, refl, sym, ap, ◌∙◌, arith}
use Rattle.grammars.specs.Grammar.{Part, row, both, Cst, leaf, node, pair, left, right, first, test, d_right, Reads, r_one, r_both, r_left, r_right, Productive}
use Rattle.kc_text.specs.declared.errors.Fail.{Fail}
use Rattle.kc_tree.specs.declared.fault.Span.{Span}
use Rattle.kc_tree.specs.declared.types.Word.{Word}
use Rattle.kc_tree.specs.declared.expr.Expr.{Expr}
use Rattle.kc_tree.specs.declared.expr.ExprKind.TheVariants as e
use Rattle.kc_tree.specs.declared.expr.LocalName.{LocalName}
use Rattle.kt_bodies.specs.Terminals.{NameMoved}
use Rattle.kt_bodies.proofs.StatementRows.{has_statement}
use Rattle.kt_control.specs.declared.loops.Head.{Head}
use Rattle.kt_control.specs.declared.loops.Variables.{Variables}
use Rattle.kt_control.specs.Conditionals.{bracketed_of, body_of}
use Rattle.kt_control.specs.Labels.{label}
use Rattle.kt_control.specs.Locals.{only_one}
use Rattle.kt_control.specs.Loops.{bare_inside, bare_of, bare, in_round_of, variables, variables_of, over, over_of, head_with, inside, inside_of, head, head_of, for_, for_of, while_, while_of, while_test, while_test_of, do_, do_of, turns, turns_of}
use Rattle.kt_control.specs.Places.{place_of}
use Rattle.kt_control.proofs.ConditionalRows.{has_bracketed}
use Rattle.kt_control.proofs.LocalRows.{has_typed_name}
use Rattle.kt_grammar.proofs.OperatorRows.{has_expression}
use Rattle.kt_control.proofs.TokenMoves.{has_word}
use Rattle.kt_lexer.specs.declared.token.Token.{Token}
use Rattle.kt_lexer.specs.declared.token.Keyword.TheVariants as keyword
use Rattle.kt_lexer.specs.declared.token.Operator.TheVariants as operator
use Rattle.kt_grammar.specs.declared.cursor.Cursor.{Cursor}
use Rattle.kt_grammar.specs.Built as built
use Rattle.kt_grammar.specs.Moves.{Moved}
use Rattle.kt_grammar.specs.Parsed.{Read, Advanced, Advances}
use Rattle.kt_grammar.specs.Rows as rows
use Rattle.kt_grammar.specs.Rows.{Row, grammar, op, in_brackets}
use Rattle.kt_grammar.specs.Tokens.{is_op, is_word}
use Rattle.kt_grammar.specs.TypesBuilt.{between, first_of, last_of}
use Rattle.kt_grammar.proofs.Advances.{halts_row, halts_left, halts_right, halts_second}
use Rattle.kt_grammar.proofs.Extents.{placed}
use Rattle.kt_grammar.proofs.NameRows.{has_bare_end}
use Rattle.kt_grammar.proofs.Progress.{goes_on}
use Rattle.kt_grammar.proofs.Steps.{has_both, read_one, read_both, read_row, read_first, read_second}
use Rattle.kt_grammar.proofs.TypeRows.{stretch, has_op, has_name}

-- ---- parts have derivations

pub has_close : Productive grammar (op operator.CloseRound)
has_close = has_op operator.CloseRound

pub has_bare_inside : Productive grammar bare_inside
has_bare_inside = has_both has_name has_bare_end

pub has_bare_close : Productive grammar (both bare_inside (op operator.CloseRound))
has_bare_close = has_both has_bare_inside has_close

pub has_over : Productive grammar over
has_over = has_both (has_word keyword.In) has_expression

has_variables : Productive grammar variables
has_variables = let k = has_typed_name in (k.0, right k.1, d_right k.2)

has_inside : Productive grammar inside
has_inside = has_both has_variables has_over

pub has_inside_close : Productive grammar (both inside (op operator.CloseRound))
has_inside_close = has_both has_inside has_close

has_head : Productive grammar head
has_head = has_both (has_op operator.OpenRound) has_inside_close

pub has_behind_for : Productive grammar (both head (row rows.statement))
has_behind_for = has_both has_head has_statement

pub has_behind_while : Productive grammar (both (in_brackets (row rows.expression)) (row rows.statement))
has_behind_while = has_both has_bracketed has_statement

pub has_while_test : Productive grammar while_test
has_while_test = has_both (has_word keyword.While) has_bracketed

pub has_behind_do : Productive grammar (both (row rows.statement) while_test)
has_behind_do = has_both has_statement has_while_test

-- ---- the variables of a `for`

bare_alike : {w v : Word} → w ≡ v → (let n : LocalName = record { name = w; ty = None } in n) ≡ record { name = v; ty = None }
bare_alike f = ap (λ (w : Word). (let n : LocalName = record { name = w; ty = None } in n)) f

pub bare_from : {w : Word} (ns ms : List LocalName) {ts : List Token} {start mid end : Cursor} → NameMoved ts start mid w → ns ≡ only_one w None
    → Advanced (row rows.bare_names) (λ c. ns ++ built.bare_names_of c) ts mid end ms → Advanced bare_inside bare_of ts start end ms
bare_from ns ms n i p = record {
  tree = pair (leaf n.taken.token) p.tree;
  looked = max 0 p.looked;
  read = read_both (read_one n.taken) p.read;
  builds = p.builds ∙ ap (λ ns. ns ++ built.bare_names_of p.tree) i ∙ ap (λ n. n ∷ built.bare_names_of p.tree) (bare_alike n.word);
  so_far = omega (arith, n.so_far, p.so_far);
}

variables_alike : {ns ms : List LocalName} (b : Bool) → ns ≡ ms → (let v : Variables = record { names = ns; brackets = b } in v) ≡ record { names = ms; brackets = b }
variables_alike b f = ap (λ (ns : List LocalName). (let v : Variables = record { names = ns; brackets = b } in v)) f

pub round_from : {ns : List LocalName} {ts : List Token} {start mid next end : Cursor} → Moved (is_op operator.OpenRound) ts start mid → Advanced bare_inside bare_of ts mid next ns → Moved (is_op operator.CloseRound) ts next end
    → Advanced bare in_round_of ts start end (record { names = ns; brackets = true })
round_from o p q = record {
  tree = pair (leaf o.taken.token) (pair p.tree (leaf q.taken.token));
  looked = max 0 (max p.looked 0);
  read = read_both (read_one o.taken) (read_both p.read (read_one q.taken));
  builds = variables_alike true p.builds;
  so_far = omega (arith, o.so_far, p.so_far, q.so_far);
}

pub variables_round : (ts : List Token) (start : Cursor) → start.at ≤ length ts → test (is_op operator.OpenRound) (first (drop start.at ts)) ≡ true → (r : Result (Variables × Cursor) (Fail ℕ))
    → Advances bare in_round_of ts start r → Advances variables variables_of ts start r
variables_round ts start w h (Ok k) q = record { tree = left q.tree; looked = q.looked; read = read_first h q.read; builds = q.builds; so_far = q.so_far }
variables_round ts start w h (Err x) q = halts_left w h q

pub variables_one : {no_names ns : List LocalName} {ts : List Token} {start end : Cursor} → test (is_op operator.OpenRound) (first (drop start.at ts)) ≡ false → no_names ≡ []
    → Advanced (row rows.typed_name) (λ c. no_names ++ built.typed_name_of c) ts start end ns → Advanced variables variables_of ts start end (record { names = ns; brackets = false })
variables_one h i p = record {
  tree = right p.tree;
  looked = p.looked;
  read = read_second h p.read;
  builds = variables_alike false (p.builds ∙ ap (λ ns. ns ++ built.typed_name_of p.tree) i);
  so_far = p.so_far;
}

-- ---- what a `for` goes over

pub over_from : {ts : List Token} {start mid end : Cursor} {x y : Expr} → Moved (is_word keyword.In) ts start mid → Advanced (row rows.expression) built.expression_of ts mid end x → y ≡ x → Advanced over over_of ts start end y
over_from o p f = record {
  tree = pair (leaf o.taken.token) p.tree;
  looked = max 0 p.looked;
  read = read_both (read_one o.taken) p.read;
  builds = f ∙ p.builds;
  so_far = omega (arith, o.so_far, p.so_far);
}

head_alike : (v : Variables) {s u : Span} {x y : Expr} → s ≡ u → x ≡ y
    → (let h : Head = record { names = v.names; brackets = v.brackets; token = s; range = x } in h) ≡ record { names = v.names; brackets = v.brackets; token = u; range = y }
head_alike v f g = cc

head_built : (v : Variables) {ts r : List Token} {c : Cst Token} → Reads grammar over ts c r
    → (let h : Head = record { names = v.names; brackets = v.brackets; token = place_of (first_of c); range = over_of c } in h) ≡ head_with v c
head_built v (r_both (r_one h) x) = refl

pub head_from : (v : Variables) {ts : List Token} {start end : Cursor} {s : Span} {x : Expr} → Advanced over over_of ts start end x → s ≡ place_of (first (drop start.at ts))
    → Advanced over (head_with v) ts start end (record { names = v.names; brackets = v.brackets; token = s; range = x })
head_from v p f = record {
  tree = p.tree;
  looked = p.looked;
  read = p.read;
  builds = head_alike v (f ∙ ap place_of (sym (placed (goes_on refl p.read) p.read).begins)) p.builds ∙ head_built v p.read.reads;
  so_far = p.so_far;
}

pub inside_from : {v : Variables} {ts : List Token} {start mid : Cursor} → Advanced variables variables_of ts start mid v → (r : Result (Head × Cursor) (Fail ℕ))
    → Advances over (head_with v) ts mid r → Advances inside inside_of ts start r
inside_from p (Ok k) q = record {
  tree = pair p.tree q.tree;
  looked = max p.looked q.looked;
  read = read_both p.read q.read;
  builds = q.builds ∙ ap (λ (v : Variables). head_with v q.tree) p.builds;
  so_far = omega (arith, p.so_far, q.so_far);
}
inside_from p (Err x) q = halts_second p.read p.so_far q

pub head_closed : {h : Head} {ts : List Token} {start mid next end : Cursor} → Moved (is_op operator.OpenRound) ts start mid → Advanced inside inside_of ts mid next h → Moved (is_op operator.CloseRound) ts next end
    → Advanced head head_of ts start end h
head_closed o p q = record {
  tree = pair (leaf o.taken.token) (pair p.tree (leaf q.taken.token));
  looked = max 0 (max p.looked 0);
  read = read_both (read_one o.taken) (read_both p.read (read_one q.taken));
  builds = p.builds;
  so_far = omega (arith, o.so_far, p.so_far, q.so_far);
}

-- ---- loops behind their labels

-- the place of a node from a token to the end of a reading
to_end : (o : Option Token) {a : Part Row Token} {ts : List Token} {at end looked : ℕ} {x : Cst Token} (p : Read a ts at end looked x) → at < end → between o (first (drop (end - 1) ts)) ≡ between o (last_of x)
to_end o p lt = ap (λ t. between o t) (sym (placed lt p).ends)

abbrev for_at : Option Word → Span → Head → Expr → Expr
for_at l s h y = record { span = s; kind = e.For l h.names h.brackets h.token h.range y }

for_alike : (l : Option Word) {s u : Span} {h k : Head} {x y : Expr} → s ≡ u → h ≡ k → x ≡ y → for_at l s h x ≡ for_at l u k y
for_alike l {u = u} {h = h} {k = k} {x = x} f g i = ap (λ (s : Span). for_at l s h x) f ∙ ap (λ (h : Head). for_at l u h x) g ∙ ap (λ (y : Expr). for_at l u k y) i

pub for_from : (begin : ℕ) (l : Option Word) {ts : List Token} {start a b end : Cursor} {s : Span} {h : Head} {x y : Expr} → Moved (is_word keyword.For) ts start a → Advanced head head_of ts a b h
    → Advanced (row rows.statement) body_of ts b end x → s ≡ stretch ts begin end.at → y ≡ record { span = s; kind = e.For l h.names h.brackets h.token h.range x }
    → Advanced for_ (for_of (first (drop begin ts)) l) ts start end y
for_from begin l {ts = ts} o p q f g = record {
  tree = pair (leaf o.taken.token) (pair p.tree q.tree);
  looked = max 0 (max p.looked q.looked);
  read = read_both (read_one o.taken) (read_both p.read q.read);
  builds = g ∙ for_alike l (f ∙ to_end (first (drop begin ts)) q.read (goes_on refl q.read)) p.builds q.builds;
  so_far = omega (arith, o.so_far, p.so_far, q.so_far);
}

while_alike : (l : Option Word) {s u : Span} {x y v w : Expr} → s ≡ u → x ≡ y → v ≡ w → (let z : Expr = record { span = s; kind = e.While l x v } in z) ≡ record { span = u; kind = e.While l y w }
while_alike l f g h = cc

pub while_from : (begin : ℕ) (l : Option Word) {ts : List Token} {start a b end : Cursor} {s : Span} {x y z : Expr} → Moved (is_word keyword.While) ts start a → Advanced (in_brackets (row rows.expression)) bracketed_of ts a b x
    → Advanced (row rows.statement) body_of ts b end y → s ≡ stretch ts begin end.at → z ≡ record { span = s; kind = e.While l x y } → Advanced while_ (while_of (first (drop begin ts)) l) ts start end z
while_from begin l {ts = ts} o p q f g = record {
  tree = pair (leaf o.taken.token) (pair p.tree q.tree);
  looked = max 0 (max p.looked q.looked);
  read = read_both (read_one o.taken) (read_both p.read q.read);
  builds = g ∙ while_alike l (f ∙ to_end (first (drop begin ts)) q.read (goes_on refl q.read)) p.builds q.builds;
  so_far = omega (arith, o.so_far, p.so_far, q.so_far);
}

pub test_from : {ts : List Token} {start mid end : Cursor} {x : Expr} → Moved (is_word keyword.While) ts start mid → Advanced (in_brackets (row rows.expression)) bracketed_of ts mid end x
    → Advanced while_test while_test_of ts start end x
test_from o p = record {
  tree = pair (leaf o.taken.token) p.tree;
  looked = max 0 p.looked;
  read = read_both (read_one o.taken) p.read;
  builds = p.builds;
  so_far = omega (arith, o.so_far, p.so_far);
}

do_alike : (l : Option Word) {s u : Span} {x y v w : Expr} → s ≡ u → x ≡ y → v ≡ w → (let z : Expr = record { span = s; kind = e.DoWhile l x v } in z) ≡ record { span = u; kind = e.DoWhile l y w }
do_alike l f g h = cc

pub do_from : (begin : ℕ) (l : Option Word) {ts : List Token} {start a b end : Cursor} {s : Span} {x y z : Expr} → Moved (is_word keyword.Do) ts start a → Advanced (row rows.statement) body_of ts a b x
    → Advanced while_test while_test_of ts b end y → s ≡ stretch ts begin end.at → z ≡ record { span = s; kind = e.DoWhile l x y } → Advanced do_ (do_of (first (drop begin ts)) l) ts start end z
do_from begin l {ts = ts} o p q f g = record {
  tree = pair (leaf o.taken.token) (pair p.tree q.tree);
  looked = max 0 (max p.looked q.looked);
  read = read_both (read_one o.taken) (read_both p.read q.read);
  builds = g ∙ do_alike l (f ∙ to_end (first (drop begin ts)) q.read (goes_on refl q.read)) p.builds q.builds;
  so_far = omega (arith, o.so_far, p.so_far, q.so_far);
}

pub turns_for : (o : Option Token) (l : Option Word) (ts : List Token) (start : Cursor) → start.at ≤ length ts → test (is_word keyword.For) (first (drop start.at ts)) ≡ true → (r : Result (Expr × Cursor) (Fail ℕ))
    → Advances for_ (for_of o l) ts start r → Advances turns (turns_of o l) ts start r
turns_for o l ts start w h (Ok k) q = record { tree = left q.tree; looked = q.looked; read = read_first h q.read; builds = q.builds; so_far = q.so_far }
turns_for o l ts start w h (Err x) q = halts_left w h q

pub turns_while : (o : Option Token) (l : Option Word) (ts : List Token) (start : Cursor) → start.at ≤ length ts → test (is_word keyword.For) (first (drop start.at ts)) ≡ false
    → test (is_word keyword.While) (first (drop start.at ts)) ≡ true → (r : Result (Expr × Cursor) (Fail ℕ)) → Advances while_ (while_of o l) ts start r → Advances turns (turns_of o l) ts start r
turns_while o l ts start w h i (Ok k) q = record { tree = right (left q.tree); looked = q.looked; read = read_second h (read_first i q.read); builds = q.builds; so_far = q.so_far }
turns_while o l ts start w h i (Err x) q = halts_right w h (halts_left w i q)

pub turns_do : (o : Option Token) (l : Option Word) (ts : List Token) (start : Cursor) → start.at ≤ length ts → test (is_word keyword.For) (first (drop start.at ts)) ≡ false
    → test (is_word keyword.While) (first (drop start.at ts)) ≡ false → (r : Result (Expr × Cursor) (Fail ℕ)) → Advances do_ (do_of o l) ts start r → Advances turns (turns_of o l) ts start r
turns_do o l ts start w h i (Ok k) q = record { tree = right (right q.tree); looked = q.looked; read = read_second h (read_second i q.read); builds = q.builds; so_far = q.so_far }
turns_do o l ts start w h i (Err x) q = halts_right w h (halts_right w i q)

-- ---- the whole

loop_built : (l : Cst Token) {ts r : List Token} {c : Cst Token} → Reads grammar turns ts c r → turns_of (first_of (node (pair l c))) (built.label_of l) c ≡ built.loop_of (node (pair l c))
loop_built l (r_left h (r_both (r_one w) (r_both (r_both (r_one o) (r_both (r_both (r_left m (r_both (r_one p) (r_both (r_both (r_one n) ns) (r_one q)))) (r_both (r_one i) x)) (r_one c))) y))) = refl
loop_built l (r_left h (r_both (r_one w) (r_both (r_both (r_one o) (r_both (r_both (r_right m n) (r_both (r_one i) x)) (r_one c))) y))) = refl
loop_built l (r_right h (r_left k (r_both (r_one w) (r_both (r_both (r_one o) (r_both x (r_one c))) y)))) = refl
loop_built l (r_right h (r_right k (r_both (r_one w) (r_both y (r_both (r_one u) (r_both (r_one o) (r_both x (r_one c)))))))) = refl

pub loop_from : {l : Option Word} {ts : List Token} {start mid : Cursor} → Advanced label built.label_of ts start mid l → (r : Result (Expr × Cursor) (Fail ℕ))
    → Advances turns (turns_of (first (drop start.at ts)) l) ts mid r → Advances (row rows.loop) built.loop_of ts start r
loop_from {l = l} p (Ok k) q =
    let whole = read_row {n = rows.loop} (read_both p.read q.read) in
    record {
      tree = node (pair p.tree q.tree);
      looked = max p.looked q.looked;
      read = whole;
      builds = q.builds ∙ ap (λ t. turns_of t l q.tree) (sym (placed (goes_on refl whole) whole).begins) ∙ ap (λ (m : Option Word). turns_of (first_of (node (pair p.tree q.tree))) m q.tree) p.builds ∙ loop_built p.tree q.read.reads;
      so_far = omega (arith, p.so_far, q.so_far);
    }
loop_from p (Err x) q = halts_row (halts_second p.read p.so_far q)

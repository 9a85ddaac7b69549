-- The steps of the functions that read conditionals.
use Rattle.std.proofs.Common.{◌≡◌, ℕ, suc, ◌≤◌, max, Bool, true, false, not, if◌then◌else◌, List, [], ◌∷◌, length, drop, Option, Some, None, refl, sym, ap, ◌∙◌, arith}
use Rattle.std.proofs.lemmas.Bool.{eqb-true}
use Rattle.grammars.specs.Automata.{Step, go, stop, accepts, goes}
use Rattle.grammars.specs.Grammar.{row, both, Cst, none, leaf, node, pair, left, right, first, test, d_nothing, d_right, Reads, r_nothing, r_one, r_both, r_left, r_right, Productive}
use Rattle.grammars.proofs.Later.{begun_here, begun_second}
use Rattle.kc_tree.specs.declared.fault.Span.{Span}
use Rattle.kc_tree.specs.declared.expr.Expr.{Expr}
use Rattle.kc_tree.specs.declared.expr.ExprKind.TheVariants as e
use Rattle.kt_bodies.specs.Looks.{Looked}
use Rattle.kt_bodies.proofs.Looking.{Says, looked_left, looked_right}
use Rattle.kt_bodies.proofs.StatementRows.{has_statement}
use Rattle.kt_control.specs.declared.conditionals.Arms.{Arms}
use Rattle.kt_control.specs.Conditionals.{bracketed_of, body_of, semicolon, else_word, else_part, else_of, maybe_else, failed_of, behind_test, arms_of, last_place, Passed, ElseAt}
use Rattle.kt_control.specs.Places.{place_of}
use Rattle.kt_grammar.proofs.OperatorRows.{has_expression}
use Rattle.kt_control.proofs.TokenMoves.{has_word}
use Rattle.kt_lexer.specs.declared.token.Token.{Token}
use Rattle.kt_lexer.specs.declared.token.Keyword.TheVariants as keyword
use Rattle.kt_lexer.specs.declared.token.Operator.TheVariants as operator
use Rattle.kt_grammar.specs.declared.cursor.Cursor.{Cursor}
use Rattle.kt_grammar.specs.Built as built
use Rattle.kt_grammar.specs.Built.{across}
use Rattle.kt_grammar.specs.Lookahead as tests
use Rattle.kt_grammar.specs.Lookahead.{Turn, else_step, else_at_end, else_follows}
use Rattle.kt_grammar.specs.Moves.{Moved}
use Rattle.kt_grammar.specs.Parsed.{Advanced, Taken}
use Rattle.kt_grammar.specs.Rows as rows
use Rattle.kt_grammar.specs.Rows.{Row, grammar, op, word, in_brackets}
use Rattle.kt_grammar.specs.Tokens.{class_of, is_op, is_word}
use Rattle.kt_grammar.proofs.Steps.{BegunAt, standing, has_both, read_one, read_both, read_row, read_first, read_second, read_nothing}
use Rattle.kt_grammar.proofs.TypeRows.{first_taken, has_op}

-- ---- parts have derivations

pub has_expression_close : Productive grammar (both (row rows.expression) (op operator.CloseRound))
has_expression_close = has_both has_expression (has_op operator.CloseRound)

pub has_bracketed : Productive grammar (in_brackets (row rows.expression))
has_bracketed = has_both (has_op operator.OpenRound) has_expression_close

pub has_else_word : Productive grammar else_word
has_else_word = has_both (has_word keyword.Else) has_statement

pub has_no_else : Productive grammar maybe_else
has_no_else = ([], right none, d_right d_nothing)

pub has_behind_test : Productive grammar behind_test
has_behind_test = has_both has_statement has_no_else

pub has_behind_if : Productive grammar (both (in_brackets (row rows.expression)) behind_test)
has_behind_if = has_both has_bracketed has_behind_test

-- ---- brackets

pub bracketed_from : {ts : List Token} {start next mid end : Cursor} {x : Expr} → Moved (is_op operator.OpenRound) ts start next → Advanced (row rows.expression) built.expression_of ts next mid x
    → Moved (is_op operator.CloseRound) ts mid end → Advanced (in_brackets (row rows.expression)) bracketed_of ts start end x
bracketed_from o p q = record {
  tree = pair (leaf o.taken.token) (pair p.tree (leaf q.taken.token));
  looked = max 0 (max p.looked 0);
  read = read_both (read_one o.taken) (read_both p.read (read_one q.taken));
  builds = p.builds;
  so_far = omega (arith, o.so_far, p.so_far, q.so_far);
}

-- ---- a body

pub body_from : {ts : List Token} {start end : Cursor} {x y z : Expr} → Advanced (row rows.statement) built.statement_of ts start end x → y ≡ built.as_body x → z ≡ y
    → Advanced (row rows.statement) body_of ts start end z
body_from p f g = record { tree = p.tree; looked = p.looked; read = p.read; builds = g ∙ f ∙ ap built.as_body p.builds; so_far = p.so_far }

-- ---- the look for `else`

abbrev said : Step Turn → List Token → Bool
said k r = elim k as (λ _. Bool) [ go s ↦ accepts else_step else_at_end r s | stop b ↦ b ]

abbrev gone : Step Turn → List Token → ℕ
gone k r = elim k as (λ _. ℕ) [ go s ↦ suc (goes else_step else_at_end r s) | stop b ↦ 0 ]

-- what a state other than the first makes of `else`, or of another token
abbrev if_else : Bool → Step Turn
if_else b = if b then go tests.otherwise else stop false

otherwise_says : (us : List Token) → accepts else_step else_at_end us tests.otherwise ≡ not (test (is_op operator.Arrow) (first us))
otherwise_says [] = refl
otherwise_says (t ∷ us) = refl

otherwise_goes : (us : List Token) → goes else_step else_at_end us tests.otherwise ≡ 0
otherwise_goes [] = refl
otherwise_goes (t ∷ us) = refl

no_else_says : (us : List Token) → test (is_word keyword.Else) (first us) ≡ false → accepts else_step else_at_end us tests.semicolon ≡ false
no_else_says [] h = refl
no_else_says (t ∷ us) h = ap (λ b. said (if_else b) us) h

no_else_goes : (us : List Token) → test (is_word keyword.Else) (first us) ≡ false → goes else_step else_at_end us tests.semicolon ≡ 0
no_else_goes [] h = refl
no_else_goes (t ∷ us) h = ap (λ b. gone (if_else b) us) h

pub no_else_at : (ts : List Token) (at : ℕ) → at ≤ length ts → test (is_word keyword.Else) (first (drop at ts)) ≡ false → ElseAt ts at false at
no_else_at ts at w h = record {
  is = sym (no_else_says (drop at ts) h);
  far = omega (arith, no_else_goes (drop at ts) h);
  within = w;
  begun = begun_here grammar (drop at ts) has_else_word;
}

else_says : {ts : List Token} {at next : ℕ} (o : Taken (is_word keyword.Else) ts at next) → accepts else_step else_at_end (drop at ts) tests.semicolon ≡ not (test (is_op operator.Arrow) (first (drop next ts)))
else_says {ts = ts} {next = next} o =
    ap (λ us. accepts else_step else_at_end us tests.semicolon) o.here ∙ ap (λ b. said (if_else b) (drop next ts)) o.is_so ∙ otherwise_says (drop next ts)

else_goes : {ts : List Token} {at next : ℕ} (o : Taken (is_word keyword.Else) ts at next) → goes else_step else_at_end (drop at ts) tests.semicolon ≡ 1
else_goes {ts = ts} {next = next} o =
    ap (λ us. goes else_step else_at_end us tests.semicolon) o.here ∙ ap (λ b. gone (if_else b) (drop next ts)) o.is_so ∙ ap suc (otherwise_goes (drop next ts))

pub one_else_at : {ts : List Token} {at next : ℕ} {b : Bool} → Taken (is_word keyword.Else) ts at next → b ≡ not (test (is_op operator.Arrow) (first (drop next ts))) → ElseAt ts at b next
one_else_at {ts = ts} {next = next} o e = record {
  is = e ∙ sym (else_says o);
  far = omega (arith, o.next, else_goes o);
  within = o.within;
  begun = begun_second grammar (read_one o).reads (begun_here grammar (drop next ts) has_statement);
}

-- what the first state makes of a token that is no `else`
abbrev if_semicolon : Bool → Bool → Step Turn
if_semicolon a b = if a then go tests.otherwise else if b then go tests.semicolon else stop false

plain_says : (us : List Token) → test (is_op operator.Semicolon) (first us) ≡ false → accepts else_step else_at_end us tests.body_end ≡ accepts else_step else_at_end us tests.semicolon
plain_says [] h = refl
plain_says (t ∷ us) h = ap (λ b. said (if_semicolon (is_word keyword.Else t) b) us) h

plain_goes : (us : List Token) → test (is_op operator.Semicolon) (first us) ≡ false → goes else_step else_at_end us tests.body_end ≡ goes else_step else_at_end us tests.semicolon
plain_goes [] h = refl
plain_goes (t ∷ us) h = ap (λ b. gone (if_semicolon (is_word keyword.Else t) b) us) h

no_semicolon : (ts : List Token) (at : ℕ) → at ≤ length ts → test (is_op operator.Semicolon) (first (drop at ts)) ≡ false → Reads grammar semicolon (drop at ts) (right none) (drop at ts)
no_semicolon ts at w h = (read_second h (read_nothing w)).reads

pub says_plain : {ts : List Token} {at end : ℕ} {b : Bool} → test (is_op operator.Semicolon) (first (drop at ts)) ≡ false → ElseAt ts at b end → Says else_follows ts at b end
says_plain {ts = ts} {at = at} h k = record { is = k.is ∙ sym (plain_says (drop at ts) h); far = omega (arith, k.far, plain_goes (drop at ts) h) }

pub begun_plain : {ts : List Token} {at end : ℕ} {b : Bool} → at ≤ length ts → test (is_op operator.Semicolon) (first (drop at ts)) ≡ false → ElseAt ts at b end → BegunAt else_part ts at end
begun_plain {ts = ts} {at = at} w h k = begun_second grammar (no_semicolon ts at w h) k.begun

-- a `;` is no `else`
not_else : (t : Token) → is_op operator.Semicolon t ≡ true → is_word keyword.Else t ≡ false
not_else t h = rw (eqb-true (class_of t.kind) 35 h) refl

semicolon_step : (t : Token) → is_op operator.Semicolon t ≡ true → else_step tests.body_end t ≡ go tests.semicolon
semicolon_step t h = ap (λ a. if_semicolon a (is_op operator.Semicolon t)) (not_else t h) ∙ ap (λ b. if_semicolon false b) h

behind_says : {ts : List Token} {at next : ℕ} (o : Taken (is_op operator.Semicolon) ts at next) → accepts else_step else_at_end (drop at ts) tests.body_end ≡ accepts else_step else_at_end (drop next ts) tests.semicolon
behind_says {ts = ts} {next = next} o = ap (λ us. accepts else_step else_at_end us tests.body_end) o.here ∙ ap (λ k. said k (drop next ts)) (semicolon_step o.token o.is_so)

behind_goes : {ts : List Token} {at next : ℕ} (o : Taken (is_op operator.Semicolon) ts at next) → goes else_step else_at_end (drop at ts) tests.body_end ≡ suc (goes else_step else_at_end (drop next ts) tests.semicolon)
behind_goes {ts = ts} {next = next} o = ap (λ us. goes else_step else_at_end us tests.body_end) o.here ∙ ap (λ k. gone k (drop next ts)) (semicolon_step o.token o.is_so)

pub says_behind : {ts : List Token} {at next end : ℕ} {b : Bool} → Taken (is_op operator.Semicolon) ts at next → ElseAt ts next b end → Says else_follows ts at b end
says_behind o k = record { is = k.is ∙ sym (behind_says o); far = omega (arith, k.far, o.next, behind_goes o) }

pub begun_behind : {ts : List Token} {at next end : ℕ} {b : Bool} → Taken (is_op operator.Semicolon) ts at next → ElseAt ts next b end → BegunAt else_part ts at end
begun_behind o k = begun_second grammar (read_first (standing o) (read_one o)).reads k.begun

-- ---- `else`

pub semicolon_passed : {ts : List Token} {start end : Cursor} → Moved (is_op operator.Semicolon) ts start end → Passed semicolon ts start end
semicolon_passed o = record { tree = left (leaf o.taken.token); read = read_first (standing o.taken) (read_one o.taken); so_far = o.so_far }

pub none_passed : {ts : List Token} {at : Cursor} → at.at ≤ length ts → test (is_op operator.Semicolon) (first (drop at.at ts)) ≡ false → Passed semicolon ts at at
none_passed w h = record { tree = right none; read = read_second h (read_nothing w); so_far = refl }

pub else_from : {ts : List Token} {start mid next end : Cursor} {x : Expr} → Passed semicolon ts start mid → Moved (is_word keyword.Else) ts mid next → Advanced (row rows.statement) body_of ts next end x
    → Advanced else_part else_of ts start end x
else_from s o p = record {
  tree = pair s.tree (pair (leaf o.taken.token) p.tree);
  looked = max 0 (max 0 p.looked);
  read = read_both s.read (read_both (read_one o.taken) p.read);
  builds = p.builds;
  so_far = omega (arith, s.so_far, o.so_far, p.so_far);
}

pub no_else : {ts : List Token} {start mid : Cursor} → Looked else_follows else_part ts start mid false → Advanced maybe_else failed_of ts start mid None
no_else {ts = ts} {mid = mid} k =
    let w : mid.at ≤ length ts = omega (arith, k.within, k.same) in
    record { tree = right none; looked = max _ 0; read = looked_right k (read_nothing w); builds = refl; so_far = omega (arith, k.so_far) }

pub one_else : {ts : List Token} {start mid end : Cursor} {x : Expr} → Looked else_follows else_part ts start mid true → Advanced else_part else_of ts mid end x → Advanced maybe_else failed_of ts start end (Some x)
one_else k p = record { tree = left p.tree; looked = max _ p.looked; read = looked_left k p.read; builds = ap Some p.builds; so_far = omega (arith, k.so_far, p.so_far) }

-- ---- all bodies

arms_alike : {x y : Expr} {m n : Option Expr} → x ≡ y → m ≡ n → (let a : Arms = record { held = x; failed = m } in a) ≡ record { held = y; failed = n }
arms_alike f g = cc

pub arms_from : {ts : List Token} {start mid end : Cursor} {x : Expr} {m : Option Expr} → Advanced (row rows.statement) body_of ts start mid x → Advanced maybe_else failed_of ts mid end m
    → Advanced behind_test arms_of ts start end (record { held = x; failed = m })
arms_from p q = record {
  tree = pair p.tree q.tree;
  looked = max p.looked q.looked;
  read = read_both p.read q.read;
  builds = arms_alike p.builds q.builds;
  so_far = omega (arith, p.so_far, q.so_far);
}

-- ---- the whole

abbrev conditional_at : Option Token → Expr → Arms → Expr
conditional_at t x a = record { span = across (place_of t) (last_place a.held a.failed); kind = e.If x a.held a.failed }

conditional_built : (t : Token) {ts r us q : List Token} {b c : Cst Token} → Reads grammar (in_brackets (row rows.expression)) ts b r → Reads grammar behind_test us c q
    → conditional_at (Some t) (bracketed_of b) (arms_of c) ≡ built.conditional_of (node (pair (leaf t) (pair b c)))
conditional_built t (r_both (r_one h) (r_both x (r_one k))) (r_both y (r_left m (r_both s (r_both (r_one i) z)))) = refl
conditional_built t (r_both (r_one h) (r_both x (r_one k))) (r_both y (r_right m r_nothing)) = refl

conditional_alike : (t : Option Token) {x y : Expr} {a b : Arms} → x ≡ y → a ≡ b → conditional_at t x a ≡ conditional_at t y b
conditional_alike t {y = y} {a = a} f g = ap (λ (z : Expr). conditional_at t z a) f ∙ ap (λ (z : Arms). conditional_at t y z) g

if_alike : (x : Expr) (a : Arms) {s u : Span} → s ≡ u → (let z : Expr = record { span = s; kind = e.If x a.held a.failed } in z) ≡ record { span = u; kind = e.If x a.held a.failed }
if_alike x a f = ap (λ (s : Span). (let z : Expr = record { span = s; kind = e.If x a.held a.failed } in z)) f

pub conditional_from : {ts : List Token} {start next mid end : Cursor} {s u : Span} {x y : Expr} {a : Arms} → Moved (is_word keyword.If) ts start next → Advanced (in_brackets (row rows.expression)) bracketed_of ts next mid x
    → Advanced behind_test arms_of ts mid end a → u ≡ last_place a.held a.failed → s ≡ across (place_of (first (drop start.at ts))) u → y ≡ record { span = s; kind = e.If x a.held a.failed }
    → Advanced (row rows.conditional) built.conditional_of ts start end y
conditional_from {ts = ts} {start = start} {x = x} {a = a} o p q i f g = record {
  tree = node (pair (leaf o.taken.token) (pair p.tree q.tree));
  looked = max 0 (max p.looked q.looked);
  read = read_row (read_both (read_one o.taken) (read_both p.read q.read));
  builds = g ∙ if_alike x a (f ∙ ap (λ (m : Span). across (place_of (first (drop start.at ts))) m) i) ∙ ap (λ t. conditional_at t x a) (first_taken o.taken)
      ∙ conditional_alike (Some o.taken.token) p.builds q.builds ∙ conditional_built o.taken.token p.read.reads q.read.reads;
  so_far = omega (arith, o.so_far, p.so_far, q.so_far);
}

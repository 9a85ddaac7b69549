-- The steps of the functions that read `try`.
use Rattle.std.proofs.Common.{◌≡◌, ℕ, ◌≤◌, max, true, false, List, [], ◌∷◌, ◌++◌, length, drop, Result, Ok, Err, Option, Some, None, refl, sym, ap, ◌∙◌, arith, append_assoc, append-nil}
use Rattle.grammars.specs.Tests.{and_then}
use Rattle.grammars.specs.Grammar.{Test, Part, next, one, row, both, Cst, none, leaf, node, pair, left, right, first, test, d_nothing, d_one, d_row, d_right, d_done, Reads, r_nothing, r_one, r_row, r_both, r_left, r_right, Productive}
use Rattle.grammars.proofs.Later.{begun_here, begun_row, begun_first, begun_second}
use Rattle.kc_text.specs.declared.errors.Fail.{Fail}
use Rattle.kc_tree.specs.declared.fault.Span.{Span}
use Rattle.kc_tree.specs.declared.types.Word.{Word}
use Rattle.kc_tree.specs.declared.types.«Type».{«Type»}
use Rattle.kc_tree.specs.declared.expr.CatchPart.{CatchPart}
use Rattle.kc_tree.specs.declared.expr.Expr.{Expr}
use Rattle.kc_tree.specs.declared.expr.ExprKind.TheVariants as e
use Rattle.kt_bodies.specs.declared.tries.Clauses.{Clauses}
use Rattle.kt_bodies.specs.Looks.{Looked}
use Rattle.kt_bodies.specs.Terminals.{NameMoved}
use Rattle.kt_bodies.specs.Tries.{caught, caught_of, handler, more_catches, last_clause, last_block, maybe_last, maybe_block, with_catches, clauses, catching, clauses_of}
use Rattle.kt_bodies.proofs.Looking.{looked_left, looked_right, looked_turn, looked_stop, halts_looked_more}
use Rattle.kt_bodies.proofs.StatementRows.{has_to_brace}
use Rattle.kt_lexer.specs.declared.token.Token.{Token}
use Rattle.kt_lexer.specs.declared.token.TokenKind.TheVariants as kind
use Rattle.kt_lexer.specs.declared.token.Operator.TheVariants as operator
use Rattle.kt_lexer.specs.declared.token.Keyword.TheVariants as keyword
use Rattle.kt_grammar.specs.declared.cursor.Cursor.{Cursor}
use Rattle.kt_grammar.specs.Built as built
use Rattle.kt_grammar.specs.Lookahead.{catch_clause, finally_clause}
use Rattle.kt_grammar.specs.Moves.{Moved}
use Rattle.kt_grammar.specs.Parsed.{Advanced, Halts, Advances, Taken}
use Rattle.kt_grammar.specs.Rows as rows
use Rattle.kt_grammar.specs.Rows.{Row, grammar, op, word}
use Rattle.kt_grammar.specs.Tokens.{is_op, is_word, is_name, is_catch, is_finally}
use Rattle.kt_grammar.specs.TypesBuilt as types_built
use Rattle.kt_grammar.specs.TypesBuilt.{no_span, span_of, word_of, between, last_of, or_else}
use Rattle.kt_grammar.proofs.Advances.{halts_row, halts_left, halts_second, halts_after}
use Rattle.kt_grammar.proofs.Extents.{between_is, placed}
use Rattle.kt_grammar.proofs.Progress.{goes_on}
use Rattle.kt_grammar.proofs.Steps.{BegunAt, has_both, read_one, read_both, read_row, read_first, read_second, read_nothing}
use Rattle.kt_grammar.proofs.TypeRows.{stretch, first_taken, has_op, has_name, has_type}

-- ---- parts have derivations

pub has_block : Productive grammar (row rows.block)
has_block = let k = has_both (has_op operator.OpenBrace) has_to_brace in (k.0, node k.1, d_row k.2)

pub has_type_close : Productive grammar (op operator.CloseRound)
has_type_close = has_op operator.CloseRound

abbrev pub variable : Part Row Token
variable = both (one is_name) (both (op operator.Colon) (row rows.type_))

pub has_colon_type : Productive grammar (both (op operator.Colon) (row rows.type_))
has_colon_type = has_both (has_op operator.Colon) has_type

pub has_variable : Productive grammar variable
has_variable = has_both has_name has_colon_type

pub has_variable_close : Productive grammar (both variable (op operator.CloseRound))
has_variable_close = has_both has_variable (has_op operator.CloseRound)

pub has_caught : Productive grammar caught
has_caught = has_both (has_op operator.OpenRound) has_variable_close

pub has_caught_block : Productive grammar (both caught (row rows.block))
has_caught_block = has_both has_caught has_block

abbrev named : ℕ → Token
named n = record { kind = kind.Name n; span = no_span; marked = false }

pub has_catch : Productive grammar (row rows.catch_)
has_catch = let k = has_both {a = one is_catch} (named 0 ∷ [], leaf (named 0), d_one refl) has_caught_block in (k.0, node k.1, d_row k.2)

pub has_last_clause : Productive grammar last_clause
has_last_clause = has_both {a = one is_finally} (named 1 ∷ [], leaf (named 1), d_one refl) has_block

pub has_maybe_last : Productive grammar maybe_last
has_maybe_last = ([], right none, d_right d_nothing)

pub has_more_catches : Productive grammar more_catches
has_more_catches = ([], none, d_done)

pub has_behind_catch : Productive grammar (both more_catches maybe_last)
has_behind_catch = has_both has_more_catches has_maybe_last

pub has_clauses : Productive grammar clauses
has_clauses = let k = has_last_clause in (k.0, right k.1, d_right k.2)

pub has_block_clauses : Productive grammar (both (row rows.block) clauses)
has_block_clauses = has_both has_block has_clauses

-- ---- what looks have gone over

-- the test of a clause that catches, token by token
abbrev pub behind_bracket : Test Token
behind_bracket = and_then is_name (next (is_op operator.Colon))

abbrev pub behind_catch : Test Token
behind_catch = and_then (is_op operator.OpenRound) behind_bracket

pub catch_begun : {ts : List Token} {at next : ℕ} → Taken is_catch ts at next → BegunAt (row rows.catch_) ts at next
catch_begun {ts = ts} {next = next} o = begun_row grammar (begun_second grammar (read_one o).reads (begun_here grammar (drop next ts) has_caught_block))

pub catch_bracket_begun : {ts : List Token} {at mid next : ℕ} → Taken is_catch ts at mid → Taken (is_op operator.OpenRound) ts mid next → BegunAt (row rows.catch_) ts at next
catch_bracket_begun {ts = ts} {next = next} o b =
    begun_row grammar (begun_second grammar (read_one o).reads (begun_first grammar (begun_second grammar (read_one b).reads (begun_here grammar (drop next ts) has_variable_close)) has_block))

pub catch_name_begun : {ts : List Token} {at mid name next : ℕ} → Taken is_catch ts at mid → Taken (is_op operator.OpenRound) ts mid name → Taken is_name ts name next → BegunAt (row rows.catch_) ts at next
catch_name_begun {ts = ts} {next = next} o b n =
    begun_row grammar (begun_second grammar (read_one o).reads (begun_first grammar (begun_second grammar (read_one b).reads
    (begun_first grammar (begun_second grammar (read_one n).reads (begun_here grammar (drop next ts) has_colon_type)) (has_op operator.CloseRound))) has_block))

pub finally_begun : {ts : List Token} {at next : ℕ} → Taken is_finally ts at next → BegunAt last_clause ts at next
finally_begun {ts = ts} {next = next} o = begun_second grammar (read_one o).reads (begun_here grammar (drop next ts) has_block)

-- ---- clauses that catch

caught_alike : {w v : Word} {x y : «Type»} → w ≡ v → x ≡ y → (let p : Word × «Type» = (w, x) in p) ≡ (v, y)
caught_alike f g = cc

pub caught_from : {ts : List Token} {start a b c d end : Cursor} {w : Word} {x : «Type»} → Moved (is_op operator.OpenRound) ts start a → NameMoved ts a b w → Moved (is_op operator.Colon) ts b c
    → Advanced (row rows.type_) types_built.type_of ts c d x → Moved (is_op operator.CloseRound) ts d end → Advanced caught caught_of ts start end (w, x)
caught_from o n i p q = record {
  tree = pair (leaf o.taken.token) (pair (pair (leaf n.taken.token) (pair (leaf i.taken.token) p.tree)) (leaf q.taken.token));
  looked = max 0 (max (max 0 (max 0 p.looked)) 0);
  read = read_both (read_one o.taken) (read_both (read_both (read_one n.taken) (read_both (read_one i.taken) p.read)) (read_one q.taken));
  builds = caught_alike n.word p.builds;
  so_far = omega (arith, o.so_far, n.so_far, i.so_far, p.so_far, q.so_far);
}

pub before_close : {ts : List Token} {start a b c d : Cursor} {w : Word} {x : «Type»} {m : Fail ℕ} → Moved (is_op operator.OpenRound) ts start a → NameMoved ts a b w → Moved (is_op operator.Colon) ts b c
    → Advanced (row rows.type_) types_built.type_of ts c d x → Halts (op operator.CloseRound) ts d m → Halts caught ts start m
before_close o n i p q =
    halts_after o.taken o.so_far (halts_second (read_both (read_one n.taken) (read_both (read_one i.taken) p.read)) (omega (arith, n.so_far, i.so_far, p.so_far)) q)

handler_alike : (w : Word) (ty : «Type») {s u : Span} {x y : Expr} → s ≡ u → x ≡ y → (let c : CatchPart = record { span = s; name = w; ty = ty; body = x } in c) ≡ record { span = u; name = w; ty = ty; body = y }
handler_alike w ty f g = cc

pub handler_from : (xs ys : List CatchPart) (begin : ℕ) (w : Word) (ty : «Type») {ts : List Token} {start end : Cursor} {s : Span} {x : Expr} → Advanced (row rows.block) built.block_of ts start end x → s ≡ stretch ts begin end.at
    → ys ≡ xs ++ record { span = s; name = w; ty = ty; body = x } ∷ [] → Advanced (row rows.block) (λ c. xs ++ handler (first (drop begin ts)) w ty c ∷ []) ts start end ys
handler_from xs ys begin w ty {ts = ts} p f g = record {
  tree = p.tree;
  looked = p.looked;
  read = p.read;
  builds = g ∙ ap (λ h. xs ++ h ∷ []) (handler_alike w ty (f ∙ ap (λ t. between (first (drop begin ts)) t) (sym (placed (goes_on refl p.read) p.read).ends)) p.builds);
  so_far = p.so_far;
}

-- with the tokens at which a clause and its block begin and end
catch_built : {ts r us q : List Token} {x y : Cst Token} (t : Token) → Reads grammar caught ts x r → Reads grammar (row rows.block) us y q
    → handler (Some t) (caught_of x).0 (caught_of x).1 y ∷ [] ≡ built.catch_of (node (pair (leaf t) (pair x y)))
catch_built t (r_both (r_one h) (r_both (r_both (r_one k) (r_both (r_one i) p)) (r_one m))) (r_row (r_both (r_one n) (r_both d (r_one j)))) = refl

pub catch_from : (xs : List CatchPart) {ts : List Token} {start mid next : Cursor} {v : Word × «Type»} → Moved is_catch ts start mid → Advanced caught caught_of ts mid next v
    → (r : Result (List CatchPart × Cursor) (Fail ℕ)) → Advances (row rows.block) (λ c. xs ++ handler (first (drop start.at ts)) v.0 v.1 c ∷ []) ts next r → Advances (row rows.catch_) (λ c. xs ++ built.catch_of c) ts start r
catch_from xs {v = v} o p (Ok k) q = record {
  tree = node (pair (leaf o.taken.token) (pair p.tree q.tree));
  looked = max 0 (max p.looked q.looked);
  read = read_row (read_both (read_one o.taken) (read_both p.read q.read));
  builds = q.builds ∙ ap (λ t. xs ++ handler t v.0 v.1 q.tree ∷ []) (first_taken o.taken) ∙ ap (λ (u : Word × «Type»). xs ++ handler (Some o.taken.token) u.0 u.1 q.tree ∷ []) p.builds
      ∙ ap (λ ys. xs ++ ys) (catch_built o.taken.token p.read.reads q.read.reads);
  so_far = omega (arith, o.so_far, p.so_far, q.so_far);
}
catch_from xs o p (Err x) q = halts_row (halts_after o.taken o.so_far (halts_second p.read p.so_far q))

pub catches_turn : (xs ys : List CatchPart) {ts : List Token} {start mid next : Cursor} → Looked catch_clause (row rows.catch_) ts start mid true → Advanced (row rows.catch_) (λ c. xs ++ built.catch_of c) ts mid next ys
    → (r : Result (List CatchPart × Cursor) (Fail ℕ)) → Advances more_catches (λ c. ys ++ built.catches_of c) ts next r → Advances more_catches (λ c. xs ++ built.catches_of c) ts start r
catches_turn xs ys k p (Ok m) q = record {
  tree = pair p.tree q.tree;
  looked = max (max _ p.looked) q.looked;
  read = looked_turn k p.read q.read;
  builds = q.builds ∙ ap (λ zs. zs ++ built.catches_of q.tree) p.builds ∙ append_assoc xs (built.catch_of p.tree) (built.catches_of q.tree);
  so_far = omega (arith, k.so_far, p.so_far, q.so_far);
}
catches_turn xs ys k p (Err x) q = halts_looked_more k p.read p.so_far q

pub catches_end : (xs : List CatchPart) {ts : List Token} {start mid : Cursor} → Looked catch_clause (row rows.catch_) ts start mid false → Advanced more_catches (λ c. xs ++ built.catches_of c) ts start mid xs
catches_end xs k = record { tree = none; looked = _; read = looked_stop k; builds = sym (append-nil xs); so_far = k.so_far }

-- ---- `finally`

pub last_from : {ts : List Token} {start mid end : Cursor} {x y : Expr} → Moved is_finally ts start mid → Advanced (row rows.block) built.block_of ts mid end x → y ≡ x → Advanced last_clause last_block ts start end y
last_from o p g = record {
  tree = pair (leaf o.taken.token) p.tree;
  looked = max 0 p.looked;
  read = read_both (read_one o.taken) p.read;
  builds = g ∙ p.builds;
  so_far = omega (arith, o.so_far, p.so_far);
}

pub no_last : {ts : List Token} {start mid : Cursor} → Looked finally_clause last_clause ts start mid false → Advanced maybe_last maybe_block ts start mid None
no_last {ts = ts} {start = start} {mid = mid} k =
    let w : mid.at ≤ length ts = omega (arith, k.within, k.same) in
    record { tree = right none; looked = max _ 0; read = looked_right k (read_nothing w); builds = refl; so_far = omega (arith, k.so_far) }

pub one_last : {ts : List Token} {start mid end : Cursor} {x : Expr} → Looked finally_clause last_clause ts start mid true → Advanced last_clause last_block ts mid end x → Advanced maybe_last maybe_block ts start end (Some x)
one_last k p = record { tree = left p.tree; looked = max _ p.looked; read = looked_left k p.read; builds = ap Some p.builds; so_far = omega (arith, k.so_far, p.so_far) }

-- ---- all clauses

clauses_alike : {xs ys : List CatchPart} {x y : Option Expr} → xs ≡ ys → x ≡ y → (let c : Clauses = record { catches = xs; last = x } in c) ≡ record { catches = ys; last = y }
clauses_alike f g = cc

pub catching_from : {none_yet xs ys : List CatchPart} {ts : List Token} {start mid next end : Cursor} {x : Option Expr} → none_yet ≡ [] → Advanced (row rows.catch_) (λ c. none_yet ++ built.catch_of c) ts start mid xs
    → Advanced more_catches (λ c. xs ++ built.catches_of c) ts mid next ys → Advanced maybe_last maybe_block ts next end x → Advanced with_catches catching ts start end (record { catches = ys; last = x })
catching_from i p q s = record {
  tree = pair p.tree (pair q.tree s.tree);
  looked = max p.looked (max q.looked s.looked);
  read = read_both p.read (read_both q.read s.read);
  builds = clauses_alike (q.builds ∙ ap (λ zs. zs ++ built.catches_of q.tree) (p.builds ∙ ap (λ zs. zs ++ built.catch_of p.tree) i)) s.builds;
  so_far = omega (arith, p.so_far, q.so_far, s.so_far);
}

pub clauses_catching : (ts : List Token) (start : Cursor) → start.at ≤ length ts → test is_catch (first (drop start.at ts)) ≡ true → (r : Result (Clauses × Cursor) (Fail ℕ))
    → Advances with_catches catching ts start r → Advances clauses clauses_of ts start r
clauses_catching ts start w h (Ok k) q = record { tree = left q.tree; looked = q.looked; read = read_first h q.read; builds = q.builds; so_far = q.so_far }
clauses_catching ts start w h (Err x) q = halts_left w h q

pub clauses_last : {ts : List Token} {start end : Cursor} {xs : List CatchPart} {x : Expr} → test is_catch (first (drop start.at ts)) ≡ false → Advanced last_clause last_block ts start end x → xs ≡ []
    → Advanced clauses clauses_of ts start end (record { catches = xs; last = Some x })
clauses_last h p i = record { tree = right p.tree; looked = p.looked; read = read_second h p.read; builds = clauses_alike i (ap Some p.builds); so_far = p.so_far }

-- ---- the whole

behind_some : (t u : Token) (o m n : Option Token) → between (Some t) (or_else (or_else (or_else o (Some u)) m) n) ≡ between (Some t) (or_else o (Some u))
behind_some t u None m n = refl
behind_some t u (Some v) m n = refl

abbrev try_at : Span → List Expr → Clauses → Expr
try_at s xs k = record { span = s; kind = e.Try xs k.catches k.last }

try_built : {us q : List Token} {c : Cst Token} (x : Cst Token) (t : Token) → Reads grammar clauses us c q
    → try_at (span_of (node (pair (leaf t) (pair x c)))) (built.block_statements x) (clauses_of c) ≡ built.try_of (node (pair (leaf t) (pair x c)))
try_built x t (r_left h (r_both y (r_both more (r_left m (r_both f (r_row (r_both (r_one n) (r_both d (r_one j))))))))) = refl
try_built x t (r_left h (r_both {x = y} (r_row (r_both (r_one a) (r_both b (r_row (r_both (r_one n) (r_both d (r_one {t = c} j))))))) (r_both {x = more} many_more (r_right m r_nothing)))) =
    ap (λ s. try_at s (built.block_statements x) (record { catches = built.catch_of y ++ built.catches_of more; last = None })) (behind_some t c (last_of more) (last_of x) (Some t))
try_built x t (r_right h (r_both f (r_row (r_both (r_one n) (r_both d (r_one j)))))) = refl

try_alike : {s u : Span} {xs ys : List Expr} {j k : Clauses} → s ≡ u → xs ≡ ys → j ≡ k → try_at s xs j ≡ try_at u ys k
try_alike {s = s} {u = u} {xs = xs} {ys = ys} {j = j} f g h = ap (λ (m : Span). try_at m xs j) f ∙ ap (λ (m : List Expr). try_at u m j) g ∙ ap (λ (m : Clauses). try_at u ys m) h

pub try_from : (s : Span) {ts : List Token} {start next mid end : Cursor} {xs : List Expr} {k : Clauses} {y : Expr} → Moved (is_word keyword.Try) ts start next → Advanced (row rows.block) built.block_statements ts next mid xs
    → Advanced clauses clauses_of ts mid end k → s ≡ stretch ts start.at end.at → y ≡ record { span = s; kind = e.Try xs k.catches k.last } → Advanced (row rows.try_) built.try_of ts start end y
try_from s o p q f g =
    let whole = read_row {n = rows.try_} (read_both (read_one o.taken) (read_both p.read q.read)) in
    record {
      tree = node (pair (leaf o.taken.token) (pair p.tree q.tree));
      looked = max 0 (max p.looked q.looked);
      read = whole;
      builds = g ∙ try_alike (f ∙ between_is (goes_on refl whole) whole (goes_on refl whole) whole) p.builds q.builds ∙ try_built p.tree o.taken.token q.read.reads;
      so_far = omega (arith, o.so_far, p.so_far, q.so_far);
    }

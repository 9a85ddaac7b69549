-- An expression that is one name, before a comma or at the end of the tokens, for the tests.
use Rattle.std.proofs.Common.{◌≡◌, ℕ, suc, ◌≤◌, ◌==◌, nat_lt, ◌+◌, max, Bool, true, false, not, ◌&&◌, ◌||◌, if◌then◌else◌, List, [], ◌∷◌, length, drop, Ok, Option, Some, None, refl, sym, ap, subst, ◌∙◌, arith}
use Rattle.std.proofs.lemmas.Bool.{eqb-true}
use Rattle.grammars.specs.Automata.{Step, go, stop, accepts, goes}
use Rattle.grammars.specs.Grammar.{Part, next, row, both, choose, many, Cst, none, leaf, node, pair, left, right, first, test, r_done, d_nothing, d_row, d_left, d_right, d_done, Productive}
use Rattle.kc_text.specs.declared.errors.Fail.{Fail}
use Rattle.kc_text.specs.declared.errors.Fail.TheVariants.{Found}
use Rattle.kc_tree.specs.declared.expr.Expr.{Expr}
use Rattle.kc_tree.specs.declared.expr.ExprKind.TheVariants as e
use Rattle.kc_tree.specs.declared.types.Word.{Word}
use Rattle.kt_lexer.specs.declared.token.Token.{Token}
use Rattle.kt_lexer.specs.declared.token.Operator.TheVariants as operator
use Rattle.kt_grammar.specs.declared.cursor.Cursor.{Cursor}
use Rattle.kt_grammar.specs.Built as built
use Rattle.kt_grammar.specs.declared.lookahead.Frame.TheVariants as frame
use Rattle.kt_grammar.specs.declared.lookahead.Goal.TheVariants as goal
use Rattle.kt_grammar.specs.declared.lookahead.Mode.TheVariants as mode
use Rattle.kt_grammar.specs.declared.lookahead.Place.{Place}
use Rattle.kt_grammar.specs.Lookahead as tests
use Rattle.kt_grammar.specs.Lookahead.{suffix_follows, parameters}
use Rattle.kt_grammar.specs.Parsed.{Read, Advanced, Halts, NameTaken}
use Rattle.kt_grammar.specs.Rows as rows
use Rattle.kt_grammar.specs.Rows.{Row, grammar, op}
use Rattle.kt_grammar.specs.Tokens.{class_of, is_op, is_name, is_one_of}
use Rattle.kt_grammar.proofs.Advances.{level_from, level_halts, halts_row, halts_first, halts_right, not_one}
use Rattle.kt_grammar.proofs.OperandRows.{held}
use Rattle.kt_grammar.proofs.SingleTokens.{op_token, is_itself}
use Rattle.kt_grammar.proofs.Steps.{near, standing, has_both, read_one, read_row, read_first, read_second, read_nothing, read_done}
use Rattle.kt_grammar.proofs.TypeRows.{has_op}

-- a comma or the end: nothing goes on or begins with it
pub data Closing : Option Token → Type 0 where
  at_end : Closing None
  at_comma : {t : Token} → class_of t.kind ≡ 34 → Closing (Some t)

abbrev pub is_inner : Token → Bool
is_inner t = not (is_op operator.Comma t)

pub closing : (o : Option Token) → test is_inner o ≡ false → Closing o
closing None h = at_end
closing (Some t) h = at_comma (eqb-true (class_of t.kind) 34 (held (is_op operator.Comma t) h))

-- a test by the class of a token, and its mark, that does not hold of a comma
closed : (g : ℕ → Bool → Bool) → ((b : Bool) → g 34 b ≡ false) → (o : Option Token) → Closing o → test (λ t. g (class_of t.kind) t.marked) o ≡ false
closed g h None at_end = refl
closed g h (Some t) (at_comma e) = ap (λ n. g n t.marked) e ∙ h t.marked

not_of : (cs : List ℕ) → is_one_of cs 34 ≡ false → (o : Option Token) → Closing o → test (λ t. is_one_of cs (class_of t.kind)) o ≡ false
not_of cs h o k = closed (λ n b. is_one_of cs n) (λ b. h) o k

not_unmarked_of : (cs : List ℕ) → is_one_of cs 34 ≡ false → (o : Option Token) → Closing o → test (λ t. is_one_of cs (class_of t.kind) && not t.marked) o ≡ false
not_unmarked_of cs h o k = closed (λ n b. is_one_of cs n && not b) (λ b. ap (λ c. c && not b) h) o k

-- ---- a name

not_atom : (n : ℕ) → nat_lt 83 n ≡ true → is_one_of (76 ∷ 77 ∷ 66 ∷ 50 ∷ 59 ∷ 64 ∷ []) n ≡ false
not_atom n h = grind arith

not_prefix : (n : ℕ) → nat_lt 83 n ≡ true → is_one_of (22 ∷ 21 ∷ 30 ∷ 9 ∷ 10 ∷ []) n ≡ false
not_prefix n h = grind arith

of_name : (g : ℕ → Bool) → ((n : ℕ) → nat_lt 83 n ≡ true → g n ≡ false) → (o : Option Token) → test is_name o ≡ true → test (λ t. g (class_of t.kind)) o ≡ false
of_name g h None e = refl
of_name g h (Some t) e = h (class_of t.kind) e

name_alike : {w v : Word} → w ≡ v → (let x : Expr = record { span = w.span; kind = e.Name w.name } in x) ≡ record { span = v.span; kind = e.Name v.name }
name_alike p = cc

primary_from : {ts : List Token} {start end : Cursor} {w : Word} → NameTaken ts start.at end.at w → end.looked ≡ start.looked
    → Advanced (row rows.primary) built.primary_of ts start end (record { span = w.span; kind = e.Name w.name })
primary_from {ts = ts} {start = start} k i = record {
  tree = node (right (left (leaf k.taken.token)));
  looked = 0;
  read = read_row (read_second (of_name (is_one_of (76 ∷ 77 ∷ 66 ∷ 50 ∷ 59 ∷ 64 ∷ [])) not_atom (first (drop start.at ts)) (standing k.taken)) (read_first (standing k.taken) (read_one k.taken)));
  builds = name_alike k.word;
  so_far = omega (arith, i);
}

-- what the scan for a suffix says to its first token, by the token's class and mark
abbrev first_step : ℕ → Bool → Step Place
first_step n b =
    if is_one_of (33 ∷ 17 ∷ []) n || ((is_one_of (9 ∷ 10 ∷ 16 ∷ []) n && not b) || ((n == 39 && not b) || ((n == 37 && not b) || ((n == 74 || n == 41) && not b)))) then stop true else
    if n == 28 && not b then go (record { frames = frame.Angle ∷ []; mode = mode.Argument false }) else stop false

stops : (t : Token) → class_of t.kind ≡ 34 → tests.step goal.BeforeCall (record { frames = []; mode = mode.Operand }) t ≡ stop false
stops t e = ap (λ n. first_step n t.marked) e

no_suffix : (us : List Token) → Closing (first us) → suffix_follows.holds us ≡ false
no_suffix [] k = refl
no_suffix (t ∷ us) (at_comma e) = ap (λ s. elim s as (λ _. Bool) [ go s' ↦ accepts (tests.step goal.BeforeCall) (tests.at_end goal.BeforeCall) us s' | stop b ↦ b ]) (stops t e)

no_suffix_far : (us : List Token) → Closing (first us) → suffix_follows.far us ≡ 0
no_suffix_far [] k = refl
no_suffix_far (t ∷ us) (at_comma e) = ap (λ s. elim s as (λ _. ℕ) [ go s' ↦ suc (goes (tests.step goal.BeforeCall) (tests.at_end goal.BeforeCall) us s') | stop b ↦ 0 ]) (stops t e)

no_suffixes : (ts : List Token) (at : ℕ) → at ≤ length ts → suffix_follows.holds (drop at ts) ≡ false → suffix_follows.far (drop at ts) ≡ 0 → Read (many suffix_follows (row rows.suffix)) ts at at 0 none
no_suffixes ts at w h e = near (r_done h) (omega (arith, e)) (omega arith) w

-- ---- nothing stands behind an operand

alone : (n m : Row) (part : Part Row Token) (lower : Cst Token → Expr) (turns : Expr → Cst Token → Expr) (whole : Cst Token → Expr) → grammar n ≡ both (row m) part
    → ((c d : Cst Token) → whole (node (pair c d)) ≡ turns (lower c) d) → (d : Cst Token) → ((x : Expr) → turns x d ≡ x) → {ts : List Token} {start end : Cursor} {x : Expr}
    → Advanced (row m) lower ts start end x → Read part ts end.at end.at 0 d → Advanced (row n) whole ts start end x
alone n m part lower turns whole is law d none_is {end = end} {x = x} p q =
    level_from n m part lower turns whole is law p (Ok (x, end)) (record { tree = d; looked = 0; read = q; builds = sym (none_is x); so_far = omega arith })

postfix_from : {ts : List Token} {start : Cursor} {next : ℕ} {w : Word} → NameTaken ts start.at next w → suffix_follows.holds (drop next ts) ≡ false → suffix_follows.far (drop next ts) ≡ 0
    → Advanced (row rows.postfix) built.postfix_of ts start (record { at = next; looked = start.looked }) (record { span = w.span; kind = e.Name w.name })
postfix_from {ts = ts} {start = start} {next = next} k h n =
    let end : Cursor = record { at = next; looked = start.looked } in
    alone rows.postfix rows.primary (many suffix_follows (row rows.suffix)) built.primary_of built.suffixes_of built.postfix_of refl (λ x d. refl) none (λ x. refl)
    (primary_from {start = start} {end = end} k refl) (no_suffixes ts next k.taken.within h n)

both_hold : (a b : Bool) → (not a && b) ≡ true → (a ≡ false) × (b ≡ true)
both_hold true b h = absurd (cc)
both_hold false b h = (refl, h)

-- where a test for a suffix has looked at the next token alone
pub bare_name : {ts : List Token} {start : Cursor} {next : ℕ} {w : Word} (end : Cursor) (b : Bool) (n : ℕ) → NameTaken ts start.at next w → b ≡ suffix_follows.holds (drop next ts)
    → n ≡ next + suffix_follows.far (drop next ts) → (not b && n == next) ≡ true → end ≡ record { at = next; looked = start.looked }
    → Advanced (row rows.postfix) built.postfix_of ts start end (record { span = w.span; kind = e.Name w.name })
bare_name {ts = ts} {start = start} {next = next} {w = w} end b n k h i j m =
    let q = both_hold b (n == next) j in
    let z : n ≡ next = eqb-true n next q.1 in
    subst (λ (c : Cursor). Advanced (row rows.postfix) built.postfix_of ts start c (record { span = w.span; kind = e.Name w.name })) (sym m) (postfix_from k (sym h ∙ q.0) (omega (arith, i, z)))

prefix_from : {ts : List Token} {start end : Cursor} {x : Expr} → test is_name (first (drop start.at ts)) ≡ true → Advanced (row rows.postfix) built.postfix_of ts start end x
    → Advanced (row rows.prefix) built.prefix_of ts start end x
prefix_from {ts = ts} {start = start} h p = record {
  tree = node (right p.tree);
  looked = p.looked;
  read = read_row (read_second (of_name (is_one_of (22 ∷ 21 ∷ 30 ∷ 9 ∷ 10 ∷ [])) not_prefix (first (drop start.at ts)) h) p.read);
  builds = p.builds;
  so_far = p.so_far;
}

pub name_alone : {ts : List Token} {start : Cursor} {next : ℕ} {w : Word} (end : Cursor) → NameTaken ts start.at next w → Closing (first (drop next ts)) → end ≡ record { at = next; looked = start.looked }
    → Advanced (row rows.expression) built.expression_of ts start end (record { span = w.span; kind = e.Name w.name })
name_alone {ts = ts} {start = start} {next = next} {w = w} end k c e' = subst (λ (m : Cursor). Advanced (row rows.expression) built.expression_of ts start m (record { span = w.span; kind = e.Name w.name })) (sym e') (
    let o = first (drop next ts) in
    let v : next ≤ length ts = k.taken.within in
    let p2 = postfix_from k (no_suffix (drop next ts) c) (no_suffix_far (drop next ts) c) in
    let p3 = prefix_from (standing k.taken) p2 in
    let p4 = alone rows.cast rows.prefix rows.cast_turns built.prefix_of built.cast_turns_of built.cast_of refl (λ x d. refl) none (λ x. refl) p3 (read_done v (not_unmarked_of (43 ∷ 44 ∷ []) refl o c)) in
    let p5 = alone rows.product rows.cast rows.product_turns built.cast_of built.product_turns_of built.product_of refl (λ x d. refl) none (λ x. refl) p4 (read_done v (not_unmarked_of (23 ∷ 25 ∷ 26 ∷ []) refl o c)) in
    let p6 = alone rows.sum rows.product rows.sum_turns built.product_of built.sum_turns_of built.sum_of refl (λ x d. refl) none (λ x. refl) p5 (read_done v (not_unmarked_of (21 ∷ 22 ∷ []) refl o c)) in
    let p7 = alone rows.range rows.sum rows.range_turns built.sum_of built.range_turns_of built.range_of refl (λ x d. refl) none (λ x. refl) p6 (read_done v (not_unmarked_of (20 ∷ 2 ∷ []) refl o c)) in
    let p8 = alone rows.infix_ rows.range rows.infix_turns built.range_of built.infix_turns_of built.infix_of refl (λ x d. refl) none (λ x. refl) p7 (read_done v (closed (λ n b. nat_lt 83 n && not b) (λ b. refl) o c)) in
    let p9 = alone rows.elvis rows.infix_ rows.elvis_turns built.infix_of built.elvis_turns_of built.elvis_of refl (λ x d. refl) none (λ x. refl) p8 (read_done v (closed (λ n b. n == 18) (λ b. refl) o c)) in
    let p10 = alone rows.named rows.elvis rows.named_turns built.elvis_of built.named_turns_of built.named_of refl (λ x d. refl) none (λ x. refl) p9 (read_done v (closed (λ n b. (is_one_of (54 ∷ 55 ∷ []) n || is_one_of (57 ∷ 58 ∷ []) n) && not b) (λ b. refl) o c)) in
    let p11 = alone rows.comparison rows.named rows.comparison_turn built.named_of built.comparison_turn_of built.comparison_of refl (λ x d. refl) (right none) (λ x. refl) p10 (read_second (not_unmarked_of (28 ∷ 29 ∷ 5 ∷ 6 ∷ []) refl o c) (read_nothing v)) in
    let p12 = alone rows.equality rows.comparison rows.equality_turns built.comparison_of built.equality_turns_of built.equality_of refl (λ x d. refl) none (λ x. refl) p11 (read_done v (not_unmarked_of (3 ∷ 4 ∷ 0 ∷ 1 ∷ []) refl o c)) in
    let p13 = alone rows.conjunction rows.equality rows.and_turns built.equality_of built.and_turns_of built.conjunction_of refl (λ x d. refl) none (λ x. refl) p12 (read_done v (closed (λ n b. n == 7) (λ b. refl) o c)) in
    alone rows.expression rows.conjunction rows.or_turns built.conjunction_of built.or_turns_of built.expression_of refl (λ x d. refl) none (λ x. refl) p13 (read_done v (closed (λ n b. n == 8) (λ b. refl) o c)))

-- ---- no expression begins

has_rest_of_lambda : Productive grammar (choose (next (is_op operator.Arrow)) (both (op operator.Arrow) (both (row rows.statements) (op operator.CloseBrace)))
    (choose parameters (both (row rows.parameter) (both (op operator.Arrow) (both (row rows.statements) (op operator.CloseBrace)))) (both (row rows.statements) (op operator.CloseBrace))))
has_rest_of_lambda = let k = has_both (has_op operator.Arrow) (has_both {a = row rows.statements} ([], node (right none), d_row (d_right d_nothing)) (has_op operator.CloseBrace)) in (k.0, left k.1, d_left k.2)

no_primary : {ts : List Token} {start : Cursor} {x : Fail ℕ} → start.at ≤ length ts → Closing (first (drop start.at ts)) → x ≡ (let y : Fail ℕ = Found (max start.looked start.at) in y) → Halts (row rows.primary) ts start x
no_primary {ts = ts} {start = start} w k i =
    let o = first (drop start.at ts) in
    halts_row (halts_right w (not_of (76 ∷ 77 ∷ 66 ∷ 50 ∷ 59 ∷ 64 ∷ []) refl o k) (halts_right w (closed (λ n b. nat_lt 83 n) (λ b. refl) o k) (halts_right w (closed (λ n b. n == 78) (λ b. refl) o k)
    (halts_right w (closed (λ n b. n == 37) (λ b. refl) o k) (halts_right w (closed (λ n b. n == 63) (λ b. refl) o k) (halts_right w (closed (λ n b. n == 53) (λ b. refl) o k)
    (halts_right w (closed (λ n b. n == 72) (λ b. refl) o k) (halts_right w (closed (λ n b. n == 67) (λ b. refl) o k) (halts_right w (not_of (62 ∷ 45 ∷ 47 ∷ 65 ∷ []) refl o k)
    (halts_row (halts_first has_rest_of_lambda (not_one (op_token operator.OpenBrace) (is_itself operator.OpenBrace) w (closed (λ n b. n == 41) (λ b. refl) o k) i))))))))))))

pub no_postfix : {ts : List Token} {start : Cursor} {x : Fail ℕ} → start.at ≤ length ts → Closing (first (drop start.at ts)) → x ≡ (let y : Fail ℕ = Found (max start.looked start.at) in y) → Halts (row rows.postfix) ts start x
no_postfix w k i = halts_row {n = rows.postfix} (halts_first ([], none, d_done) (no_primary w k i))

pub none_begins : {ts : List Token} {start : Cursor} {x : Fail ℕ} → start.at ≤ length ts → Closing (first (drop start.at ts)) → x ≡ (let y : Fail ℕ = Found (max start.looked start.at) in y) → Halts (row rows.expression) ts start x
none_begins {ts = ts} {start = start} w k i =
    let p2 = halts_row {n = rows.prefix} (halts_right w (not_of (22 ∷ 21 ∷ 30 ∷ 9 ∷ 10 ∷ []) refl (first (drop start.at ts)) k) (no_postfix w k i)) in
    let p3 = level_halts rows.cast rows.prefix rows.cast_turns refl ([], none, d_done) p2 in
    let p4 = level_halts rows.product rows.cast rows.product_turns refl ([], none, d_done) p3 in
    let p5 = level_halts rows.sum rows.product rows.sum_turns refl ([], none, d_done) p4 in
    let p6 = level_halts rows.range rows.sum rows.range_turns refl ([], none, d_done) p5 in
    let p7 = level_halts rows.infix_ rows.range rows.infix_turns refl ([], none, d_done) p6 in
    let p8 = level_halts rows.elvis rows.infix_ rows.elvis_turns refl ([], none, d_done) p7 in
    let p9 = level_halts rows.named rows.elvis rows.named_turns refl ([], none, d_done) p8 in
    let p10 = level_halts rows.comparison rows.named rows.comparison_turn refl ([], right none, d_right d_nothing) p9 in
    let p11 = level_halts rows.equality rows.comparison rows.equality_turns refl ([], none, d_done) p10 in
    let p12 = level_halts rows.conjunction rows.equality rows.and_turns refl ([], none, d_done) p11 in
    level_halts rows.expression rows.conjunction rows.or_turns refl ([], none, d_done) p12

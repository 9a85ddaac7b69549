-- The steps of the functions that read operators.
use Rattle.std.proofs.Common.{◌≡◌, ℕ, ◌≤◌, max, true, false, List, [], ◌∷◌, length, drop, Result, Ok, Err, refl, sym, ap, subst, ◌∙◌, arith}
use Rattle.grammars.specs.Grammar.{Test, next, Part, one, row, both, many, guard, Cst, none, leaf, node, pair, left, right, first, test, Derives, d_nothing, d_one, d_row, d_both, d_left, d_right, d_done, d_guard, Reads, r_guard, Productive}
use Rattle.kc_text.specs.declared.errors.Fail.{Fail}
use Rattle.kc_text.specs.declared.errors.Fail.TheVariants.{Found}
use Rattle.kc_tree.specs.declared.expr.Expr.{Expr}
use Rattle.kt_lexer.specs.declared.token.Token.{Token}
use Rattle.kt_lexer.specs.declared.token.Operator.TheVariants as operator
use Rattle.kt_grammar.specs.declared.cursor.Cursor.{Cursor}
use Rattle.kt_grammar.specs.declared.signs.Level.{Level}
use Rattle.kt_grammar.specs.declared.signs.Level.TheVariants as level
use Rattle.kt_grammar.specs.Built as built
use Rattle.kt_grammar.specs.Parsed.{Advanced, Halts, Advances}
use Rattle.kt_grammar.specs.Rows as rows
use Rattle.kt_grammar.specs.Rows.{Row, grammar}
use Rattle.kt_grammar.specs.Signs.{is_between, row_of, operand_row, turns_of, tree_of, operand_of, all_of, infix_operand, infix_operand_of, is_relation, TokenTaken}
use Rattle.kt_grammar.specs.Tokens.{unmarked, is_prefix, is_name, is_in, is_is, is_comparison, begins_expression}
use Rattle.kt_grammar.proofs.SingleTokens.{op_token, a_name}
use Rattle.kt_grammar.proofs.Advances.{halts_row, halts_left, halts_right, halts_after, halts_turn, halts_as, turn_on, turns_end, level_from, level_halts, refused_guard, read_guard, not_guarded}
use Rattle.kt_grammar.proofs.Steps.{standing, read_one, read_row, read_both, read_first, read_second, read_nothing}

-- ---- parts have derivations

pub has_turns : {f : Test Token} {a : Part Row Token} → Productive grammar (many f a)
has_turns = ([], none, d_done)

pub has_comparison_turn : Productive grammar rows.comparison_turn
has_comparison_turn = ([], right none, d_right d_nothing)

-- tokens that derive the row, all of them
abbrev Derived : List Token → Row → Type 0
Derived us n = (x : Cst Token) × Derives grammar (row n) us x []

-- an operand that nothing follows
derived_alone : {us : List Token} {n m : Row} (part : Part Row Token) → grammar n ≡ both (row m) part → Derived us m → (y : Cst Token) → Derives grammar part [] y [] → Derived us n
derived_alone {us = us} part e p y d = let k = subst (λ a. (x : Cst Token) × Derives grammar a us x []) (sym e) (pair p.0 y, d_both p.1 d) in (node k.0, d_row k.1)

derived_range : {us : List Token} → Derived us rows.prefix → Derived us rows.range
derived_range p = derived_alone rows.range_turns refl (derived_alone rows.sum_turns refl (derived_alone rows.product_turns refl (derived_alone rows.cast_turns refl p none d_done) none d_done) none d_done) none d_done

derived_elvis : {us : List Token} → Derived us rows.prefix → Derived us rows.elvis
derived_elvis p = derived_alone rows.elvis_turns refl (derived_alone rows.infix_turns refl (derived_range p) none d_done) none d_done

derived_equality : {us : List Token} → Derived us rows.prefix → Derived us rows.equality
derived_equality p = derived_alone rows.equality_turns refl (derived_alone rows.comparison_turn refl (derived_alone rows.named_turns refl (derived_elvis p) none d_done) (right none) (d_right d_nothing)) none d_done

derived_expression : {us : List Token} → Derived us rows.prefix → Derived us rows.expression
derived_expression p = derived_alone rows.or_turns refl (derived_alone rows.and_turns refl (derived_equality p) none d_done) none d_done

-- a name, and one behind a prefix operator
name_prefix : Derived (a_name ∷ []) rows.prefix
name_prefix = (node (right (node (pair (node (right (left (leaf a_name)))) none))), d_row (d_right (d_row (d_both (d_row (d_right (d_left (d_one refl)))) d_done))))

minus : Token
minus = op_token operator.Minus

signed_prefix : Derived (minus ∷ a_name ∷ []) rows.prefix
unfolding minus
signed_prefix = (node (left (pair (leaf minus) name_prefix.0)), d_row (d_left (d_both (d_one refl) name_prefix.1)))

-- a name alone is an expression
pub an_expression : (x : Cst Token) × Derives grammar (row rows.expression) (a_name ∷ []) x []
an_expression = derived_expression name_prefix

pub has_expression : Productive grammar (row rows.expression)
has_expression = (a_name ∷ [], an_expression.0, an_expression.1)

pub has_signed : Productive grammar (guard (next is_prefix) (row rows.expression))
unfolding minus
has_signed = let k = derived_expression signed_prefix in (minus ∷ a_name ∷ [], node k.0, d_guard {f = next is_prefix} refl k.1 (omega arith))

-- ---- levels

level_row : (l : Level) → grammar (row_of l) ≡ both (row (operand_row l)) (turns_of l)
level_row level.Or = refl
level_row level.And = refl
level_row level.Equality = refl
level_row level.Elvis = refl
level_row level.Range = refl
level_row level.Sum = refl
level_row level.Product = refl

level_tree : (l : Level) (c d : Cst Token) → tree_of l (node (pair c d)) ≡ all_of l (operand_of l c) d
level_tree level.Or c d = refl
level_tree level.And c d = refl
level_tree level.Equality c d = refl
level_tree level.Elvis c d = refl
level_tree level.Range c d = refl
level_tree level.Sum c d = refl
level_tree level.Product c d = refl

turn_tree : (l : Level) (x : Expr) (t : Token) (c d : Cst Token) → all_of l x (pair (pair (leaf t) c) d) ≡ all_of l (built.binary x t (operand_of l c)) d
turn_tree level.Or x t c d = refl
turn_tree level.And x t c d = refl
turn_tree level.Equality x t c d = refl
turn_tree level.Elvis x t c d = refl
turn_tree level.Range x t c d = refl
turn_tree level.Sum x t c d = refl
turn_tree level.Product x t c d = refl

no_turn_tree : (l : Level) (x : Expr) → all_of l x none ≡ x
no_turn_tree level.Or x = refl
no_turn_tree level.And x = refl
no_turn_tree level.Equality x = refl
no_turn_tree level.Elvis x = refl
no_turn_tree level.Range x = refl
no_turn_tree level.Sum x = refl
no_turn_tree level.Product x = refl

pub operands_from : (l : Level) {ts : List Token} {start mid : Cursor} {x : Expr} → Advanced (row (operand_row l)) (operand_of l) ts start mid x → (r : Result (Expr × Cursor) (Fail ℕ))
    → Advances (turns_of l) (all_of l x) ts mid r → Advances (row (row_of l)) (tree_of l) ts start r
operands_from l p r q = level_from (row_of l) (operand_row l) (turns_of l) (operand_of l) (all_of l) (tree_of l) (level_row l) (level_tree l) p r q

pub operands_halt : (l : Level) {ts : List Token} {start : Cursor} {x : Fail ℕ} → Halts (row (operand_row l)) ts start x → Halts (row (row_of l)) ts start x
operands_halt l k = level_halts (row_of l) (operand_row l) (turns_of l) (level_row l) has_turns k

binary_alike : (x : Expr) {y z w : Expr} {t u : Token} → t ≡ u → z ≡ w → y ≡ built.binary x t z → built.binary x u w ≡ y
binary_alike x {w = w} {t = t} p f g = ap (λ (k : Token). built.binary x k w) (sym p) ∙ ap (λ (k : Expr). built.binary x t k) (sym f) ∙ sym g

pub binary_turn : (l : Level) {ts : List Token} {start mid end : Cursor} {t : Token} {z : Expr} (x y : Expr) → TokenTaken (is_between l) ts start mid t → Advanced (row (operand_row l)) (operand_of l) ts mid end z
    → y ≡ built.binary x t z → (r : Result (Expr × Cursor) (Fail ℕ)) → Advances (turns_of l) (all_of l y) ts end r → Advances (turns_of l) (all_of l x) ts start r
binary_turn l {start = start} {end = end} x y o p g = turn_on (is_between l) (both (one (is_between l)) (row (operand_row l))) (all_of l) start end x y
    (λ d. turn_tree l x o.taken.token p.tree d ∙ ap (λ (k : Expr). all_of l k d) (binary_alike x o.same p.builds g))
    (standing o.taken) (read_both (read_one o.taken) p.read) (omega (arith, o.so_far, p.so_far))

pub binary_halts : (l : Level) {ts : List Token} {start mid : Cursor} {t : Token} {x : Fail ℕ} → start.at ≤ length ts → TokenTaken (is_between l) ts start mid t → Halts (row (operand_row l)) ts mid x → Halts (turns_of l) ts start x
binary_halts l w o k = halts_turn w (standing o.taken) (halts_after o.taken o.so_far k)

pub binary_end : (l : Level) {ts : List Token} {start : Cursor} (x : Expr) → start.at ≤ length ts → test (is_between l) (first (drop start.at ts)) ≡ false → Advanced (turns_of l) (all_of l x) ts start start x
binary_end l x w h = turns_end (is_between l) (both (one (is_between l)) (row (operand_row l))) (all_of l) x (no_turn_tree l) w h

-- ---- prefix operators

pub prefix_plain : (ts : List Token) (start : Cursor) → start.at ≤ length ts → test is_prefix (first (drop start.at ts)) ≡ false → (r : Result (Expr × Cursor) (Fail ℕ))
    → Advances (row rows.postfix) built.postfix_of ts start r → Advances (row rows.prefix) built.prefix_of ts start r
prefix_plain ts start w h (Ok k) q = record { tree = node (right q.tree); looked = q.looked; read = read_row (read_second h q.read); builds = q.builds; so_far = q.so_far }
prefix_plain ts start w h (Err x) q = halts_row (halts_right w h q)

prefix_alike : {x y z : Expr} {t u : Token} → t ≡ u → x ≡ z → y ≡ built.prefixed t x → y ≡ built.prefixed u z
prefix_alike {z = z} {t = t} p f g = g ∙ ap (λ (k : Expr). built.prefixed t k) f ∙ ap (λ (k : Token). built.prefixed k z) p

pub prefix_taken : {ts : List Token} {start mid end : Cursor} {t : Token} {x y : Expr} → TokenTaken is_prefix ts start mid t → Advanced (row rows.prefix) built.prefix_of ts mid end x
    → y ≡ built.prefixed t x → Advanced (row rows.prefix) built.prefix_of ts start end y
prefix_taken o p g = record {
  tree = node (left (pair (leaf o.taken.token) p.tree));
  looked = max 0 p.looked;
  read = read_row (read_first (standing o.taken) (read_both (read_one o.taken) p.read));
  builds = prefix_alike o.same p.builds g;
  so_far = omega (arith, o.so_far, p.so_far);
}

pub prefix_halts : {ts : List Token} {start mid : Cursor} {t : Token} {x : Fail ℕ} → start.at ≤ length ts → TokenTaken is_prefix ts start mid t → Halts (row rows.prefix) ts mid x → Halts (row rows.prefix) ts start x
prefix_halts w o k = halts_row (halts_left w (standing o.taken) (halts_after o.taken o.so_far k))

-- ---- one comparison

-- an operand, and the node of which it is a part
pub built_on : {a : Part Row Token} {lower : Cst Token → Expr} {ts : List Token} {start end : Cursor} {z : Expr} (f : Expr → Expr) (y : Expr) → Advanced a lower ts start end z → y ≡ f z
    → Advanced a (λ c. f (lower c)) ts start end y
built_on f y p g = record { tree = p.tree; looked = p.looked; read = p.read; builds = g ∙ ap f p.builds; so_far = p.so_far }

pub compared : {ts : List Token} {start mid : Cursor} {t : Token} (x : Expr) → start.at ≤ length ts → TokenTaken (unmarked is_comparison) ts start mid t → (r : Result (Expr × Cursor) (Fail ℕ))
    → Advances (row rows.named) (λ c. built.binary x t (built.named_of c)) ts mid r → Advances rows.comparison_turn (built.comparison_turn_of x) ts start r
compared x w o (Ok k) p = record {
  tree = left (pair (leaf o.taken.token) p.tree);
  looked = max 0 p.looked;
  read = read_first (standing o.taken) (read_both (read_one o.taken) p.read);
  builds = p.builds ∙ ap (λ (t : Token). built.binary x t (built.named_of p.tree)) o.same;
  so_far = omega (arith, o.so_far, p.so_far);
}
compared x w o (Err e) p = halts_left w (standing o.taken) (halts_after o.taken o.so_far p)

pub not_compared : {ts : List Token} {start : Cursor} (x : Expr) → start.at ≤ length ts → test (unmarked is_comparison) (first (drop start.at ts)) ≡ false
    → Advanced rows.comparison_turn (built.comparison_turn_of x) ts start start x
not_compared x w h = record { tree = right none; looked = 0; read = read_second h (read_nothing w); builds = refl; so_far = omega arith }

-- ---- named functions

has_operand : Productive grammar infix_operand
has_operand = let k = derived_range name_prefix in (a_name ∷ [], node k.0, d_guard {f = next (unmarked begins_expression)} refl k.1 (omega arith))

pub infix_from : (ts : List Token) (start : Cursor) → start.at ≤ length ts → test (unmarked begins_expression) (first (drop start.at ts)) ≡ true → (r : Result (Expr × Cursor) (Fail ℕ))
    → Advances (row rows.range) built.range_of ts start r → Advances infix_operand infix_operand_of ts start r
infix_from ts start w h (Ok k) p = record { tree = node p.tree; looked = p.looked; read = read_guard refl h p.read; builds = p.builds; so_far = p.so_far }
infix_from ts start w h (Err e) p = halts_as (λ place r. refused_guard w h has_operand r) p

pub infix_wanted : {ts : List Token} {start : Cursor} {e : Fail ℕ} → start.at ≤ length ts → test (unmarked begins_expression) (first (drop start.at ts)) ≡ false
    → e ≡ (let x : Fail ℕ = Found (max start.looked start.at) in x) → Halts infix_operand ts start e
infix_wanted w h i = not_guarded w h has_operand i

infix_is : {us rest : List Token} {c : Cst Token} (x : Expr) (t : Token) → Reads grammar infix_operand us c rest → built.infix_turn_of x (pair (leaf t) c) ≡ built.infix_call x t (infix_operand_of c)
infix_is x t (r_guard h d l) = refl

pub infix_built : {ts : List Token} {start end : Cursor} {z : Expr} (x : Expr) (t : Token) (y : Expr) → Advanced infix_operand infix_operand_of ts start end z → y ≡ built.infix_call x t z
    → Advanced infix_operand (λ c. built.infix_turn_of x (pair (leaf t) c)) ts start end y
infix_built x t y p g = record {
  tree = p.tree;
  looked = p.looked;
  read = p.read;
  builds = g ∙ ap (λ (k : Expr). built.infix_call x t k) p.builds ∙ sym (infix_is x t p.read.reads);
  so_far = p.so_far;
}

pub infix_once : {ts : List Token} {start mid end : Cursor} {t : Token} (x y : Expr) → TokenTaken (unmarked is_name) ts start mid t
    → Advanced infix_operand (λ c. built.infix_turn_of x (pair (leaf t) c)) ts mid end y
    → (r : Result (Expr × Cursor) (Fail ℕ)) → Advances rows.infix_turns (built.infix_turns_of y) ts end r → Advances rows.infix_turns (built.infix_turns_of x) ts start r
infix_once {start = start} {end = end} {t = t} x y o p = turn_on (unmarked is_name) (both (one (unmarked is_name)) infix_operand) built.infix_turns_of start end x y
    (λ d. ap (λ (k : Expr). built.infix_turns_of k d) (ap (λ (u : Token). built.infix_turn_of x (pair (leaf u) p.tree)) (sym o.same) ∙ sym p.builds))
    (standing o.taken) (read_both (read_one o.taken) p.read) (omega (arith, o.so_far, p.so_far))

pub infix_stuck : {ts : List Token} {start mid : Cursor} {t : Token} {e : Fail ℕ} → start.at ≤ length ts → TokenTaken (unmarked is_name) ts start mid t → Halts infix_operand ts mid e
    → Halts rows.infix_turns ts start e
infix_stuck w o k = halts_turn w (standing o.taken) (halts_after o.taken o.so_far k)

-- ---- `in` and `is`

pub in_from : {ts : List Token} {start mid : Cursor} {t : Token} (x : Expr) → start.at ≤ length ts → TokenTaken (unmarked is_in) ts start mid t → (r : Result (Expr × Cursor) (Fail ℕ))
    → Advances (row rows.elvis) (λ c. built.contained x t (built.elvis_of c)) ts mid r → Advances rows.named_turn (built.named_turn_of x) ts start r
in_from x w o (Ok k) p = record {
  tree = left (pair (leaf o.taken.token) p.tree);
  looked = max 0 p.looked;
  read = read_first (standing o.taken) (read_both (read_one o.taken) p.read);
  builds = p.builds ∙ ap (λ (t : Token). built.contained x t (built.elvis_of p.tree)) o.same;
  so_far = omega (arith, o.so_far, p.so_far);
}
in_from x w o (Err e) p = halts_left w (standing o.taken) (halts_after o.taken o.so_far p)

pub not_in : (ts : List Token) (start : Cursor) (x : Expr) → start.at ≤ length ts → test (unmarked is_in) (first (drop start.at ts)) ≡ false → (r : Result (Expr × Cursor) (Fail ℕ))
    → Advances (both (one (unmarked is_is)) (row rows.operand_type)) (λ c. built.named_turn_of x (right c)) ts start r → Advances rows.named_turn (built.named_turn_of x) ts start r
not_in ts start x w h (Ok k) q = record { tree = right q.tree; looked = q.looked; read = read_second h q.read; builds = q.builds; so_far = q.so_far }
not_in ts start x w h (Err e) q = halts_right w h q

pub named_once : {ts : List Token} {start end : Cursor} (x y : Expr) → test is_relation (first (drop start.at ts)) ≡ true → Advanced rows.named_turn (built.named_turn_of x) ts start end y
    → (r : Result (Expr × Cursor) (Fail ℕ)) → Advances rows.named_turns (built.named_turns_of y) ts end r → Advances rows.named_turns (built.named_turns_of x) ts start r
named_once {start = start} {end = end} x y h p = turn_on is_relation rows.named_turn built.named_turns_of start end x y (λ d. ap (λ (k : Expr). built.named_turns_of k d) (sym p.builds)) h p.read p.so_far

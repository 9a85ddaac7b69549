-- The steps of the functions that read the conditions of a branch.
use Rattle.std.proofs.Common.{◌≡◌, ℕ, ◌≤◌, max, true, false, List, [], ◌∷◌, ◌++◌, length, drop, Result, Ok, Err, refl, sym, ap, ◌∙◌, arith, append_assoc, append-nil}
use Rattle.grammars.specs.Grammar.{Part, row, Cst, none, leaf, node, pair, left, right, first, test, d_nothing, d_row, d_right, Productive}
use Rattle.kc_text.specs.declared.errors.Fail.{Fail}
use Rattle.kc_tree.specs.declared.fault.Span.{Span}
use Rattle.kc_tree.specs.declared.types.«Type».{«Type»}
use Rattle.kc_tree.specs.declared.expr.Cond.{Cond}
use Rattle.kt_lexer.specs.declared.token.Token.{Token}
use Rattle.kt_lexer.specs.declared.token.Operator.TheVariants as operator
use Rattle.kt_grammar.specs.declared.cursor.Cursor.{Cursor}
use Rattle.kt_grammar.specs.Built as built
use Rattle.kt_grammar.specs.Moves.{Moved}
use Rattle.kt_grammar.specs.Parsed.{Advanced, Halts, Advances}
use Rattle.kt_grammar.specs.Rows as rows
use Rattle.kt_grammar.specs.Rows.{Row, grammar}
use Rattle.kt_grammar.specs.Signs.{TokenTaken}
use Rattle.kt_grammar.specs.Tokens.{is_op, is_in, is_is, begins_condition}
use Rattle.kt_grammar.specs.TypesBuilt as types_built
use Rattle.kt_grammar.specs.TypesBuilt.{span_of}
use Rattle.kt_grammar.proofs.Advances.{halts_row, halts_left, halts_right, halts_first, halts_second, halts_after}
use Rattle.kt_grammar.proofs.Extents.{between_is, placed}
use Rattle.kt_grammar.proofs.Progress.{goes_on}
use Rattle.kt_grammar.proofs.Steps.{standing, read_one, read_both, read_row, read_first, read_second, read_nothing}
use Rattle.kt_grammar.proofs.TypeRows.{stretch}
use Rattle.kt_when.specs.Conditions.{contained, typed, value, without_in, AllConditions}

-- ---- one condition

-- what is built of a part goes to the list's end
pub pushed : {X Y : Type 0} {a : Part Row Token} {build : Cst Token → X} (f : X → Y) (xs ys : List Y) (y : Y) {ts : List Token} {start end : Cursor} {x : X} → Advanced a build ts start end x → y ≡ f x
    → ys ≡ xs ++ y ∷ [] → Advanced a (λ c. xs ++ f (build c) ∷ []) ts start end ys
pushed f xs ys y p g i = record { tree = p.tree; looked = p.looked; read = p.read; builds = i ∙ ap (λ y. xs ++ y ∷ []) (g ∙ ap f p.builds); so_far = p.so_far }

typed_alike : (t : Token) {x y : «Type»} {s u : Span} → x ≡ y → s ≡ u → typed t x s ≡ typed t y u
typed_alike t f g = cc

pub typed_more : (xs ys : List Cond) (t : Token) (s : Span) (k : Cond) {ts : List Token} {start end : Cursor} {x : «Type»} → Advanced (row rows.type_before_arrow) types_built.type_of ts start end x
    → s ≡ stretch ts start.at end.at → k ≡ typed t x s → ys ≡ xs ++ k ∷ [] → Advanced (row rows.type_before_arrow) (λ c. xs ++ typed t (types_built.type_of c) (span_of c) ∷ []) ts start end ys
typed_more xs ys t s k p f g i = record {
  tree = p.tree;
  looked = p.looked;
  read = p.read;
  builds = i ∙ ap (λ k. xs ++ k ∷ []) (g ∙ typed_alike t p.builds (f ∙ between_is (goes_on refl p.read) p.read (goes_on refl p.read) p.read));
  so_far = p.so_far;
}

pub in_from : (xs : List Cond) {ts : List Token} {start mid : Cursor} {t : Token} → start.at ≤ length ts → TokenTaken is_in ts start mid t → (r : Result (List Cond × Cursor) (Fail ℕ))
    → Advances (row rows.expression) (λ c. xs ++ contained t (built.expression_of c) ∷ []) ts mid r → Advances (row rows.condition) (λ c. xs ++ built.condition_of c) ts start r
in_from xs w o (Ok k) p = record {
  tree = node (left (pair (leaf o.taken.token) p.tree));
  looked = max 0 p.looked;
  read = read_row (read_first (standing o.taken) (read_both (read_one o.taken) p.read));
  builds = p.builds ∙ ap (λ (t : Token). xs ++ contained t (built.expression_of p.tree) ∷ []) o.same;
  so_far = omega (arith, o.so_far, p.so_far);
}
in_from xs w o (Err e) p = halts_row (halts_left w (standing o.taken) (halts_after o.taken o.so_far p))

pub not_in : (xs : List Cond) (ts : List Token) (start : Cursor) → start.at ≤ length ts → test is_in (first (drop start.at ts)) ≡ false → (r : Result (List Cond × Cursor) (Fail ℕ))
    → Advances without_in (λ c. xs ++ built.condition_of (node (right c))) ts start r → Advances (row rows.condition) (λ c. xs ++ built.condition_of c) ts start r
not_in xs ts start w h (Ok k) q = record { tree = node (right q.tree); looked = q.looked; read = read_row (read_second h q.read); builds = q.builds; so_far = q.so_far }
not_in xs ts start w h (Err e) q = halts_row (halts_right w h q)

pub is_from : (xs : List Cond) {ts : List Token} {start mid : Cursor} {t : Token} → start.at ≤ length ts → TokenTaken is_is ts start mid t → (r : Result (List Cond × Cursor) (Fail ℕ))
    → Advances (row rows.type_before_arrow) (λ c. xs ++ typed t (types_built.type_of c) (span_of c) ∷ []) ts mid r → Advances without_in (λ c. xs ++ built.condition_of (node (right c))) ts start r
is_from xs w o (Ok k) p = record {
  tree = left (pair (leaf o.taken.token) p.tree);
  looked = max 0 p.looked;
  read = read_first (standing o.taken) (read_both (read_one o.taken) p.read);
  builds = p.builds ∙ ap (λ (t : Token). xs ++ typed t (types_built.type_of p.tree) (span_of p.tree) ∷ []) o.same;
  so_far = omega (arith, o.so_far, p.so_far);
}
is_from xs w o (Err e) p = halts_left w (standing o.taken) (halts_after o.taken o.so_far p)

pub not_is : (xs : List Cond) (ts : List Token) (start : Cursor) → start.at ≤ length ts → test is_is (first (drop start.at ts)) ≡ false → (r : Result (List Cond × Cursor) (Fail ℕ))
    → Advances (row rows.expression) (λ c. xs ++ value (built.expression_of c) ∷ []) ts start r → Advances without_in (λ c. xs ++ built.condition_of (node (right c))) ts start r
not_is xs ts start w h (Ok k) q = record { tree = right q.tree; looked = q.looked; read = read_second h q.read; builds = q.builds; so_far = q.so_far }
not_is xs ts start w h (Err e) q = halts_right w h q

-- ---- conditions behind commas

pub has_no_conditions : Productive grammar (row rows.conditions)
has_no_conditions = ([], node (right none), d_row (d_right d_nothing))

pub conditions_end : (xs : List Cond) {ts : List Token} {start : Cursor} → start.at ≤ length ts → test (is_op operator.Comma) (first (drop start.at ts)) ≡ false
    → Advanced (row rows.conditions) (λ c. xs ++ built.conditions_of c) ts start start xs
conditions_end xs w h = record { tree = node (right none); looked = 0; read = read_row (read_second h (read_nothing w)); builds = sym (append-nil xs); so_far = omega arith }

pub last_comma : (xs : List Cond) {ts : List Token} {start end : Cursor} → Moved (is_op operator.Comma) ts start end → test begins_condition (first (drop end.at ts)) ≡ false
    → Advanced (row rows.conditions) (λ c. xs ++ built.conditions_of c) ts start end xs
last_comma xs o h = record {
  tree = node (left (pair (leaf o.taken.token) (right none)));
  looked = max 0 0;
  read = read_row (read_first (standing o.taken) (read_both (read_one o.taken) (read_second h (read_nothing o.taken.within))));
  builds = sym (append-nil xs);
  so_far = omega (arith, o.so_far);
}

pub condition_halts : {ts : List Token} {start mid : Cursor} {e : Fail ℕ} → start.at ≤ length ts → Moved (is_op operator.Comma) ts start mid → test begins_condition (first (drop mid.at ts)) ≡ true
    → Halts (row rows.condition) ts mid e → Halts (row rows.conditions) ts start e
condition_halts w o h k = halts_row (halts_left w (standing o.taken) (halts_after o.taken o.so_far (halts_left o.taken.within h (halts_first has_no_conditions k))))

pub conditions_turn : (xs ys : List Cond) {ts : List Token} {start mid next : Cursor} → start.at ≤ length ts → Moved (is_op operator.Comma) ts start mid → test begins_condition (first (drop mid.at ts)) ≡ true
    → Advanced (row rows.condition) (λ c. xs ++ built.condition_of c) ts mid next ys → (r : Result (List Cond × Cursor) (Fail ℕ)) → Advances (row rows.conditions) (λ c. ys ++ built.conditions_of c) ts next r
    → Advances (row rows.conditions) (λ c. xs ++ built.conditions_of c) ts start r
conditions_turn xs ys w o h p (Ok k) q = record {
  tree = node (left (pair (leaf o.taken.token) (left (pair p.tree q.tree))));
  looked = max 0 (max p.looked q.looked);
  read = read_row (read_first (standing o.taken) (read_both (read_one o.taken) (read_first h (read_both p.read q.read))));
  builds = q.builds ∙ ap (λ zs. zs ++ built.conditions_of q.tree) p.builds ∙ append_assoc xs (built.condition_of p.tree) (built.conditions_of q.tree);
  so_far = omega (arith, o.so_far, p.so_far, q.so_far);
}
conditions_turn xs ys w o h p (Err e) q = halts_row (halts_left w (standing o.taken) (halts_after o.taken o.so_far (halts_left o.taken.within h (halts_second p.read p.so_far q))))

-- ---- all of them

pub conditions_from : {none_yet xs ys : List Cond} {ts : List Token} {start mid end : Cursor} → none_yet ≡ [] → Advanced (row rows.condition) (λ c. none_yet ++ built.condition_of c) ts start mid xs
    → Advanced (row rows.conditions) (λ c. xs ++ built.conditions_of c) ts mid end ys → AllConditions ts start end ys
conditions_from i p q = record {
  advanced = record {
    tree = pair p.tree q.tree;
    looked = max p.looked q.looked;
    read = read_both p.read q.read;
    builds = q.builds ∙ ap (λ zs. zs ++ built.conditions_of q.tree) (p.builds ∙ ap (λ zs. zs ++ built.condition_of p.tree) i);
    so_far = omega (arith, p.so_far, q.so_far);
  };
  begins = (placed (goes_on refl p.read) p.read).begins;
}

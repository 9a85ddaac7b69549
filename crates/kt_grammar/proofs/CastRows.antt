-- The steps of the functions that read operators whose right side is a type.
use Rattle.std.proofs.Common.{◌≡◌, ℕ, ◌≤◌, max, false, List, length, drop, Result, Ok, Err, refl, sym, ap, ◌∙◌, arith}
use Rattle.grammars.specs.Grammar.{one, row, both, leaf, pair, right, first, test}
use Rattle.kc_text.specs.declared.errors.Fail.{Fail}
use Rattle.kc_text.specs.declared.errors.Fail.TheVariants.{Found}
use Rattle.kc_tree.specs.declared.fault.Span.{Span}
use Rattle.kc_tree.specs.declared.types.«Type».{«Type»}
use Rattle.kc_tree.specs.declared.expr.Expr.{Expr}
use Rattle.kt_lexer.specs.declared.token.Token.{Token}
use Rattle.kt_lexer.specs.declared.token.Keyword.TheVariants as keyword
use Rattle.kt_grammar.specs.declared.cursor.Cursor.{Cursor}
use Rattle.kt_grammar.specs.Built as built
use Rattle.kt_grammar.specs.Parsed.{Advanced, Halts, Advances}
use Rattle.kt_grammar.specs.Rows as rows
use Rattle.kt_grammar.specs.Signs.{TokenTaken}
use Rattle.kt_grammar.specs.Tokens.{unmarked, is_as, is_is}
use Rattle.kt_grammar.specs.TypesBuilt.{type_of, span_of}
use Rattle.kt_grammar.proofs.SingleTokens.{word_token}
use Rattle.kt_grammar.proofs.OperandRows.{has_operand_type}
use Rattle.kt_grammar.proofs.Advances.{halts_first, halts_after, halts_turn, turn_on, not_one}
use Rattle.kt_grammar.proofs.Extents.{between_is}
use Rattle.kt_grammar.proofs.Progress.{goes_on}
use Rattle.kt_grammar.proofs.Steps.{standing, read_one, read_both}
use Rattle.kt_grammar.proofs.TypeRows.{stretch}

-- ---- casts

cast_alike : (x : Expr) {y : Expr} {s u : Span} {t v : Token} {ty written : «Type»} → t ≡ v → ty ≡ written → s ≡ u → y ≡ built.cast x t ty s → built.cast x v written u ≡ y
cast_alike x {u = u} {t = t} {ty = ty} {written = written} p q f g =
    ap (λ (k : Token). built.cast x k written u) (sym p) ∙ ap (λ (k : «Type»). built.cast x t k u) (sym q) ∙ ap (λ (k : Span). built.cast x t ty k) (sym f) ∙ sym g

pub cast_turn : {ts : List Token} {start mid end : Cursor} {t : Token} {ty : «Type»} (x y : Expr) (s : Span) → TokenTaken (unmarked is_as) ts start mid t → Advanced (row rows.operand_type) type_of ts mid end ty
    → s ≡ stretch ts mid.at end.at → y ≡ built.cast x t ty s
    → (r : Result (Expr × Cursor) (Fail ℕ)) → Advances rows.cast_turns (built.cast_turns_of y) ts end r → Advances rows.cast_turns (built.cast_turns_of x) ts start r
cast_turn {start = start} {end = end} x y s o p f g = turn_on (unmarked is_as) (both (one (unmarked is_as)) (row rows.operand_type)) built.cast_turns_of start end x y
    (λ d. ap (λ (k : Expr). built.cast_turns_of k d) (cast_alike x o.same p.builds (f ∙ between_is (goes_on refl p.read) p.read (goes_on refl p.read) p.read) g))
    (standing o.taken) (read_both (read_one o.taken) p.read) (omega (arith, o.so_far, p.so_far))

pub cast_halts : {ts : List Token} {start mid : Cursor} {t : Token} {x : Fail ℕ} → start.at ≤ length ts → TokenTaken (unmarked is_as) ts start mid t → Halts (row rows.operand_type) ts mid x → Halts rows.cast_turns ts start x
cast_halts w o k = halts_turn w (standing o.taken) (halts_after o.taken o.so_far k)

-- ---- `is`

typed_alike : (x : Expr) (t : Token) {y : Expr} {s u : Span} {ty written : «Type»} → ty ≡ written → s ≡ u → y ≡ built.typed x t ty s → y ≡ built.typed x t written u
typed_alike x t {u = u} {ty = ty} q f g = g ∙ ap (λ (k : Span). built.typed x t ty k) f ∙ ap (λ (k : «Type»). built.typed x t k u) q

pub typed_built : {ts : List Token} {start end : Cursor} {ty : «Type»} (x : Expr) (t : Token) (y : Expr) (s : Span) → Advanced (row rows.operand_type) type_of ts start end ty
    → s ≡ stretch ts start.at end.at → y ≡ built.typed x t ty s → Advanced (row rows.operand_type) (λ c. built.typed x t (type_of c) (span_of c)) ts start end y
typed_built x t y s p f g = record {
  tree = p.tree;
  looked = p.looked;
  read = p.read;
  builds = typed_alike x t p.builds (f ∙ between_is (goes_on refl p.read) p.read (goes_on refl p.read) p.read) g;
  so_far = p.so_far;
}

pub typed_from : {ts : List Token} {start mid : Cursor} {t : Token} (x : Expr) → TokenTaken (unmarked is_is) ts start mid t → (r : Result (Expr × Cursor) (Fail ℕ))
    → Advances (row rows.operand_type) (λ c. built.typed x t (type_of c) (span_of c)) ts mid r → Advances (both (one (unmarked is_is)) (row rows.operand_type)) (λ c. built.named_turn_of x (right c)) ts start r
typed_from x o (Ok k) p = record {
  tree = pair (leaf o.taken.token) p.tree;
  looked = max 0 p.looked;
  read = read_both (read_one o.taken) p.read;
  builds = p.builds ∙ ap (λ (t : Token). built.typed x t (type_of p.tree) (span_of p.tree)) o.same;
  so_far = omega (arith, o.so_far, p.so_far);
}
typed_from x o (Err e) p = halts_after o.taken o.so_far p

pub typed_wanted : {ts : List Token} {start : Cursor} {x : Fail ℕ} → start.at ≤ length ts → test (unmarked is_is) (first (drop start.at ts)) ≡ false
    → x ≡ (let y : Fail ℕ = Found (max start.looked start.at) in y) → Halts (both (one (unmarked is_is)) (row rows.operand_type)) ts start x
typed_wanted w h i = halts_first has_operand_type (not_one (word_token keyword.Is) refl w h i)

-- The steps of the functions that read setters.
use Rattle.std.proofs.Common.{◌≡◌, ℕ, ◌≤◌, max, Bool, true, false, List, [], ◌∷◌, length, drop, Result, Ok, Err, Option, Some, None, refl, sym, ap, ◌∙◌, arith}
use Rattle.grammars.specs.Grammar.{Part, next, one, row, both, guard, Cst, none, leaf, node, pair, left, right, first, test, d_nothing, d_one, d_row, d_both, d_right, d_guard, Reads, r_one, r_row, r_both, r_guard, Productive}
use Rattle.kc_text.specs.declared.errors.Fail.{Fail}
use Rattle.kc_text.specs.declared.errors.Fail.TheVariants.{Found}
use Rattle.kc_tree.specs.declared.decl.FunBody.{FunBody}
use Rattle.kc_tree.specs.declared.decl.Setter.{Setter}
use Rattle.kc_tree.specs.declared.fault.Span.{Span}
use Rattle.kc_tree.specs.declared.types.Word.{Word}
use Rattle.kt_bodies.specs.Terminals.{NameMoved}
use Rattle.kt_lexer.specs.declared.token.Token.{Token}
use Rattle.kt_lexer.specs.declared.token.Operator.TheVariants as operator
use Rattle.kt_members.specs.Setters.{bracketed_name, name_in, setter_with}
use Rattle.kt_members.proofs.Choices.{BuiltAlike, taken_left, built_alike}
use Rattle.kt_members.proofs.TokenRows.{named, has_body}
use Rattle.kt_grammar.specs.declared.cursor.Cursor.{Cursor}
use Rattle.kt_grammar.specs.DeclarationsBuilt as built
use Rattle.kt_grammar.specs.Moves.{Moved}
use Rattle.kt_grammar.specs.Parsed.{Advanced, Halts, Advances}
use Rattle.kt_grammar.specs.Rows as rows
use Rattle.kt_grammar.specs.Rows.{Row, grammar, op}
use Rattle.kt_grammar.specs.Tokens.{is_op, is_set, is_name, marked}
use Rattle.kt_grammar.specs.TypesBuilt.{span_of}
use Rattle.kt_grammar.proofs.Advances.{halts_as, halts_row, halts_first, halts_second, halts_after, refused_guard, read_guard, not_guarded}
use Rattle.kt_grammar.proofs.Extents.{between_is}
use Rattle.kt_grammar.proofs.Progress.{goes_on}
use Rattle.kt_grammar.proofs.Steps.{has_both, read_one, read_both, read_row, read_second, read_nothing}
use Rattle.kt_grammar.proofs.TypeRows.{stretch, has_op, has_name}

-- ---- parts have derivations

pub has_name_close : Productive grammar (both (one is_name) (op operator.CloseRound))
has_name_close = has_both has_name (has_op operator.CloseRound)

pub has_bracketed_name : Productive grammar bracketed_name
has_bracketed_name = has_both (has_op operator.OpenRound) has_name_close

pub has_behind_set : Productive grammar (both bracketed_name (row rows.body))
has_behind_set = has_both has_bracketed_name has_body

pub has_setter : Productive grammar (row rows.setter)
has_setter = let k = has_behind_set in (named 4 ∷ k.0, node (pair (leaf (named 4)) k.1), d_row (d_both (d_one refl) k.2))

pub has_setter_on_line : Productive grammar rows.setter_on_line
has_setter_on_line = let k = has_behind_set in (named 4 ∷ k.0, node (node (pair (leaf (named 4)) k.1)), d_guard refl (d_row (d_both (d_one refl) k.2)) (omega arith))

pub has_behind_block : (var : Bool) → Productive grammar (rows.setter_behind_block var)
has_behind_block true = has_setter
has_behind_block false = ([], right none, d_right d_nothing)

pub has_behind_value : (var : Bool) → Productive grammar (rows.setter_behind_value var)
has_behind_value true = has_setter_on_line
has_behind_value false = ([], right none, d_right d_nothing)

-- ---- a setter

pub name_from : {ts : List Token} {start next mid end : Cursor} {w : Word} → Moved (is_op operator.OpenRound) ts start next → NameMoved ts next mid w → Moved (is_op operator.CloseRound) ts mid end
    → Advanced bracketed_name name_in ts start end w
name_from o n k = record {
  tree = pair (leaf o.taken.token) (pair (leaf n.taken.token) (leaf k.taken.token));
  looked = 0;
  read = read_both (read_one o.taken) (read_both (read_one n.taken) (read_one k.taken));
  builds = n.word;
  so_far = omega (arith, o.so_far, n.so_far, k.so_far);
}

setter_built : {ts r : List Token} {x : Cst Token} (t : Token) (y : Cst Token) → Reads grammar bracketed_name ts x r
    → setter_with (span_of (pair (leaf t) (pair x y))) (name_in x) (built.body_of y) ≡ built.setter_of (node (pair (leaf t) (pair x y)))
setter_built t y (r_both (r_one h) (r_both (r_one k) (r_one m))) = refl

setter_alike : {s u : Span} {w v : Word} {b d : Option FunBody} → s ≡ u → w ≡ v → b ≡ d → setter_with s w b ≡ setter_with u v d
setter_alike {s = s} {u = u} {w = w} {v = v} {b = b} f g h = ap (λ (m : Span). setter_with m w b) f ∙ ap (λ (m : Word). setter_with u m b) g ∙ ap (λ (m : Option FunBody). setter_with u v m) h

pub setter_from : (s : Span) {ts : List Token} {start next mid end : Cursor} {w : Word} {b : Option FunBody} {y : Option Setter} → Moved is_set ts start next → Advanced bracketed_name name_in ts next mid w
    → Advanced (row rows.body) built.body_of ts mid end b → s ≡ stretch ts start.at end.at → y ≡ setter_with s w b → Advanced (row rows.setter) built.setter_of ts start end y
setter_from s o n p f g =
    let whole = read_row {n = rows.setter} (read_both (read_one o.taken) (read_both n.read p.read)) in
    record {
      tree = node (pair (leaf o.taken.token) (pair n.tree p.tree));
      looked = max 0 (max n.looked p.looked);
      read = whole;
      builds = g ∙ setter_alike (f ∙ between_is (goes_on refl whole) whole (goes_on refl whole) whole) n.builds p.builds ∙ setter_built o.taken.token p.tree n.read.reads;
      so_far = omega (arith, o.so_far, n.so_far, p.so_far);
    }

-- ---- where it stands

pub on_line : (ts : List Token) (start : Cursor) → start.at ≤ length ts → test (marked is_set) (first (drop start.at ts)) ≡ true → (r : Result (Option Setter × Cursor) (Fail ℕ))
    → Advances (row rows.setter) built.setter_of ts start r → Advances rows.setter_on_line built.setter_on_line_of ts start r
on_line ts start w h (Ok k) p = record { tree = node p.tree; looked = p.looked; read = read_guard refl h p.read; builds = p.builds; so_far = p.so_far }
on_line ts start w h (Err e) p = halts_as (λ place r. refused_guard w h has_setter_on_line r) p

pub not_on_line : {ts : List Token} {start : Cursor} {e : Fail ℕ} → start.at ≤ length ts → test (marked is_set) (first (drop start.at ts)) ≡ false
    → e ≡ (let x : Fail ℕ = Found (max start.looked start.at) in x) → Halts rows.setter_on_line ts start e
not_on_line w h i = not_guarded w h has_setter_on_line i

row_built : BuiltAlike (row rows.setter) built.setter_of built.setter_behind_block_of
row_built us rest _ (r_row d) = refl

line_built : BuiltAlike rows.setter_on_line built.setter_on_line_of built.setter_behind_value_of
line_built us rest _ (r_guard h d p) = refl

pub block_var : (var : Bool) → var ≡ true → (ts : List Token) (start : Cursor) (r : Result (Option Setter × Cursor) (Fail ℕ)) → Advances (row rows.setter) built.setter_of ts start r
    → Advances (rows.setter_behind_block var) built.setter_behind_block_of ts start r
block_var true e ts start r p = built_alike (row rows.setter) built.setter_of built.setter_behind_block_of row_built ts start r p
block_var false e ts start r p = absurd (cc)

pub block_val : (var : Bool) → var ≡ false → (ts : List Token) (start : Cursor) → start.at ≤ length ts → test is_set (first (drop start.at ts)) ≡ true → (r : Result (Option Setter × Cursor) (Fail ℕ))
    → Advances (row rows.setter) built.setter_of ts start r → Advances (rows.setter_behind_block var) built.setter_behind_block_of ts start r
block_val true e ts start w h r p = absurd (cc)
block_val false e ts start w h r p = taken_left is_set (row rows.setter) _ built.setter_of built.setter_behind_block_of (λ us rest c d. refl) ts start w h r p

pub block_none : (var : Bool) → var ≡ false → (ts : List Token) (start : Cursor) → start.at ≤ length ts → test is_set (first (drop start.at ts)) ≡ false
    → Advanced (rows.setter_behind_block var) built.setter_behind_block_of ts start start None
block_none true e ts start w h = absurd (cc)
block_none false e ts start w h = record { tree = right none; looked = 0; read = read_second h (read_nothing w); builds = refl; so_far = omega arith }

pub value_var : (var : Bool) → var ≡ true → (ts : List Token) (start : Cursor) (r : Result (Option Setter × Cursor) (Fail ℕ)) → Advances rows.setter_on_line built.setter_on_line_of ts start r
    → Advances (rows.setter_behind_value var) built.setter_behind_value_of ts start r
value_var true e ts start r p = built_alike rows.setter_on_line built.setter_on_line_of built.setter_behind_value_of line_built ts start r p
value_var false e ts start r p = absurd (cc)

pub value_val : (var : Bool) → var ≡ false → (ts : List Token) (start : Cursor) → start.at ≤ length ts → test (marked is_set) (first (drop start.at ts)) ≡ true → (r : Result (Option Setter × Cursor) (Fail ℕ))
    → Advances rows.setter_on_line built.setter_on_line_of ts start r → Advances (rows.setter_behind_value var) built.setter_behind_value_of ts start r
value_val true e ts start w h r p = absurd (cc)
value_val false e ts start w h r p = taken_left (marked is_set) rows.setter_on_line _ built.setter_on_line_of built.setter_behind_value_of (λ us rest c d. refl) ts start w h r p

pub value_none : (var : Bool) → var ≡ false → (ts : List Token) (start : Cursor) → start.at ≤ length ts → test (marked is_set) (first (drop start.at ts)) ≡ false
    → Advanced (rows.setter_behind_value var) built.setter_behind_value_of ts start start None
value_none true e ts start w h = absurd (cc)
value_none false e ts start w h = record { tree = right none; looked = 0; read = read_second h (read_nothing w); builds = refl; so_far = omega arith }

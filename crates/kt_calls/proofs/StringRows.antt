-- The steps of the functions that read strings.
use Rattle.std.proofs.Common.{◌≡◌, ℕ, ◌≤◌, max, true, false, List, [], ◌∷◌, ◌++◌, length, drop, Result, refl, sym, ap, ◌∙◌, arith, append_assoc, append-nil}
use Rattle.grammars.specs.Grammar.{one, row, both, Cst, none, leaf, node, pair, first, test, d_one, d_done, Reads, r_one, r_both, r_left, r_right, Productive}
use Rattle.kc_text.specs.declared.errors.Fail.{Fail}
use Rattle.kc_tree.specs.declared.fault.Span.{Span}
use Rattle.kc_tree.specs.declared.types.Word.{Word}
use Rattle.kc_tree.specs.declared.expr.Expr.{Expr}
use Rattle.kc_tree.specs.declared.expr.ExprKind.TheVariants as e
use Rattle.kc_tree.specs.declared.expr.Piece.{Piece}
use Rattle.kc_tree.specs.declared.expr.Piece.TheVariants as piece
use Rattle.kt_calls.specs.declared.marks.Mark.{Mark}
use Rattle.kt_calls.specs.declared.marks.Mark.TheVariants as mark
use Rattle.kt_calls.specs.Marks.{is_mark}
use Rattle.kt_calls.specs.Strings.{text_piece, text_piece_of, name_piece, name_piece_of, hole, hole_of, any_piece, any_piece_of, all_pieces}
use Rattle.kt_calls.proofs.MarkRows.{sample, is_sample}
use Rattle.kt_grammar.proofs.OperatorRows.{has_expression}
use Rattle.kt_lexer.specs.declared.token.Token.{Token}
use Rattle.kt_grammar.specs.declared.cursor.Cursor.{Cursor}
use Rattle.kt_grammar.specs.Built as built
use Rattle.kt_grammar.specs.Parsed.{Advanced, Advances}
use Rattle.kt_grammar.specs.Rows as rows
use Rattle.kt_grammar.specs.Rows.{grammar}
use Rattle.kt_grammar.specs.Signs.{TokenTaken}
use Rattle.kt_grammar.specs.Tokens.{is_string_open, is_string_text, is_string_name, is_string_close, is_hole_open, is_hole_close, is_piece}
use Rattle.kt_grammar.specs.TypesBuilt.{word_of}
use Rattle.kt_grammar.proofs.Advances.{turn_on, turns_end}
use Rattle.kt_grammar.proofs.Extents.{between_is}
use Rattle.kt_grammar.proofs.Progress.{goes_on}
use Rattle.kt_grammar.proofs.Steps.{has_both, read_one, read_both, read_row}
use Rattle.kt_grammar.proofs.TypeRows.{stretch}

-- ---- parts have derivations

pub has_mark : (m : Mark) → Productive grammar (one (is_mark m))
has_mark m = (sample m ∷ [], leaf (sample m), d_one (is_sample m))

pub has_hole_close : Productive grammar (one is_hole_close)
has_hole_close = has_mark mark.HoleClose

pub has_in_hole : Productive grammar (both (row rows.expression) (one is_hole_close))
has_in_hole = has_both has_expression has_hole_close

pub has_string_close : Productive grammar (one is_string_close)
has_string_close = has_mark mark.StringClose

has_pieces : Productive grammar all_pieces
has_pieces = ([], none, d_done)

pub has_in_string : Productive grammar (both all_pieces (one is_string_close))
has_in_string = has_both has_pieces has_string_close

-- ---- pieces

abbrev text_at : List ℕ → Piece
text_at xs = piece.Text xs

pub text_from : {ts : List Token} {start end : Cursor} {t : Token} {x : List ℕ} → TokenTaken is_string_text ts start end t → x ≡ built.text_of t.kind → Advanced text_piece text_piece_of ts start end (piece.Text x)
text_from o g = record {
  tree = leaf o.taken.token;
  looked = 0;
  read = read_one o.taken;
  builds = ap text_at (g ∙ ap (λ (u : Token). built.text_of u.kind) o.same);
  so_far = omega (arith, o.so_far);
}

abbrev name_at : Word → Piece
name_at w = piece.Name w

pub name_from : {ts : List Token} {start end : Cursor} {t : Token} {w : Word} → TokenTaken is_string_name ts start end t → w ≡ word_of t → Advanced name_piece name_piece_of ts start end (piece.Name w)
name_from o g = record {
  tree = leaf o.taken.token;
  looked = 0;
  read = read_one o.taken;
  builds = ap name_at (g ∙ ap word_of o.same);
  so_far = omega (arith, o.so_far);
}

abbrev hole_at : Expr → Piece
hole_at x = piece.Hole x

pub hole_from : {ts : List Token} {start next mid end : Cursor} {t u : Token} {x : Expr} → TokenTaken is_hole_open ts start next t → Advanced (row rows.expression) built.expression_of ts next mid x
    → TokenTaken is_hole_close ts mid end u → Advanced hole hole_of ts start end (piece.Hole x)
hole_from o p c = record {
  tree = pair (leaf o.taken.token) (pair p.tree (leaf c.taken.token));
  looked = max 0 (max p.looked 0);
  read = read_both (read_one o.taken) (read_both p.read (read_one c.taken));
  builds = ap hole_at p.builds;
  so_far = omega (arith, o.so_far, p.so_far, c.so_far);
}

-- a piece at the list's end
pub one_piece_more : (xs ys : List Piece) {ts : List Token} {start end : Cursor} {x : Piece} → Advanced any_piece any_piece_of ts start end x → ys ≡ xs ++ x ∷ []
    → Advanced any_piece (λ c. xs ++ any_piece_of c ∷ []) ts start end ys
one_piece_more xs ys p g = record { tree = p.tree; looked = p.looked; read = p.read; builds = g ∙ ap (λ (x : Piece). xs ++ x ∷ []) p.builds; so_far = p.so_far }

piece_built : {ts r : List Token} {c : Cst Token} → Reads grammar any_piece ts c r → (d : Cst Token) → built.pieces_of (pair c d) ≡ any_piece_of c ∷ built.pieces_of d
piece_built (r_left h (r_one k)) d = refl
piece_built (r_right h (r_left i (r_one k))) d = refl
piece_built (r_right h (r_right i (r_both (r_one a) (r_both m (r_one b))))) d = refl

pub pieces_turn : (xs ys : List Piece) {ts : List Token} {start mid : Cursor} → test is_piece (first (drop start.at ts)) ≡ true → Advanced any_piece (λ c. xs ++ any_piece_of c ∷ []) ts start mid ys
    → (r : Result (List Piece × Cursor) (Fail ℕ)) → Advances all_pieces (λ c. ys ++ built.pieces_of c) ts mid r → Advances all_pieces (λ c. xs ++ built.pieces_of c) ts start r
pieces_turn xs ys {start = start} {mid = mid} h p = turn_on is_piece any_piece (λ zs c. zs ++ built.pieces_of c) start mid xs ys
    (λ d. ap (λ zs. xs ++ zs) (piece_built p.read.reads d) ∙ sym (append_assoc xs (any_piece_of p.tree ∷ []) (built.pieces_of d)) ∙ ap (λ zs. zs ++ built.pieces_of d) (sym p.builds))
    h p.read p.so_far

pub pieces_end : (xs : List Piece) {ts : List Token} {start : Cursor} → start.at ≤ length ts → test is_piece (first (drop start.at ts)) ≡ false → Advanced all_pieces (λ c. xs ++ built.pieces_of c) ts start start xs
pieces_end xs w h = turns_end is_piece any_piece (λ zs c. zs ++ built.pieces_of c) xs (λ zs. append-nil zs) w h

-- ---- the string

string_alike : {s u : Span} {xs ys : List Piece} → s ≡ u → xs ≡ ys → (let x : Expr = record { span = s; kind = e.Text xs } in x) ≡ record { span = u; kind = e.Text ys }
string_alike p q = cc

pub string_from : (xs : List Piece) {ts : List Token} {start next mid end : Cursor} {t u : Token} {ys : List Piece} {s : Span} {y : Expr} → TokenTaken is_string_open ts start next t → xs ≡ []
    → Advanced all_pieces (λ c. xs ++ built.pieces_of c) ts next mid ys → TokenTaken is_string_close ts mid end u → s ≡ stretch ts start.at end.at → y ≡ record { span = s; kind = e.Text ys }
    → Advanced (row rows.string) built.string_of ts start end y
string_from xs o i p c f g =
    let whole = read_row {n = rows.string} (read_both (read_one o.taken) (read_both p.read (read_one c.taken))) in
    record {
      tree = node (pair (leaf o.taken.token) (pair p.tree (leaf c.taken.token)));
      looked = max 0 (max p.looked 0);
      read = whole;
      builds = g ∙ string_alike (f ∙ between_is (goes_on refl whole) whole (goes_on refl whole) whole) (p.builds ∙ ap (λ zs. zs ++ built.pieces_of p.tree) i);
      so_far = omega (arith, o.so_far, p.so_far, c.so_far);
    }

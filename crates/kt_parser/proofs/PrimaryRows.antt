-- The steps of the functions that read what stands alone.
use Rattle.std.proofs.Common.{◌≡◌, ℕ, ◌≤◌, max, Bool, true, false, List, length, drop, Option, Some, Result, Ok, Err, refl, sym, ap, ◌∙◌, arith}
use Rattle.grammars.specs.Grammar.{Part, next, one, row, both, choose, Cst, leaf, node, pair, left, right, first, test, Productive}
use Rattle.kc_text.specs.declared.errors.Fail.{Fail}
use Rattle.kc_tree.specs.declared.fault.Span.{Span}
use Rattle.kc_tree.specs.declared.types.Word.{Word}
use Rattle.kc_tree.specs.declared.expr.Expr.{Expr}
use Rattle.kc_tree.specs.declared.expr.ExprKind.TheVariants as e
use Rattle.kt_bodies.specs.Terminals.{NameMoved}
use Rattle.kt_parser.specs.Primaries as spec
use Rattle.kt_lexer.specs.declared.token.Token.{Token}
use Rattle.kt_lexer.specs.declared.token.Operator.TheVariants as operator
use Rattle.kt_grammar.specs.declared.cursor.Cursor.{Cursor}
use Rattle.kt_grammar.specs.Built as built
use Rattle.kt_grammar.specs.Moves.{Moved}
use Rattle.kt_grammar.specs.Parsed.{Advanced, Advances}
use Rattle.kt_grammar.specs.Rows as rows
use Rattle.kt_grammar.specs.Rows.{Row, grammar, op, in_brackets}
use Rattle.kt_grammar.specs.Signs.{TokenTaken}
use Rattle.kt_grammar.specs.Tokens.{is_op, is_name, is_atom}
use Rattle.kt_grammar.specs.TypesBuilt.{word_of}
use Rattle.kt_grammar.proofs.Extents.{between_is}
use Rattle.kt_grammar.proofs.Progress.{goes_on}
use Rattle.kt_grammar.proofs.Steps.{standing, has_both, read_one, read_both, read_row, read_first}
use Rattle.kt_grammar.proofs.TypeRows.{stretch, has_op}
use Rattle.kt_grammar.proofs.Advances.{chosen_first, chosen_second, of_row}

pub atom_taken : {ts : List Token} {start end : Cursor} {t : Token} {x : Expr} → TokenTaken is_atom ts start end t → x ≡ spec.atom_of t → Advanced (row rows.primary) built.primary_of ts start end x
atom_taken o g = record {
  tree = node (left (leaf o.taken.token));
  looked = 0;
  read = read_row (read_first (standing o.taken) (read_one o.taken));
  builds = g ∙ ap spec.atom_of o.same;
  so_far = omega (arith, o.so_far);
}

pub no_atom_here : (ts : List Token) (start : Cursor) → start.at ≤ length ts → test is_atom (first (drop start.at ts)) ≡ false → (r : Result (Expr × Cursor) (Fail ℕ)) → Advances spec.no_atom spec.no_atom_of ts start r
    → Advances (row rows.primary) built.primary_of ts start r
no_atom_here ts start w h r p = of_row rows.primary (choose (next is_atom) (one is_atom) spec.no_atom) refl (λ c. built.primary_of (node c)) built.primary_of (λ c. refl) ts start r
    (chosen_second is_atom (one is_atom) spec.no_atom spec.no_atom_of (λ c. built.primary_of (node c)) (λ c. refl) ts start w h r p)

named_alike : {w v : Word} → w ≡ v → (let x : Expr = record { span = w.span; kind = e.Name w.name } in x) ≡ record { span = v.span; kind = e.Name v.name }
named_alike f = ap (λ (w : Word). let x : Expr = record { span = w.span; kind = e.Name w.name } in x) f

pub name_from : {ts : List Token} {start end : Cursor} {w : Word} {x : Expr} → NameMoved ts start end w → x ≡ record { span = w.span; kind = e.Name w.name } → Advanced (one is_name) spec.name_of ts start end x
name_from n g = record { tree = leaf n.taken.token; looked = 0; read = read_one n.taken; builds = g ∙ named_alike n.word; so_far = omega (arith, n.so_far) }

-- ---- an expression in brackets

bracketed_alike : {s u : Span} {x y : Expr} → s ≡ u → x ≡ y → (let z : Expr = record { span = s; kind = e.Paren x } in z) ≡ record { span = u; kind = e.Paren y }
bracketed_alike f g = cc

pub bracket_from : {ts : List Token} {start a b end : Cursor} {s : Span} {x y : Expr} → Moved (is_op operator.OpenRound) ts start a → Advanced (row rows.expression) built.expression_of ts a b x
    → Moved (is_op operator.CloseRound) ts b end → s ≡ stretch ts start.at end.at → y ≡ record { span = s; kind = e.Paren x } → Advanced (in_brackets (row rows.expression)) spec.bracketed_of ts start end y
bracket_from o p q f g =
    let whole = read_both (read_one o.taken) (read_both p.read (read_one q.taken)) in
    record {
      tree = pair (leaf o.taken.token) (pair p.tree (leaf q.taken.token));
      looked = max 0 (max p.looked 0);
      read = whole;
      builds = g ∙ bracketed_alike (f ∙ between_is (goes_on refl whole) whole (goes_on refl whole) whole) p.builds;
      so_far = omega (arith, o.so_far, p.so_far, q.so_far);
    }

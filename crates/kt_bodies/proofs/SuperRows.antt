-- The steps of the functions that read a member of the superclass.
use Rattle.std.proofs.Common.{◌≡◌, ◌≤◌, max, false, List, [], length, drop, Option, Some, None, refl, ap, ◌∙◌, arith}
use Rattle.grammars.specs.Grammar.{one, row, both, none, leaf, node, pair, left, right, first, test, d_nothing, d_right, Productive}
use Rattle.kc_tree.specs.declared.fault.Span.{Span}
use Rattle.kc_tree.specs.declared.types.Word.{Word}
use Rattle.kc_tree.specs.declared.types.«Type».{«Type»}
use Rattle.kc_tree.specs.declared.expr.Expr.{Expr}
use Rattle.kc_tree.specs.declared.expr.ExprKind.TheVariants as e
use Rattle.kt_bodies.specs.Supers.{super_type}
use Rattle.kt_bodies.specs.Terminals.{NameMoved}
use Rattle.kt_lexer.specs.declared.token.Token.{Token}
use Rattle.kt_lexer.specs.declared.token.Operator.TheVariants as operator
use Rattle.kt_lexer.specs.declared.token.Keyword.TheVariants as keyword
use Rattle.kt_grammar.specs.declared.cursor.Cursor.{Cursor}
use Rattle.kt_grammar.specs.Built as built
use Rattle.kt_grammar.specs.Moves.{Moved}
use Rattle.kt_grammar.specs.Parsed.{Advanced}
use Rattle.kt_grammar.specs.Rows as rows
use Rattle.kt_grammar.specs.Rows.{Row, grammar, op}
use Rattle.kt_grammar.specs.Tokens.{is_op, is_word, is_name}
use Rattle.kt_grammar.specs.TypesBuilt as types_built
use Rattle.kt_grammar.proofs.Extents.{between_is}
use Rattle.kt_grammar.proofs.Progress.{goes_on}
use Rattle.kt_grammar.proofs.Steps.{standing, has_both, read_one, read_both, read_row, read_first, read_second, read_nothing}
use Rattle.kt_grammar.proofs.TypeRows.{stretch, has_op, has_name}

pub has_super_type : Productive grammar super_type
has_super_type = ([], right none, d_right d_nothing)

pub has_dot_name : Productive grammar (both (op operator.Dot) (one is_name))
has_dot_name = has_both (has_op operator.Dot) has_name

pub has_super_end : Productive grammar (both super_type (both (op operator.Dot) (one is_name)))
has_super_end = has_both has_super_type has_dot_name

pub no_super_type : {ts : List Token} {start : Cursor} → start.at ≤ length ts → test (is_op operator.Less) (first (drop start.at ts)) ≡ false → Advanced super_type built.super_type ts start start None
no_super_type w h = record { tree = right none; looked = 0; read = read_second h (read_nothing w); builds = refl; so_far = omega arith }

pub super_type_from : {ts : List Token} {start mid next end : Cursor} {x : «Type»} → Moved (is_op operator.Less) ts start mid → Advanced (row rows.type_) types_built.type_of ts mid next x → Moved (is_op operator.Greater) ts next end
    → Advanced super_type built.super_type ts start end (Some x)
super_type_from o p q = record {
  tree = left (pair (leaf o.taken.token) (pair p.tree (leaf q.taken.token)));
  looked = max 0 (max p.looked 0);
  read = read_first (standing o.taken) (read_both (read_one o.taken) (read_both p.read (read_one q.taken)));
  builds = ap Some p.builds;
  so_far = omega (arith, o.so_far, p.so_far, q.so_far);
}

super_alike : {s u : Span} {x y : Option «Type»} {w v : Word} → s ≡ u → x ≡ y → w ≡ v → (let m : Expr = record { span = s; kind = e.Super x w } in m) ≡ record { span = u; kind = e.Super y v }
super_alike f g h = cc

pub super_from : {ts : List Token} {start a b c end : Cursor} {s : Span} {x : Option «Type»} {w : Word} {y : Expr} → Moved (is_word keyword.Super) ts start a → Advanced super_type built.super_type ts a b x
    → Moved (is_op operator.Dot) ts b c → NameMoved ts c end w → s ≡ stretch ts start.at end.at → y ≡ record { span = s; kind = e.Super x w } → Advanced (row rows.super_) built.super_of ts start end y
super_from o p d n f g =
    let whole = read_row {n = rows.super_} (read_both (read_one o.taken) (read_both p.read (read_both (read_one d.taken) (read_one n.taken)))) in
    record {
      tree = node (pair (leaf o.taken.token) (pair p.tree (pair (leaf d.taken.token) (leaf n.taken.token))));
      looked = max 0 (max p.looked (max 0 0));
      read = whole;
      builds = g ∙ super_alike (f ∙ between_is (goes_on refl whole) whole (goes_on refl whole) whole) p.builds n.word;
      so_far = omega (arith, o.so_far, p.so_far, d.so_far, n.so_far);
    }

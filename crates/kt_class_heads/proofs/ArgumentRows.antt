-- The steps of the function that reads written arguments.
use Rattle.std.proofs.Common.{◌≡◌, ◌≤◌, max, false, List, [], length, drop, Some, None, refl, ap, arith}
use Rattle.grammars.specs.Grammar.{row, none, leaf, pair, left, right, first, test, d_nothing, d_right, Productive}
use Rattle.kc_tree.specs.declared.expr.Arg.{Arg}
use Rattle.kt_lexer.specs.declared.token.Token.{Token}
use Rattle.kt_lexer.specs.declared.token.Operator.TheVariants as operator
use Rattle.kt_grammar.specs.declared.cursor.Cursor.{Cursor}
use Rattle.kt_grammar.specs.Built.{arguments_of}
use Rattle.kt_grammar.specs.DeclarationsBuilt as built
use Rattle.kt_grammar.specs.Moves.{Moved}
use Rattle.kt_grammar.specs.Parsed.{Advanced}
use Rattle.kt_grammar.specs.Rows as rows
use Rattle.kt_grammar.specs.Rows.{grammar}
use Rattle.kt_grammar.specs.Tokens.{is_op}
use Rattle.kt_grammar.proofs.Steps.{standing, read_one, read_both, read_first, read_second, read_nothing}

pub has_no_arguments : Productive grammar rows.written_arguments
has_no_arguments = ([], right none, d_right d_nothing)

pub no_arguments : {ts : List Token} {start : Cursor} → start.at ≤ length ts → test (is_op operator.OpenRound) (first (drop start.at ts)) ≡ false → Advanced rows.written_arguments built.written_arguments_of ts start start None
no_arguments w h = record { tree = right none; looked = 0; read = read_second h (read_nothing w); builds = refl; so_far = omega arith }

pub arguments_from : {ts : List Token} {start mid next end : Cursor} {x : List Arg} → Moved (is_op operator.OpenRound) ts start mid → Advanced (row rows.arguments) arguments_of ts mid next x → Moved (is_op operator.CloseRound) ts next end
    → Advanced rows.written_arguments built.written_arguments_of ts start end (Some x)
arguments_from o p q = record {
  tree = left (pair (leaf o.taken.token) (pair p.tree (leaf q.taken.token)));
  looked = max 0 (max p.looked 0);
  read = read_first (standing o.taken) (read_both (read_one o.taken) (read_both p.read (read_one q.taken)));
  builds = ap Some p.builds;
  so_far = omega (arith, o.so_far, p.so_far, q.so_far);
}

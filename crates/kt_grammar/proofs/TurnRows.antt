-- The steps of the functions that read operators behind an operand.
use Rattle.std.proofs.Common.{◌≡◌, ℕ, max, List, Result, Ok, Err, refl, sym, ap, ◌∙◌, arith}
use Rattle.grammars.specs.Grammar.{Part, both, Cst, pair, Reads, r_both, Productive}
use Rattle.kc_text.specs.declared.errors.Fail.{Fail}
use Rattle.kc_tree.specs.declared.expr.Expr.{Expr}
use Rattle.kt_lexer.specs.declared.token.Token.{Token}
use Rattle.kt_grammar.specs.declared.cursor.Cursor.{Cursor}
use Rattle.kt_grammar.specs.Built as built
use Rattle.kt_grammar.specs.Parsed.{Advanced, Advances}
use Rattle.kt_grammar.specs.Rows as rows
use Rattle.kt_grammar.specs.Rows.{Row, grammar}
use Rattle.kt_grammar.specs.Turns as turns
use Rattle.kt_grammar.proofs.Advances.{halts_second}
use Rattle.kt_grammar.proofs.OperatorRows.{has_turns, has_comparison_turn}
use Rattle.kt_grammar.proofs.Steps.{has_both, read_both}

-- the turns of one level, and those of the levels that bind less
pub turns_from : (a b : Part Row Token) (first_of rest_of whole_of : Expr → Cst Token → Expr) → ((x : Expr) (c d : Cst Token) → whole_of x (pair c d) ≡ rest_of (first_of x c) d)
    → {ts : List Token} {start mid : Cursor} (x y : Expr) → Advanced a (first_of x) ts start mid y → (r : Result (Expr × Cursor) (Fail ℕ)) → Advances b (rest_of y) ts mid r
    → Advances (both a b) (whole_of x) ts start r
turns_from a b first_of rest_of whole_of law x y p (Ok k) q = record {
  tree = pair p.tree q.tree;
  looked = max p.looked q.looked;
  read = read_both p.read q.read;
  builds = q.builds ∙ ap (λ (z : Expr). rest_of z q.tree) p.builds ∙ sym (law x p.tree q.tree);
  so_far = omega (arith, p.so_far, q.so_far);
}
turns_from a b first_of rest_of whole_of law x y p (Err e) q = halts_second p.read p.so_far q

-- ---- nothing may stand there

pub has_or : Productive grammar rows.or_turns
has_or = has_turns

pub has_and : Productive grammar turns.and_on
has_and = has_both {a = rows.and_turns} has_turns has_or

pub has_equality : Productive grammar turns.equality_on
has_equality = has_both {a = rows.equality_turns} has_turns has_and

pub has_comparison : Productive grammar turns.comparison_on
has_comparison = has_both {a = rows.comparison_turn} has_comparison_turn has_equality

pub has_named : Productive grammar turns.named_on
has_named = has_both {a = rows.named_turns} has_turns has_comparison

pub has_elvis : Productive grammar turns.elvis_on
has_elvis = has_both {a = rows.elvis_turns} has_turns has_named

pub has_infix : Productive grammar turns.infix_on
has_infix = has_both {a = rows.infix_turns} has_turns has_elvis

pub has_range : Productive grammar turns.range_on
has_range = has_both {a = rows.range_turns} has_turns has_infix

pub has_sum : Productive grammar turns.sum_on
has_sum = has_both {a = rows.sum_turns} has_turns has_range

pub has_product : Productive grammar turns.product_on
has_product = has_both {a = rows.product_turns} has_turns has_sum

pub has_operators : Productive grammar turns.cast_on
has_operators = has_both {a = rows.cast_turns} has_turns has_product

-- ---- what is built of all levels is what the grammar's row says

pub operators_are : {us rest : List Token} {c : Cst Token} (x : Expr) → Reads grammar rows.operator_turns us c rest → turns.cast_on_of x c ≡ built.operator_turns_of x c
operators_are x (r_both a (r_both b (r_both c (r_both d (r_both f (r_both g (r_both h (r_both i (r_both j (r_both k l)))))))))) = refl

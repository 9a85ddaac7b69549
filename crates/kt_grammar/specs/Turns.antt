-- Operators behind an operand, from each level on.
use Rattle.grammars.specs.Grammar.{Part, both, Cst, pair}
use Rattle.kc_tree.specs.declared.expr.Expr.{Expr}
use Rattle.kt_lexer.specs.declared.token.Token.{Token}
use Rattle.kt_grammar.specs.Built as built
use Rattle.kt_grammar.specs.Rows as rows
use Rattle.kt_grammar.specs.Rows.{Row}

-- ---- what stands there

abbrev pub and_on : Part Row Token
and_on = both rows.and_turns rows.or_turns

abbrev pub equality_on : Part Row Token
equality_on = both rows.equality_turns and_on

abbrev pub comparison_on : Part Row Token
comparison_on = both rows.comparison_turn equality_on

abbrev pub named_on : Part Row Token
named_on = both rows.named_turns comparison_on

abbrev pub elvis_on : Part Row Token
elvis_on = both rows.elvis_turns named_on

abbrev pub infix_on : Part Row Token
infix_on = both rows.infix_turns elvis_on

abbrev pub range_on : Part Row Token
range_on = both rows.range_turns infix_on

abbrev pub sum_on : Part Row Token
sum_on = both rows.sum_turns range_on

abbrev pub product_on : Part Row Token
product_on = both rows.product_turns sum_on

abbrev pub cast_on : Part Row Token
cast_on = both rows.cast_turns product_on

-- ---- what is built of the operand and of that

abbrev pub and_on_of : Expr → Cst Token → Expr
and_on_of x (pair c d) = built.or_turns_of (built.and_turns_of x c) d
and_on_of x _ = x

abbrev pub equality_on_of : Expr → Cst Token → Expr
equality_on_of x (pair c d) = and_on_of (built.equality_turns_of x c) d
equality_on_of x _ = x

abbrev pub comparison_on_of : Expr → Cst Token → Expr
comparison_on_of x (pair c d) = equality_on_of (built.comparison_turn_of x c) d
comparison_on_of x _ = x

abbrev pub named_on_of : Expr → Cst Token → Expr
named_on_of x (pair c d) = comparison_on_of (built.named_turns_of x c) d
named_on_of x _ = x

abbrev pub elvis_on_of : Expr → Cst Token → Expr
elvis_on_of x (pair c d) = named_on_of (built.elvis_turns_of x c) d
elvis_on_of x _ = x

abbrev pub infix_on_of : Expr → Cst Token → Expr
infix_on_of x (pair c d) = elvis_on_of (built.infix_turns_of x c) d
infix_on_of x _ = x

abbrev pub range_on_of : Expr → Cst Token → Expr
range_on_of x (pair c d) = infix_on_of (built.range_turns_of x c) d
range_on_of x _ = x

abbrev pub sum_on_of : Expr → Cst Token → Expr
sum_on_of x (pair c d) = range_on_of (built.sum_turns_of x c) d
sum_on_of x _ = x

abbrev pub product_on_of : Expr → Cst Token → Expr
product_on_of x (pair c d) = sum_on_of (built.product_turns_of x c) d
product_on_of x _ = x

abbrev pub cast_on_of : Expr → Cst Token → Expr
cast_on_of x (pair c d) = product_on_of (built.cast_turns_of x c) d
cast_on_of x _ = x

-- Parts of jumps, and what is built of them.
use Rattle.std.specs.Prelude.{Option, Some, None}
use Rattle.grammars.specs.Grammar.{Part, next, one, row, both, choose, guard, Cst, node, left, right}
use Rattle.kc_tree.specs.declared.fault.Span.{Span}
use Rattle.kc_tree.specs.declared.types.Word.{Word}
use Rattle.kc_tree.specs.declared.expr.Expr.{Expr}
use Rattle.kc_tree.specs.declared.expr.ExprKind.{ExprKind}
use Rattle.kc_tree.specs.declared.expr.ExprKind.TheVariants as e
use Rattle.kt_control.specs.Labels.{label_use}
use Rattle.kt_lexer.specs.declared.token.Token.{Token}
use Rattle.kt_lexer.specs.declared.token.Keyword.TheVariants as keyword
use Rattle.kt_grammar.specs.Built as built
use Rattle.kt_grammar.specs.Built.{across}
use Rattle.kt_grammar.specs.Rows as rows
use Rattle.kt_grammar.specs.Rows.{Row, word, maybe}
use Rattle.kt_grammar.specs.Tokens.{is_word, is_break, unmarked, begins_expression}

-- an expression on the same line
abbrev pub on_line : Part Row Token
on_line = guard (next (unmarked begins_expression)) (row rows.expression)

abbrev pub value_on_line : Part Row Token
value_on_line = maybe (unmarked begins_expression) on_line

abbrev pub return_ : Part Row Token
return_ = both (word keyword.Return) (both label_use value_on_line)

abbrev pub throw_ : Part Row Token
throw_ = both (word keyword.Throw) (row rows.expression)

abbrev pub break_ : Part Row Token
break_ = both (one is_break) label_use

abbrev pub throw_or_break : Part Row Token
throw_or_break = choose (next (is_word keyword.Throw)) throw_ break_

abbrev pub return_of : Cst Token → Expr
return_of x = built.jump_of (node (left x))

abbrev pub throw_of : Cst Token → Expr
throw_of x = built.jump_of (node (right (left x)))

abbrev pub break_of : Cst Token → Expr
break_of x = built.jump_of (node (right (right x)))

-- a `return` whose word stands at the first place
abbrev pub returned : Span → Option Word → Expr → Expr
returned s l x = record { span = across s x.span; kind = e.Return l (Some x) }

-- by the word of the jump
abbrev pub kind_at : Option Token → Option Word → ExprKind
kind_at None l = e.Break l
kind_at (Some t) l = built.jump_kind t.kind l

-- Parts of `try`, and what is built of them.
use Rattle.std.specs.Prelude.{[], ◌++◌, Option, Some, None}
use Rattle.grammars.specs.Grammar.{Part, next, nothing, one, row, both, choose, many, Cst, leaf, pair, left, right}
use Rattle.kc_tree.specs.declared.expr.CatchPart.{CatchPart}
use Rattle.kc_tree.specs.declared.expr.Expr.{Expr}
use Rattle.kc_tree.specs.declared.types.Word.{Word}
use Rattle.kc_tree.specs.declared.types.«Type».{«Type»}
use Rattle.kt_bodies.specs.declared.tries.Clauses.{Clauses}
use Rattle.kt_lexer.specs.declared.token.Token.{Token}
use Rattle.kt_lexer.specs.declared.token.Operator.TheVariants as operator
use Rattle.kt_grammar.specs.Built as built
use Rattle.kt_grammar.specs.Lookahead.{catch_clause, finally_clause}
use Rattle.kt_grammar.specs.Rows as rows
use Rattle.kt_grammar.specs.Rows.{Row, op, in_brackets}
use Rattle.kt_grammar.specs.Tokens.{is_name, is_catch, is_finally}
use Rattle.kt_grammar.specs.TypesBuilt.{no_span, no_type, word_of, type_of, between, last_of}

-- the variable of a clause that catches, in its brackets
abbrev pub caught : Part Row Token
caught = in_brackets (both (one is_name) (both (op operator.Colon) (row rows.type_)))

abbrev pub no_caught : Word × «Type»
no_caught = (record { span = no_span; name = 0 }, no_type)

abbrev pub caught_of : Cst Token → Word × «Type»
caught_of (pair bracket (pair (pair (leaf n) (pair colon x)) close)) = (word_of n, type_of x)
caught_of _ = no_caught

-- a clause with its variable, from the token at which it begins
abbrev pub handler : Option Token → Word → «Type» → Cst Token → CatchPart
handler t w ty y = record { span = between t (last_of y); name = w; ty = ty; body = built.block_of y }

abbrev pub more_catches : Part Row Token
more_catches = many catch_clause (row rows.catch_)

abbrev pub last_clause : Part Row Token
last_clause = both (one is_finally) (row rows.block)

abbrev pub last_block : Cst Token → Expr
last_block (pair word x) = built.block_of x
last_block _ = built.no_expression

abbrev pub maybe_last : Part Row Token
maybe_last = choose finally_clause last_clause nothing

abbrev pub maybe_block : Cst Token → Option Expr
maybe_block (left x) = Some (last_block x)
maybe_block _ = None

abbrev pub with_catches : Part Row Token
with_catches = both (row rows.catch_) (both more_catches maybe_last)

-- all that stands behind the block of a `try`
abbrev pub clauses : Part Row Token
clauses = choose (next is_catch) with_catches last_clause

abbrev pub catching : Cst Token → Clauses
catching (pair x (pair more y)) = record { catches = built.catch_of x ++ built.catches_of more; last = maybe_block y }
catching _ = record { catches = []; last = None }

abbrev pub clauses_of : Cst Token → Clauses
clauses_of (left x) = catching x
clauses_of (right x) = record { catches = []; last = Some (last_block x) }
clauses_of _ = record { catches = []; last = None }

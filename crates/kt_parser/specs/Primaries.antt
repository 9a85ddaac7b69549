-- What stands alone, behind the tests of what it may be, and what is built of it.
use Rattle.std.specs.Prelude.{Bool}
use Rattle.grammars.specs.Grammar.{Part, next, one, row, both, choose, Cst, leaf, node, pair, left, right}
use Rattle.kc_tree.specs.declared.expr.Expr.{Expr}
use Rattle.kc_tree.specs.declared.expr.ExprKind.TheVariants as e
use Rattle.kt_lexer.specs.declared.token.Token.{Token}
use Rattle.kt_lexer.specs.declared.token.Keyword.TheVariants as keyword
use Rattle.kt_lexer.specs.declared.token.Operator.TheVariants as operator
use Rattle.kt_grammar.specs.Built as built
use Rattle.kt_grammar.specs.Rows as rows
use Rattle.kt_grammar.specs.Rows.{Row, op, word, in_brackets}
use Rattle.kt_grammar.specs.Tokens.{is_op, is_word, is_name, is_jump, is_string_open}
use Rattle.kt_grammar.specs.TypesBuilt.{word_of}

abbrev pub no_try : Part Row Token
no_try = choose (next is_jump) (row rows.jump) (row rows.lambda)

abbrev pub no_when : Part Row Token
no_when = choose (next (is_word keyword.Try)) (row rows.try_) no_try

abbrev pub no_if : Part Row Token
no_if = choose (next (is_word keyword.When)) (row rows.when_) no_when

abbrev pub no_super : Part Row Token
no_super = choose (next (is_word keyword.If)) (row rows.conditional) no_if

abbrev pub no_bracket : Part Row Token
no_bracket = choose (next (is_word keyword.Super)) (row rows.super_) no_super

abbrev pub no_string : Part Row Token
no_string = choose (next (is_op operator.OpenRound)) (in_brackets (row rows.expression)) no_bracket

abbrev pub no_name : Part Row Token
no_name = choose (next is_string_open) (row rows.string) no_string

abbrev pub no_atom : Part Row Token
no_atom = choose (next is_name) (one is_name) no_name

-- ---- what is built of it

abbrev pub no_atom_of : Cst Token → Expr
no_atom_of c = built.primary_of (node (right c))

abbrev pub no_name_of : Cst Token → Expr
no_name_of c = no_atom_of (right c)

abbrev pub no_string_of : Cst Token → Expr
no_string_of c = no_name_of (right c)

abbrev pub no_bracket_of : Cst Token → Expr
no_bracket_of c = no_string_of (right c)

abbrev pub no_super_of : Cst Token → Expr
no_super_of c = no_bracket_of (right c)

abbrev pub no_if_of : Cst Token → Expr
no_if_of c = no_super_of (right c)

abbrev pub no_when_of : Cst Token → Expr
no_when_of c = no_if_of (right c)

abbrev pub no_try_of : Cst Token → Expr
no_try_of c = no_when_of (right c)

-- an expression in brackets
abbrev pub bracketed_of : Cst Token → Expr
bracketed_of c = no_string_of (left c)

-- a name
abbrev pub name_of : Cst Token → Expr
name_of c = no_atom_of (left c)

-- what a token stands for that is no name
abbrev pub atom_of : Token → Expr
atom_of t = record { span = t.span; kind = built.atom_of_token t.kind }

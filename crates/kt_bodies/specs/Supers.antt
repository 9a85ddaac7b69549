-- A part of a member of the superclass.
use Rattle.grammars.specs.Grammar.{Part, both, row}
use Rattle.kt_lexer.specs.declared.token.Token.{Token}
use Rattle.kt_lexer.specs.declared.token.Operator.TheVariants as operator
use Rattle.kt_grammar.specs.Rows as rows
use Rattle.kt_grammar.specs.Rows.{Row, op, maybe}
use Rattle.kt_grammar.specs.Tokens.{is_op}

-- the superclass in `<` and `>`, or nothing
abbrev pub super_type : Part Row Token
super_type = maybe (is_op operator.Less) (both (op operator.Less) (both (row rows.type_) (op operator.Greater)))

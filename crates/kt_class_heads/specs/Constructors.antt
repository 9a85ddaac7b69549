-- Parts of primary constructors, and what is built of them.
use Rattle.std.specs.Prelude.{Bool, ◌||◌, List, []}
use Rattle.grammars.specs.Grammar.{Part, one, row, both, Cst, pair}
use Rattle.kc_tree.specs.declared.decl.ClassParam.{ClassParam}
use Rattle.kt_lexer.specs.declared.token.Token.{Token}
use Rattle.kt_lexer.specs.declared.token.Operator.TheVariants as operator
use Rattle.kt_grammar.specs.DeclarationsBuilt as built
use Rattle.kt_grammar.specs.Rows as rows
use Rattle.kt_grammar.specs.Rows.{Row, maybe, in_brackets}
use Rattle.kt_grammar.specs.Tokens.{is_op, is_constructor}

abbrev pub bracketed : Part Row Token
bracketed = in_brackets (row rows.constructor_parameters)

abbrev pub bracketed_of : Cst Token → List ClassParam
bracketed_of (pair o (pair x c)) = built.constructor_parameters_of x
bracketed_of _ = []

-- the word `constructor` before the brackets
abbrev pub word_part : Part Row Token
word_part = maybe is_constructor (one is_constructor)

-- a constructor that is written
abbrev pub written : Part Row Token
written = both word_part bracketed

abbrev pub written_of : Cst Token → List ClassParam
written_of (pair w x) = bracketed_of x
written_of _ = []

abbrev pub begins : Token → Bool
begins t = is_constructor t || is_op operator.OpenRound t

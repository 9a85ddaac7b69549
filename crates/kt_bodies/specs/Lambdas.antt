-- Parts of lambdas, and what is built of them.
use Rattle.std.specs.Prelude.{Bool, true, false, ◌||◌, List, [], ◌∷◌}
use Rattle.grammars.specs.Grammar.{Part, next, one, row, both, choose, Cst, leaf, pair, left, right}
use Rattle.kc_tree.specs.declared.expr.LocalName.{LocalName}
use Rattle.kt_bodies.specs.declared.lambdas.Inside.{Inside}
use Rattle.kt_bodies.specs.Statements.{to_brace, before_brace}
use Rattle.kt_lexer.specs.declared.token.Token.{Token}
use Rattle.kt_lexer.specs.declared.token.Operator.TheVariants as operator
use Rattle.kt_grammar.specs.Built as built
use Rattle.kt_grammar.specs.Lookahead.{parameters}
use Rattle.kt_grammar.specs.Rows as rows
use Rattle.kt_grammar.specs.Rows.{Row, op, maybe}
use Rattle.kt_grammar.specs.Tokens.{is_op, is_name}
use Rattle.kt_grammar.specs.TypesBuilt.{word_of}

-- what follows the first name of parameters
abbrev pub parameter_end : Token → Bool
parameter_end t = is_op operator.Comma t || (is_op operator.Colon t || is_op operator.Arrow t)

-- `:` and a type that ends before an arrow, or nothing
abbrev pub colon_before_arrow : Part Row Token
colon_before_arrow = maybe (is_op operator.Colon) (both (op operator.Colon) (row rows.type_before_arrow))

abbrev pub one_parameter : Part Row Token
one_parameter = both (one is_name) colon_before_arrow

abbrev pub parameter_of : Cst Token → List LocalName
parameter_of (pair (leaf t) x) = record { name = word_of t; ty = built.written_type x } ∷ []
parameter_of _ = []

-- `->`, and the statements
abbrev pub behind_arrow : Part Row Token
behind_arrow = both (op operator.Arrow) to_brace

abbrev pub behind_parameters : Part Row Token
behind_parameters = both (row rows.parameter) behind_arrow

-- parameters with their arrow, or none, and the statements
abbrev pub in_plain : Part Row Token
in_plain = choose parameters behind_parameters to_brace

-- all of a lambda behind its `{`
abbrev pub in_lambda : Part Row Token
in_lambda = choose (next (is_op operator.Arrow)) behind_arrow in_plain

-- behind the parameters that are read already
abbrev pub arrow_of : List LocalName → Cst Token → Inside
arrow_of ps (pair arrow x) = record { params = ps; arrow = true; body = before_brace x }
arrow_of ps _ = record { params = ps; arrow = true; body = [] }

abbrev pub plain_of : Cst Token → Inside
plain_of (left (pair ps x)) = arrow_of (built.parameters_of ps) x
plain_of (right x) = record { params = []; arrow = false; body = before_brace x }
plain_of _ = record { params = []; arrow = false; body = [] }

abbrev pub inside_of : Cst Token → Inside
inside_of (left x) = arrow_of [] x
inside_of (right x) = plain_of x
inside_of _ = record { params = []; arrow = false; body = [] }

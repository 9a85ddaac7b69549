-- Parts of supertypes, and what is built of them.
use Rattle.std.specs.Prelude.{List, [], ◌++◌}
use Rattle.grammars.specs.Grammar.{Part, row, both, Cst, pair, left}
use Rattle.kc_tree.specs.declared.decl.Super.{Super}
use Rattle.kt_lexer.specs.declared.token.Token.{Token}
use Rattle.kt_lexer.specs.declared.token.Operator.TheVariants as operator
use Rattle.kt_grammar.specs.DeclarationsBuilt as built
use Rattle.kt_grammar.specs.Rows as rows
use Rattle.kt_grammar.specs.Rows.{Row, op, maybe}
use Rattle.kt_grammar.specs.Tokens.{is_op}

-- the supertypes behind the comma of the first one
abbrev pub behind_comma : Part Row Token
behind_comma = maybe (is_op operator.Comma) (both (op operator.Comma) (row rows.supertypes))

abbrev pub behind_comma_of : Cst Token → List Super
behind_comma_of (left (pair comma x)) = built.supertypes_of x
behind_comma_of _ = []

abbrev pub some_supertypes : Part Row Token
some_supertypes = both (row rows.supertype) behind_comma

abbrev pub some_supertypes_of : Cst Token → List Super
some_supertypes_of (pair x y) = built.supertype_of x ++ behind_comma_of y
some_supertypes_of _ = []

-- The package and the imports of a file, and what is built of one.
use Rattle.std.specs.Prelude.{List, [], ◌∷◌}
use Rattle.grammars.specs.Grammar.{Part, next, row, both, many, Cst, node, pair}
use Rattle.kc_tree.specs.declared.decl.Import.{Import}
use Rattle.kt_lexer.specs.declared.token.Token.{Token}
use Rattle.kt_lexer.specs.declared.token.Keyword.TheVariants as keyword
use Rattle.kt_grammar.specs.DeclarationsBuilt as built
use Rattle.kt_grammar.specs.Rows as rows
use Rattle.kt_grammar.specs.Rows.{Row, word, maybe}
use Rattle.kt_grammar.specs.Tokens.{is_word, is_import}
use Rattle.kt_grammar.specs.TypesBuilt.{span_of}

abbrev pub a_package : Part Row Token
a_package = maybe (is_word keyword.Package) (both (word keyword.Package) (row rows.dotted))

abbrev pub imports : Part Row Token
imports = many (next is_import) (row rows.import_)

abbrev pub import_of : Cst Token → List Import
import_of (node (pair w x)) = record { span = span_of (pair w x); path = built.path_of x; star = built.is_star x } ∷ []
import_of _ = []

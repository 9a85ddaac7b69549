-- Parts of type parameters, and what is built of them.
use Rattle.std.specs.Prelude.{List, [], ◌++◌, Option, None}
use Rattle.grammars.specs.Grammar.{Part, one, row, both, Cst, leaf, pair}
use Rattle.kc_tree.specs.declared.types.Word.{Word}
use Rattle.kc_tree.specs.declared.types.«Type».{«Type»}
use Rattle.kc_tree.specs.declared.types.TypeParam.{TypeParam}
use Rattle.kt_functions.specs.declared.type_parameters.TypeParts.{TypeParts}
use Rattle.kt_lexer.specs.declared.token.Token.{Token}
use Rattle.kt_lexer.specs.declared.token.Operator.TheVariants as operator
use Rattle.kt_grammar.specs.Built.{written_type}
use Rattle.kt_grammar.specs.DeclarationsBuilt as built
use Rattle.kt_grammar.specs.Rows as rows
use Rattle.kt_grammar.specs.Rows.{Row, op}
use Rattle.kt_grammar.specs.Tokens.{is_name}
use Rattle.kt_grammar.specs.TypesBuilt.{word_of}

-- a name with its bound
abbrev pub named : Part Row Token
named = both (one is_name) rows.colon_type

abbrev pub named_of : Cst Token → Word × Option «Type»
named_of (pair (leaf t) x) = (word_of t, written_type x)
named_of _ = (built.no_word, None)

abbrev pub parts : Part Row Token
parts = both rows.modifiers named

abbrev pub parts_of : Cst Token → TypeParts
parts_of (pair ms x) = record { mods = built.modifiers_of ms; name = (named_of x).0; bound = (named_of x).1 }
parts_of _ = record { mods = []; name = built.no_word; bound = None }

-- all type parameters behind `<`
abbrev pub to_greater : Part Row Token
to_greater = both (row rows.type_parameter) (both (row rows.more_type_parameters) (op operator.Greater))

abbrev pub before_greater : Cst Token → List TypeParam
before_greater (pair x (pair more greater)) = built.type_parameter_of x ++ built.more_type_parameters_of more
before_greater _ = []

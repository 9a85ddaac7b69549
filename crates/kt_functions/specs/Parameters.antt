-- ParamParts of the parameters of functions, and what is built of them.
use Rattle.std.specs.Prelude.{List, [], Option, None}
use Rattle.grammars.specs.Grammar.{Part, one, row, both, Cst, leaf, pair}
use Rattle.kc_tree.specs.declared.types.«Type».{«Type»}
use Rattle.kc_tree.specs.declared.expr.Expr.{Expr}
use Rattle.kc_tree.specs.declared.decl.Param.{Param}
use Rattle.kt_functions.specs.declared.parameters.TypedName.{TypedName}
use Rattle.kt_functions.specs.declared.parameters.ParamParts.{ParamParts}
use Rattle.kt_lexer.specs.declared.token.Token.{Token}
use Rattle.kt_lexer.specs.declared.token.Operator.TheVariants as operator
use Rattle.kt_grammar.specs.DeclarationsBuilt as built
use Rattle.kt_grammar.specs.Rows as rows
use Rattle.kt_grammar.specs.Rows.{Row, op, in_brackets}
use Rattle.kt_grammar.specs.Tokens.{is_name}
use Rattle.kt_grammar.specs.TypesBuilt.{no_type, type_of, word_of}

-- a type with a default value
abbrev pub typed_value : Part Row Token
typed_value = both (row rows.type_) rows.default

abbrev pub typed_value_of : Cst Token → «Type» × Option Expr
typed_value_of (pair ty x) = (type_of ty, built.value_of x)
typed_value_of _ = (no_type, None)

abbrev pub typed : Part Row Token
typed = both (one is_name) (both (op operator.Colon) typed_value)

abbrev pub typed_of : Cst Token → TypedName
typed_of (pair (leaf t) (pair colon x)) = record { name = word_of t; ty = (typed_value_of x).0; default = (typed_value_of x).1 }
typed_of _ = record { name = built.no_word; ty = no_type; default = None }

abbrev pub parts : Part Row Token
parts = both rows.modifiers typed

abbrev pub parts_of : Cst Token → ParamParts
parts_of (pair ms x) = record { mods = built.modifiers_of ms; typed = typed_of x }
parts_of x = record { mods = []; typed = typed_of x }

abbrev pub bracketed : Part Row Token
bracketed = in_brackets (row rows.function_parameters)

abbrev pub bracketed_of : Cst Token → List Param
bracketed_of (pair o (pair x c)) = built.function_parameters_of x
bracketed_of _ = []

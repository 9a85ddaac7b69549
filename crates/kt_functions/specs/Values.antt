-- Bodies of functions.
use Rattle.std.specs.Prelude.{Bool, ◌||◌, []}
use Rattle.grammars.specs.Grammar.{Cst, pair}
use Rattle.kc_tree.specs.declared.decl.FunBody.{FunBody}
use Rattle.kc_tree.specs.declared.decl.FunBody.TheVariants as fun_body
use Rattle.kt_lexer.specs.declared.token.Token.{Token}
use Rattle.kt_lexer.specs.declared.token.Operator.TheVariants as operator
use Rattle.kt_grammar.specs.Built.{block_statements, expression_of}
use Rattle.kt_grammar.specs.Tokens.{is_op}

abbrev pub begins_body : Token → Bool
begins_body t = is_op operator.OpenBrace t || is_op operator.Assign t

abbrev pub block_body : Cst Token → FunBody
block_body x = fun_body.Block (block_statements x)

-- the expression behind `=`
abbrev pub value_body : Cst Token → FunBody
value_body (pair assign x) = fun_body.Expr (expression_of x)
value_body _ = fun_body.Block []

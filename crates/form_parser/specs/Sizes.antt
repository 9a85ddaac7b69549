-- How many tokens a tree takes at least. Brackets round expressions, the braces of bodies, and `;`, which leave nothing in the tree, are not counted.
use Rattle.std.specs.Prelude.{ℕ, ◌+◌, ◌≤◌, List, map, length, Some, None}
use Rattle.kc_core.specs.Sizes.{total}
use Rattle.form_parser.specs.declared.surface.Expression.{Expression}
use Rattle.form_parser.specs.declared.surface.ExpressionKind.TheFolds.{fold-Expression}
use Rattle.form_parser.specs.declared.surface.ExpressionKind.TheOpen.{ExpressionKind-F, Expression-F}
use Rattle.form_parser.specs.declared.surface.Body.{Body}
use Rattle.form_parser.specs.declared.surface.Statement.{Statement}
use Rattle.form_parser.specs.declared.surface.Statement.TheFolds.{fold-Statement, fold-Body}
use Rattle.form_parser.specs.declared.surface.Statement.TheOpen.{Statement-F, Body-F}
use Rattle.form_parser.specs.declared.surface.Source.{Source}
use Rattle.form_parser.specs.Form.{Form}

-- an operand, or an operator with its operands
abbrev pub kind_size : ExpressionKind-F ℕ ℕ → ℕ
kind_size (ExpressionKind-F.Number n) = 1
kind_size (ExpressionKind-F.Truth b) = 1
kind_size (ExpressionKind-F.Name n) = 1
kind_size (ExpressionKind-F.Negation a) = 1 + a
kind_size (ExpressionKind-F.Not a) = 1 + a
kind_size (ExpressionKind-F.Binary op a b) = 1 + a + b
kind_size (ExpressionKind-F.Compare order a b) = 1 + a + b
kind_size (ExpressionKind-F.Equality equal a b) = 1 + a + b
kind_size (ExpressionKind-F.And a b) = 1 + a + b
kind_size (ExpressionKind-F.Or a b) = 1 + a + b

abbrev pub placed_size : Expression-F ℕ ℕ → ℕ
placed_size e = e.kind

abbrev pub expression_size : Expression → ℕ
expression_size e = fold-Expression ℕ ℕ kind_size placed_size e

-- `val NAME =`, `NAME =`, `println ( )`, `if ( )`, `if ( ) else` and `while ( )`, each with what stands between and behind
abbrev pub statement_layer_size : Statement-F ℕ ℕ → ℕ
statement_layer_size (Statement-F.Declare p is_var name value) = 3 + expression_size value
statement_layer_size (Statement-F.Assign p name value) = 2 + expression_size value
statement_layer_size (Statement-F.Print p value) = 3 + expression_size value
statement_layer_size (Statement-F.If p test held None) = 3 + expression_size test + held
statement_layer_size (Statement-F.If p test held (Some failed)) = 4 + expression_size test + held + failed
statement_layer_size (Statement-F.While p test body) = 3 + expression_size test + body

abbrev pub body_layer_size : Body-F ℕ ℕ → ℕ
body_layer_size b = total b.statements

abbrev pub statement_size : Statement → ℕ
statement_size s = fold-Statement ℕ ℕ statement_layer_size body_layer_size s

abbrev pub body_size : Body → ℕ
body_size b = fold-Body ℕ ℕ statement_layer_size body_layer_size b

abbrev pub statements_size : List Statement → ℕ
statements_size ss = total (map statement_size ss)

-- `fun main ( ) { }`, with the statements
abbrev pub source_size : Source → ℕ
source_size source = 6 + statements_size source.statements

-- a file's tree takes no more tokens than the file has bytes
abbrev pub SizeIsWithinBytes : Type 0
SizeIsWithinBytes = (bytes : List ℕ) (source : Source) → Form bytes source → source_size source ≤ length bytes

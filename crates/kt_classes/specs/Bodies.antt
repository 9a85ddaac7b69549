-- Bodies of classes, and what is built of them.
use Rattle.std.specs.Prelude.{List, []}
use Rattle.grammars.specs.Grammar.{Part, row, both, Cst, pair, left}
use Rattle.kc_tree.specs.declared.decl.Constant.{Constant}
use Rattle.kc_tree.specs.declared.decl.Member.{Member}
use Rattle.kt_classes.specs.declared.nodes.BodyForm.{BodyForm}
use Rattle.kt_classes.specs.declared.nodes.BodyForm.TheVariants as body_form
use Rattle.kt_classes.specs.declared.nodes.BodyParts.{BodyParts}
use Rattle.kt_lexer.specs.declared.token.Token.{Token}
use Rattle.kt_lexer.specs.declared.token.Operator.TheVariants as operator
use Rattle.kt_grammar.specs.DeclarationsBuilt as built
use Rattle.kt_grammar.specs.Rows as rows
use Rattle.kt_grammar.specs.Rows.{Row, op, maybe}
use Rattle.kt_grammar.specs.Tokens.{is_op}

-- the row of a body
abbrev pub body_row : BodyForm → Row
body_row body_form.Enum = rows.enum_body
body_row body_form.Class = rows.class_body rows.in_class
body_row body_form.Interface = rows.class_body rows.in_interface

abbrev pub body_with : List Constant → List Member → BodyParts
body_with cs ms = record { constants = cs; members = ms }

-- a body, where one is written
abbrev pub body_parts : Cst Token → BodyParts
body_parts c = body_with (built.body_constants c) (built.body_members c)

-- a body that is written
abbrev pub body_in : Cst Token → BodyParts
body_in c = body_parts (left c)

-- what may stand behind constants: `;` and members
abbrev pub behind_constants : Part Row Token
behind_constants = maybe (is_op operator.Semicolon) (both (op operator.Semicolon) (row (rows.members rows.in_class)))

abbrev pub behind_constants_of : Cst Token → List Member
behind_constants_of (left (pair semi x)) = built.members_of x
behind_constants_of _ = []

-- the same up to the brace
abbrev pub to_brace : Part Row Token
to_brace = both behind_constants (op operator.CloseBrace)

abbrev pub before_brace : Cst Token → List Member
before_brace (pair x brace) = behind_constants_of x
before_brace _ = []

-- constants, and all behind them
abbrev pub from_constants : Part Row Token
from_constants = both (row rows.constants) to_brace

abbrev pub from_constants_of : Cst Token → BodyParts
from_constants_of (pair x y) = body_with (built.constants_of x) (before_brace y)
from_constants_of x = body_with [] (before_brace x)

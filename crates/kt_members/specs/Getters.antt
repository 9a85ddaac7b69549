-- Parts of getters and of what follows them, and what is built of them.
use Rattle.std.specs.Prelude.{Bool, Option, Some, None}
use Rattle.grammars.specs.Grammar.{Part, next, row, both, choose, Cst, node, pair, left, right}
use Rattle.kc_tree.specs.declared.decl.FunBody.TheVariants as fun_body
use Rattle.kc_tree.specs.declared.decl.Getter.{Getter}
use Rattle.kc_tree.specs.declared.expr.Expr.{Expr}
use Rattle.kc_tree.specs.declared.types.«Type».{«Type»}
use Rattle.kt_lexer.specs.declared.token.Token.{Token}
use Rattle.kt_lexer.specs.declared.token.Operator.TheVariants as operator
use Rattle.kt_members.specs.declared.getters.AccessorPair.{AccessorPair}
use Rattle.kt_grammar.specs.Built.{no_expression, written_type, expression_of, block_statements}
use Rattle.kt_grammar.specs.DeclarationsBuilt as built
use Rattle.kt_grammar.specs.Rows as rows
use Rattle.kt_grammar.specs.Rows.{Row, value}
use Rattle.kt_grammar.specs.Tokens.{is_op}
use Rattle.kt_grammar.specs.TypesBuilt.{between, last_of}

-- the type that the head of a getter names
abbrev pub type_in_head : Cst Token → Option «Type»
type_in_head (node (pair g (pair o (pair c ty)))) = written_type ty
type_in_head _ = None

-- a getter from the token at which it begins and its type
abbrev pub getter_in_braces : Option Token → Option «Type» → Cst Token → Getter
getter_in_braces t ty x = record { span = between t (last_of x); ty = ty; body = fun_body.Block (block_statements x) }

abbrev pub getter_with_value : Option Token → Option «Type» → Cst Token → Getter
getter_with_value t ty (pair assign x) = record { span = between t (last_of x); ty = ty; body = fun_body.Expr (expression_of x) }
getter_with_value t ty x = record { span = between t (last_of x); ty = ty; body = fun_body.Expr no_expression }

abbrev pub braces_and_setter : Bool → Part Row Token
braces_and_setter var = both (row rows.block) (rows.setter_behind_block var)

abbrev pub value_and_setter : Bool → Part Row Token
value_and_setter var = both value (rows.setter_behind_value var)

-- all that stands behind the head of a getter
abbrev pub behind_head : Bool → Part Row Token
behind_head var = choose (next (is_op operator.OpenBrace)) (braces_and_setter var) (value_and_setter var)

abbrev pub behind_head_of : Option Token → Option «Type» → Cst Token → AccessorPair
behind_head_of t ty (left (pair x s)) = record { getter = Some (getter_in_braces t ty x); setter = built.setter_behind_block_of s }
behind_head_of t ty (right (pair x s)) = record { getter = Some (getter_with_value t ty x); setter = built.setter_behind_value_of s }
behind_head_of t ty _ = record { getter = None; setter = None }

-- a getter and perhaps a setter
abbrev pub accessors_of : Cst Token → AccessorPair
accessors_of (node (pair g (left (pair b s)))) = record { getter = built.getter_of g (last_of b) (fun_body.Block (block_statements b)); setter = built.setter_behind_block_of s }
accessors_of (node (pair g (right (pair (pair assign x) s)))) = record { getter = built.getter_of g (last_of x) (fun_body.Expr (expression_of x)); setter = built.setter_behind_value_of s }
accessors_of _ = record { getter = None; setter = None }

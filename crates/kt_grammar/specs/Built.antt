-- The expression or statement of a derivation.
use Rattle.std.specs.Prelude.{ℕ, Bool, true, false, List, [], ◌∷◌, ◌++◌, Option, Some, None}
use Rattle.grammars.specs.Grammar.{Cst, leaf, node, pair, left, right}
use Rattle.kc_tree.specs.declared.fault.Span.{Span}
use Rattle.kc_tree.specs.declared.types.Word.{Word}
use Rattle.kc_tree.specs.declared.types.«Type».{«Type»}
use Rattle.kc_tree.specs.declared.expr.Expr.{Expr}
use Rattle.kc_tree.specs.declared.expr.ExprKind.{ExprKind, Lambda', Block'}
use Rattle.kc_tree.specs.declared.expr.ExprKind.TheVariants as e
use Rattle.kc_tree.specs.declared.expr.PrefixOp.{PrefixOp}
use Rattle.kc_tree.specs.declared.expr.PrefixOp.TheVariants as prefix_op
use Rattle.kc_tree.specs.declared.expr.PostfixOp.{PostfixOp}
use Rattle.kc_tree.specs.declared.expr.PostfixOp.TheVariants as postfix_op
use Rattle.kc_tree.specs.declared.expr.BinaryOp.{BinaryOp}
use Rattle.kc_tree.specs.declared.expr.BinaryOp.TheVariants as binary_op
use Rattle.kc_tree.specs.declared.expr.AssignOp.{AssignOp}
use Rattle.kc_tree.specs.declared.expr.AssignOp.TheVariants as assign_op
use Rattle.kc_tree.specs.declared.expr.LocalName.{LocalName}
use Rattle.kc_tree.specs.declared.expr.Piece.{Piece}
use Rattle.kc_tree.specs.declared.expr.Piece.TheVariants as piece
use Rattle.kc_tree.specs.declared.expr.Arg.{Arg}
use Rattle.kc_tree.specs.declared.expr.Cond.{Cond}
use Rattle.kc_tree.specs.declared.expr.Cond.TheVariants as cond
use Rattle.kc_tree.specs.declared.expr.Branch.{Branch}
use Rattle.kc_tree.specs.declared.expr.CatchPart.{CatchPart}
use Rattle.kt_lexer.specs.declared.token.Token.{Token}
use Rattle.kt_lexer.specs.declared.token.TokenKind.{TokenKind}
use Rattle.kt_lexer.specs.declared.token.TokenKind.TheVariants as kind
use Rattle.kt_lexer.specs.declared.token.Keyword.TheVariants as keyword
use Rattle.kt_lexer.specs.declared.token.Operator.TheVariants as operator
use Rattle.kt_grammar.specs.Tokens.{class_of, is_one_of}
use Rattle.kt_grammar.specs.TypesBuilt.{first_of, last_of, between, no_span, span_of, word_of, number_of, type_of, type_arguments_of}

-- ---- operators

abbrev pub prefix_of_token : TokenKind → PrefixOp
prefix_of_token (kind.Op operator.Plus) = prefix_op.Plus
prefix_of_token (kind.Op operator.Not) = prefix_op.Not
prefix_of_token (kind.Op operator.Increment) = prefix_op.Inc
prefix_of_token (kind.Op operator.Decrement) = prefix_op.Dec
prefix_of_token _ = prefix_op.Minus

abbrev pub postfix_of_token : TokenKind → PostfixOp
postfix_of_token (kind.Op operator.Increment) = postfix_op.Inc
postfix_of_token (kind.Op operator.Decrement) = postfix_op.Dec
postfix_of_token _ = postfix_op.NotNull

abbrev pub binary_of_token : TokenKind → BinaryOp
binary_of_token (kind.Op operator.Or) = binary_op.Or
binary_of_token (kind.Op operator.And) = binary_op.And
binary_of_token (kind.Op operator.EqualEqual) = binary_op.Equal
binary_of_token (kind.Op operator.NotEqual) = binary_op.NotEqual
binary_of_token (kind.Op operator.Identical) = binary_op.Same
binary_of_token (kind.Op operator.NotIdentical) = binary_op.NotSame
binary_of_token (kind.Op operator.Less) = binary_op.Less
binary_of_token (kind.Op operator.Greater) = binary_op.Greater
binary_of_token (kind.Op operator.LessEqual) = binary_op.LessEqual
binary_of_token (kind.Op operator.GreaterEqual) = binary_op.GreaterEqual
binary_of_token (kind.Op operator.Elvis) = binary_op.Elvis
binary_of_token (kind.Op operator.Range) = binary_op.RangeTo
binary_of_token (kind.Op operator.RangeUntil) = binary_op.RangeUntil
binary_of_token (kind.Op operator.Minus) = binary_op.Minus
binary_of_token (kind.Op operator.Times) = binary_op.Times
binary_of_token (kind.Op operator.Divide) = binary_op.Div
binary_of_token (kind.Op operator.Remainder) = binary_op.Rem
binary_of_token _ = binary_op.Plus

abbrev pub assign_of_token : TokenKind → AssignOp
assign_of_token (kind.Op operator.PlusAssign) = assign_op.Plus
assign_of_token (kind.Op operator.MinusAssign) = assign_op.Minus
assign_of_token (kind.Op operator.TimesAssign) = assign_op.Times
assign_of_token (kind.Op operator.DivideAssign) = assign_op.Div
assign_of_token (kind.Op operator.RemainderAssign) = assign_op.Rem
assign_of_token _ = assign_op.Set

-- `!in`, `!is`
abbrev pub is_negated : TokenKind → Bool
is_negated k = is_one_of (55 ∷ 58 ∷ []) (class_of k)

-- `as?`, `?.`
abbrev pub is_safe : TokenKind → Bool
is_safe k = is_one_of (44 ∷ 17 ∷ []) (class_of k)

abbrev pub is_val : TokenKind → Bool
is_val (kind.Word keyword.Val) = true
is_val _ = false

abbrev pub is_var : TokenKind → Bool
is_var (kind.Word keyword.Var) = true
is_var _ = false

-- ---- nodes

abbrev pub across : Span → Span → Span
across s t = record { file = s.file; start = s.start; end = t.end }

-- what no derivation has
abbrev pub no_expression : Expr
no_expression = record { span = no_span; kind = e.Null }

abbrev pub atom_of_token : TokenKind → ExprKind
atom_of_token (kind.Number value long) = e.Number value long
atom_of_token (kind.CharLiteral u) = e.Char u
atom_of_token (kind.Word keyword.True) = e.Truth true
atom_of_token (kind.Word keyword.False) = e.Truth false
atom_of_token (kind.Word keyword.This) = e.This
atom_of_token _ = e.Null

abbrev pub text_of : TokenKind → List ℕ
text_of (kind.StringText text) = text
text_of _ = []

abbrev pub prefixed : Token → Expr → Expr
prefixed t x = record { span = across t.span x.span; kind = e.Prefix (prefix_of_token t.kind) x }

abbrev pub binary : Expr → Token → Expr → Expr
binary x t y = record { span = across x.span y.span; kind = e.Binary (binary_of_token t.kind) t.span x y }

abbrev pub infix_call : Expr → Token → Expr → Expr
infix_call x t y = record { span = across x.span y.span; kind = e.Infix x (word_of t) y }

abbrev pub contained : Expr → Token → Expr → Expr
contained x t y = record { span = across x.span y.span; kind = e.In (is_negated t.kind) t.span x y }

-- the type stands at the last place
abbrev pub typed : Expr → Token → «Type» → Span → Expr
typed x t ty s = record { span = across x.span s; kind = e.Is (is_negated t.kind) x ty }

abbrev pub cast : Expr → Token → «Type» → Span → Expr
cast x t ty s = record { span = across x.span s; kind = e.As (is_safe t.kind) x ty }

-- a lambda without parameters and arrow that stands as a body is a block
abbrev pub body_kind : ExprKind → ExprKind
body_kind (Lambda' None [] false n body) = Block' n body
body_kind k = k

abbrev pub as_body : Expr → Expr
as_body x = record { span = x.span; kind = body_kind x.kind }

-- a label or a name's place, where one is written
abbrev pub label_of : Cst Token → Option Word
label_of (left (leaf t)) = Some (word_of t)
label_of _ = None

abbrev pub written_type : Cst Token → Option «Type»
written_type (left (pair colon x)) = Some (type_of x)
written_type _ = None

abbrev pub is_taken : Cst Token → Bool
is_taken (left x) = true
is_taken _ = false

abbrev pub argument_name_of : Cst Token → Option Word
argument_name_of (left (pair (leaf t) assign)) = Some (word_of t)
argument_name_of _ = None

abbrev pub typed_name_of : Cst Token → List LocalName
typed_name_of (node (pair (leaf t) x)) = record { name = word_of t; ty = written_type x } ∷ []
typed_name_of _ = []

abbrev pub names_of : Cst Token → List LocalName
names_of (node (left (pair x (left (pair comma more))))) = typed_name_of x ++ names_of more
names_of (node (left (pair x y))) = typed_name_of x
names_of _ = []

abbrev pub names_behind : Cst Token → List LocalName
names_behind (left (pair comma more)) = names_of more
names_behind _ = []

abbrev pub parameters_of : Cst Token → List LocalName
parameters_of (node (pair (pair (leaf t) x) (left (pair comma (left more))))) = record { name = word_of t; ty = written_type x } ∷ parameters_of more
parameters_of (node (pair (pair (leaf t) x) y)) = record { name = word_of t; ty = written_type x } ∷ []
parameters_of _ = []

abbrev pub bare_names_of : Cst Token → List LocalName
bare_names_of (node (left (pair comma (left (pair (leaf t) more))))) = record { name = word_of t; ty = None } ∷ bare_names_of more
bare_names_of _ = []

abbrev pub only : List LocalName → Option LocalName
only [] = None
only (x ∷ xs) = Some x

abbrev pub bound_of : Cst Token → Option LocalName
bound_of (left (pair val (pair x assign))) = only (typed_name_of x)
bound_of _ = None

abbrev pub super_type : Cst Token → Option «Type»
super_type (left (pair less (pair x greater))) = Some (type_of x)
super_type _ = None

abbrev pub jump_kind : TokenKind → Option Word → ExprKind
jump_kind (kind.Word keyword.Continue) label = e.Continue label
jump_kind _ label = e.Break label

abbrev mutual
  pub expression_of : Cst Token → Expr
  expression_of (node (pair x more)) = or_turns_of (conjunction_of x) more
  expression_of _ = no_expression

  pub or_turns_of : Expr → Cst Token → Expr
  or_turns_of x (pair y more) = or_turns_of (or_turn_of x y) more
  or_turns_of x _ = x

  pub or_turn_of : Expr → Cst Token → Expr
  or_turn_of x (pair (leaf t) y) = binary x t (conjunction_of y)
  or_turn_of x _ = x

  pub conjunction_of : Cst Token → Expr
  conjunction_of (node (pair x more)) = and_turns_of (equality_of x) more
  conjunction_of _ = no_expression

  pub and_turns_of : Expr → Cst Token → Expr
  and_turns_of x (pair y more) = and_turns_of (and_turn_of x y) more
  and_turns_of x _ = x

  pub and_turn_of : Expr → Cst Token → Expr
  and_turn_of x (pair (leaf t) y) = binary x t (equality_of y)
  and_turn_of x _ = x

  pub equality_of : Cst Token → Expr
  equality_of (node (pair x more)) = equality_turns_of (comparison_of x) more
  equality_of _ = no_expression

  pub equality_turns_of : Expr → Cst Token → Expr
  equality_turns_of x (pair y more) = equality_turns_of (equality_turn_of x y) more
  equality_turns_of x _ = x

  pub equality_turn_of : Expr → Cst Token → Expr
  equality_turn_of x (pair (leaf t) y) = binary x t (comparison_of y)
  equality_turn_of x _ = x

  pub comparison_of : Cst Token → Expr
  comparison_of (node (pair x turn)) = comparison_turn_of (named_of x) turn
  comparison_of _ = no_expression

  pub comparison_turn_of : Expr → Cst Token → Expr
  comparison_turn_of x (left (pair (leaf t) y)) = binary x t (named_of y)
  comparison_turn_of x _ = x

  pub named_of : Cst Token → Expr
  named_of (node (pair x more)) = named_turns_of (elvis_of x) more
  named_of _ = no_expression

  pub named_turns_of : Expr → Cst Token → Expr
  named_turns_of x (pair y more) = named_turns_of (named_turn_of x y) more
  named_turns_of x _ = x

  pub named_turn_of : Expr → Cst Token → Expr
  named_turn_of x (left (pair (leaf t) y)) = contained x t (elvis_of y)
  named_turn_of x (right (pair (leaf t) y)) = typed x t (type_of y) (span_of y)
  named_turn_of x _ = x

  pub elvis_of : Cst Token → Expr
  elvis_of (node (pair x more)) = elvis_turns_of (infix_of x) more
  elvis_of _ = no_expression

  pub elvis_turns_of : Expr → Cst Token → Expr
  elvis_turns_of x (pair y more) = elvis_turns_of (elvis_turn_of x y) more
  elvis_turns_of x _ = x

  pub elvis_turn_of : Expr → Cst Token → Expr
  elvis_turn_of x (pair (leaf t) y) = binary x t (infix_of y)
  elvis_turn_of x _ = x

  pub infix_of : Cst Token → Expr
  infix_of (node (pair x more)) = infix_turns_of (range_of x) more
  infix_of _ = no_expression

  pub infix_turns_of : Expr → Cst Token → Expr
  infix_turns_of x (pair y more) = infix_turns_of (infix_turn_of x y) more
  infix_turns_of x _ = x

  pub infix_turn_of : Expr → Cst Token → Expr
  infix_turn_of x (pair (leaf t) (node y)) = infix_call x t (range_of y)
  infix_turn_of x _ = x

  pub range_of : Cst Token → Expr
  range_of (node (pair x more)) = range_turns_of (sum_of x) more
  range_of _ = no_expression

  pub range_turns_of : Expr → Cst Token → Expr
  range_turns_of x (pair y more) = range_turns_of (range_turn_of x y) more
  range_turns_of x _ = x

  pub range_turn_of : Expr → Cst Token → Expr
  range_turn_of x (pair (leaf t) y) = binary x t (sum_of y)
  range_turn_of x _ = x

  pub sum_of : Cst Token → Expr
  sum_of (node (pair x more)) = sum_turns_of (product_of x) more
  sum_of _ = no_expression

  pub sum_turns_of : Expr → Cst Token → Expr
  sum_turns_of x (pair y more) = sum_turns_of (sum_turn_of x y) more
  sum_turns_of x _ = x

  pub sum_turn_of : Expr → Cst Token → Expr
  sum_turn_of x (pair (leaf t) y) = binary x t (product_of y)
  sum_turn_of x _ = x

  pub product_of : Cst Token → Expr
  product_of (node (pair x more)) = product_turns_of (cast_of x) more
  product_of _ = no_expression

  pub product_turns_of : Expr → Cst Token → Expr
  product_turns_of x (pair y more) = product_turns_of (product_turn_of x y) more
  product_turns_of x _ = x

  pub product_turn_of : Expr → Cst Token → Expr
  product_turn_of x (pair (leaf t) y) = binary x t (cast_of y)
  product_turn_of x _ = x

  pub cast_of : Cst Token → Expr
  cast_of (node (pair x more)) = cast_turns_of (prefix_of x) more
  cast_of _ = no_expression

  pub cast_turns_of : Expr → Cst Token → Expr
  cast_turns_of x (pair y more) = cast_turns_of (cast_turn_of x y) more
  cast_turns_of x _ = x

  pub cast_turn_of : Expr → Cst Token → Expr
  cast_turn_of x (pair (leaf t) y) = cast x t (type_of y) (span_of y)
  cast_turn_of x _ = x

  pub prefix_of : Cst Token → Expr
  prefix_of (node (left (pair (leaf t) x))) = prefixed t (prefix_of x)
  prefix_of (node (right x)) = postfix_of x
  prefix_of _ = no_expression

  pub postfix_of : Cst Token → Expr
  postfix_of (node (pair x more)) = suffixes_of (primary_of x) more
  postfix_of _ = no_expression

  pub suffixes_of : Expr → Cst Token → Expr
  suffixes_of x (pair y more) = suffixes_of (suffix_of x y) more
  suffixes_of x _ = x

  pub suffix_of : Expr → Cst Token → Expr
  suffix_of x (node (left (leaf t))) = record { span = across x.span t.span; kind = e.Postfix (postfix_of_token t.kind) x }
  suffix_of x (node (right (left (pair (leaf d) (leaf n))))) = record { span = across x.span n.span; kind = e.Member x (is_safe d.kind) (word_of n) }
  suffix_of x (node (right (right (left (pair (leaf o) (pair y (pair more (leaf c)))))))) = record { span = across x.span c.span; kind = e.Index x o.span (expression_of y ∷ expressions_behind more) }
  suffix_of x (node (right (right (right (left (node (pair ts y))))))) = record { span = across x.span (span_of y); kind = e.Call x (between (first_of y) (first_of y)) (type_arguments_of ts) (call_of y) }
  suffix_of x (node (right (right (right (right y))))) = record { span = across x.span (span_of y); kind = e.Call x (between (first_of y) (first_of y)) [] (call_of y) }
  suffix_of x _ = x

  pub expressions_behind : Cst Token → List Expr
  expressions_behind (left (pair comma more)) = expressions_of more
  expressions_behind _ = []

  pub expressions_of : Cst Token → List Expr
  expressions_of (node (left (pair x (left (pair comma more))))) = expression_of x ∷ expressions_of more
  expressions_of (node (left (pair x y))) = expression_of x ∷ []
  expressions_of _ = []

  pub call_of : Cst Token → List Arg
  call_of (node (left (pair (pair o (pair x c)) (left (node y))))) = arguments_of x ++ trailing_of y
  call_of (node (left (pair (pair o (pair x c)) y))) = arguments_of x
  call_of (node (right (node y))) = trailing_of y
  call_of _ = []

  pub trailing_of : Cst Token → List Arg
  trailing_of (node (pair l x)) = record { span = between (first_of (pair l x)) (last_of x); name = None; spread = false; trailing = true; value = lambda_of (label_of l) x } ∷ []
  trailing_of _ = []

  pub arguments_of : Cst Token → List Arg
  arguments_of (node (left (pair x (left (pair comma more))))) = argument_of x ++ arguments_of more
  arguments_of (node (left (pair x y))) = argument_of x
  arguments_of _ = []

  pub argument_of : Cst Token → List Arg
  argument_of (node (pair n (pair s x))) = record { span = between (first_of (pair n (pair s x))) (last_of x); name = argument_name_of n; spread = is_taken s; trailing = false; value = expression_of x } ∷ []
  argument_of _ = []

  pub primary_of : Cst Token → Expr
  primary_of (node (left (leaf t))) = record { span = t.span; kind = atom_of_token t.kind }
  primary_of (node (right (left (leaf t)))) = record { span = t.span; kind = e.Name (number_of t.kind) }
  primary_of (node (right (right (left x)))) = string_of x
  primary_of (node (right (right (right (left (pair (leaf o) (pair x (leaf c)))))))) = record { span = across o.span c.span; kind = e.Paren (expression_of x) }
  primary_of (node (right (right (right (right (left x)))))) = super_of x
  primary_of (node (right (right (right (right (right (left x))))))) = conditional_of x
  primary_of (node (right (right (right (right (right (right (left x)))))))) = when_of x
  primary_of (node (right (right (right (right (right (right (right (left x))))))))) = try_of x
  primary_of (node (right (right (right (right (right (right (right (right (left x)))))))))) = jump_of x
  primary_of (node (right (right (right (right (right (right (right (right (right x)))))))))) = lambda_of None x
  primary_of _ = no_expression

  pub string_of : Cst Token → Expr
  string_of (node (pair (leaf o) (pair x (leaf c)))) = record { span = across o.span c.span; kind = e.Text (pieces_of x) }
  string_of _ = no_expression

  pub pieces_of : Cst Token → List Piece
  pieces_of (pair (left (leaf t)) more) = piece.Text (text_of t.kind) ∷ pieces_of more
  pieces_of (pair (right (left (leaf t))) more) = piece.Name (word_of t) ∷ pieces_of more
  pieces_of (pair (right (right (pair o (pair x c)))) more) = piece.Hole (expression_of x) ∷ pieces_of more
  pieces_of _ = []

  pub super_of : Cst Token → Expr
  super_of (node (pair (leaf s) (pair x (pair dot (leaf n))))) = record { span = across s.span n.span; kind = e.Super (super_type x) (word_of n) }
  super_of _ = no_expression

  pub conditional_of : Cst Token → Expr
  conditional_of (node (pair (leaf w) (pair (pair o (pair x c)) (pair y (left (pair semi (pair word z))))))) =
      record { span = across w.span (as_body (statement_of z)).span; kind = e.If (expression_of x) (as_body (statement_of y)) (Some (as_body (statement_of z))) }
  conditional_of (node (pair (leaf w) (pair (pair o (pair x c)) (pair y z)))) = record { span = across w.span (as_body (statement_of y)).span; kind = e.If (expression_of x) (as_body (statement_of y)) None }
  conditional_of _ = no_expression

  pub when_of : Cst Token → Expr
  when_of (node (pair (leaf w) (pair (left (pair p (pair (pair b x) q))) (pair o (pair y (leaf c)))))) = record { span = across w.span c.span; kind = e.When (bound_of b) (Some (expression_of x)) (branches_of y) }
  when_of (node (pair (leaf w) (pair x (pair o (pair y (leaf c)))))) = record { span = across w.span c.span; kind = e.When None None (branches_of y) }
  when_of _ = no_expression

  pub branches_of : Cst Token → List Branch
  branches_of (node (left (pair x more))) = branch_of x ++ branches_behind more
  branches_of _ = []

  pub more_branches_of : Cst Token → List Branch
  more_branches_of (node (left (left (pair semi more)))) = more_branches_of more
  more_branches_of (node (left (right (pair x more)))) = branch_of x ++ branches_behind more
  more_branches_of _ = []

  pub branches_behind : Cst Token → List Branch
  branches_behind (node (left (left (pair semi more)))) = more_branches_of more
  branches_behind (node (left (right (node (pair x more))))) = branch_of x ++ branches_behind more
  branches_behind _ = []

  pub branch_of : Cst Token → List Branch
  branch_of (node (pair (left x) (pair arrow y))) = record { span = between (first_of x) (last_of y); conds = []; body = as_body (statement_of y) } ∷ []
  branch_of (node (pair (right (pair x more)) (pair arrow y))) = record { span = between (first_of x) (last_of y); conds = condition_of x ++ conditions_of more; body = as_body (statement_of y) } ∷ []
  branch_of _ = []

  pub conditions_of : Cst Token → List Cond
  conditions_of (node (left (pair comma (left (pair x more))))) = condition_of x ++ conditions_of more
  conditions_of _ = []

  pub condition_of : Cst Token → List Cond
  condition_of (node (left (pair (leaf t) x))) = cond.In (across t.span (expression_of x).span) (is_negated t.kind) (expression_of x) ∷ []
  condition_of (node (right (left (pair (leaf t) x)))) = cond.Is (across t.span (span_of x)) (is_negated t.kind) (type_of x) ∷ []
  condition_of (node (right (right x))) = cond.Value (expression_of x) ∷ []
  condition_of _ = []

  pub try_of : Cst Token → Expr
  try_of (node (pair (leaf w) (pair x (left (pair y (pair more (left (pair f z)))))))) = record { span = across w.span (span_of z); kind = e.Try (block_statements x) (catch_of y ++ catches_of more) (Some (block_of z)) }
  try_of (node (pair (leaf w) (pair x (left (pair y (pair more z)))))) = record { span = between (Some w) (last_of (pair y more)); kind = e.Try (block_statements x) (catch_of y ++ catches_of more) None }
  try_of (node (pair (leaf w) (pair x (right (pair f z))))) = record { span = across w.span (span_of z); kind = e.Try (block_statements x) [] (Some (block_of z)) }
  try_of _ = no_expression

  pub catches_of : Cst Token → List CatchPart
  catches_of (pair x more) = catch_of x ++ catches_of more
  catches_of _ = []

  pub catch_of : Cst Token → List CatchPart
  catch_of (node (pair (leaf w) (pair (pair o (pair (pair (leaf n) (pair colon x)) c)) y))) = record { span = across w.span (span_of y); name = word_of n; ty = type_of x; body = block_of y } ∷ []
  catch_of _ = []

  pub block_of : Cst Token → Expr
  block_of (node (pair (leaf o) (pair x (leaf c)))) = record { span = across o.span c.span; kind = e.Block (statements_of x) }
  block_of _ = no_expression

  pub block_statements : Cst Token → List Expr
  block_statements (node (pair o (pair x c))) = statements_of x
  block_statements _ = []

  pub lambda_of : Option Word → Cst Token → Expr
  lambda_of l (node (pair (leaf o) (left (pair arrow (pair x (leaf c)))))) = record { span = across o.span c.span; kind = e.Lambda l [] true (statements_of x) }
  lambda_of l (node (pair (leaf o) (right (left (pair ps (pair arrow (pair x (leaf c)))))))) = record { span = across o.span c.span; kind = e.Lambda l (parameters_of ps) true (statements_of x) }
  lambda_of l (node (pair (leaf o) (right (right (pair x (leaf c)))))) = record { span = across o.span c.span; kind = e.Lambda l [] false (statements_of x) }
  lambda_of l _ = no_expression

  pub jump_of : Cst Token → Expr
  jump_of (node (left (pair (leaf w) (pair l (left (node x)))))) = record { span = across w.span (expression_of x).span; kind = e.Return (label_of l) (Some (expression_of x)) }
  jump_of (node (left (pair w (pair l x)))) = record { span = between (first_of w) (last_of (pair w l)); kind = e.Return (label_of l) None }
  jump_of (node (right (left (pair (leaf w) x)))) = record { span = across w.span (expression_of x).span; kind = e.Throw (expression_of x) }
  jump_of (node (right (right (pair (leaf w) l)))) = record { span = between (Some w) (last_of (pair (leaf w) l)); kind = jump_kind w.kind (label_of l) }
  jump_of _ = no_expression

  pub statements_of : Cst Token → List Expr
  statements_of (node (left (pair x more))) = statement_of x ∷ statements_behind more
  statements_of _ = []

  pub more_statements_of : Cst Token → List Expr
  more_statements_of (node (left (left (pair semi more)))) = more_statements_of more
  more_statements_of (node (left (right (pair x more)))) = statement_of x ∷ statements_behind more
  more_statements_of _ = []

  pub statements_behind : Cst Token → List Expr
  statements_behind (node (left (left (pair semi more)))) = more_statements_of more
  statements_behind (node (left (right (node (pair x more))))) = statement_of x ∷ statements_behind more
  statements_behind _ = []

  pub statement_of : Cst Token → Expr
  statement_of (node (left x)) = local_of x
  statement_of (node (right (left x))) = loop_of x
  statement_of (node (right (right (left (node x))))) = expression_of x
  statement_of (node (right (right (right (pair x (left (pair (leaf t) y))))))) =
      record { span = across (postfix_of x).span (expression_of y).span; kind = e.Assign (assign_of_token t.kind) t.span (postfix_of x) (expression_of y) }
  statement_of (node (right (right (right (pair x (right y)))))) = operator_turns_of (postfix_of x) y
  statement_of _ = no_expression

  pub operator_turns_of : Expr → Cst Token → Expr
  operator_turns_of x (pair a (pair b (pair c (pair d (pair f (pair g (pair h (pair i (pair j (pair k l)))))))))) =
      or_turns_of (and_turns_of (equality_turns_of (comparison_turn_of (named_turns_of (elvis_turns_of (infix_turns_of (range_turns_of (sum_turns_of (product_turns_of (cast_turns_of x a) b) c) d) f) g) h) i) j) k) l
  operator_turns_of x _ = x

  pub local_of : Cst Token → Expr
  local_of (node (pair (leaf w) (left (pair (pair o (pair (pair n more) c)) (pair assign x))))) =
      record { span = across w.span (expression_of x).span; kind = e.Local (is_var w.kind) (typed_name_of n ++ names_behind more) true (Some (expression_of x)) }
  local_of (node (pair (leaf w) (right (pair (leaf n) (left (pair colon (pair y (left (pair assign x))))))))) =
      record { span = across w.span (expression_of x).span; kind = e.Local (is_var w.kind) (record { name = word_of n; ty = Some (type_of y) } ∷ []) false (Some (expression_of x)) }
  local_of (node (pair (leaf w) (right (pair (leaf n) (left (pair colon (pair y z))))))) =
      record { span = across w.span (span_of y); kind = e.Local (is_var w.kind) (record { name = word_of n; ty = Some (type_of y) } ∷ []) false None }
  local_of (node (pair (leaf w) (right (pair (leaf n) (right (pair assign x)))))) =
      record { span = across w.span (expression_of x).span; kind = e.Local (is_var w.kind) (record { name = word_of n; ty = None } ∷ []) false (Some (expression_of x)) }
  local_of _ = no_expression

  pub loop_of : Cst Token → Expr
  loop_of (node (pair l (left (pair w (pair (pair o (pair (pair (left (pair p (pair (pair (leaf n) ns) q))) (pair (leaf i) x)) c)) y))))) =
      record { span = between (first_of (pair l w)) (last_of y); kind = e.For (label_of l) (record { name = word_of n; ty = None } ∷ bare_names_of ns) true i.span (expression_of x) (as_body (statement_of y)) }
  loop_of (node (pair l (left (pair w (pair (pair o (pair (pair (right n) (pair (leaf i) x)) c)) y))))) =
      record { span = between (first_of (pair l w)) (last_of y); kind = e.For (label_of l) (typed_name_of n) false i.span (expression_of x) (as_body (statement_of y)) }
  loop_of (node (pair l (right (left (pair w (pair (pair o (pair x c)) y)))))) = record { span = between (first_of (pair l w)) (last_of y); kind = e.While (label_of l) (expression_of x) (as_body (statement_of y)) }
  loop_of (node (pair l (right (right (pair w (pair y (pair u (pair o (pair x c))))))))) = record { span = between (first_of (pair l w)) (last_of c); kind = e.DoWhile (label_of l) (as_body (statement_of y)) (expression_of x) }
  loop_of _ = no_expression

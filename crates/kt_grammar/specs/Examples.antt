-- What the grammar reads of small lists of tokens, and how many tokens it leaves.
use Rattle.std.specs.Prelude.{◌≡◌, ℕ, suc, true, false, List, [], ◌∷◌, ◌++◌, length, Option, Some, None}
use Rattle.grammars.specs.Grammar.{Cst, row}
use Rattle.grammars.specs.Runs.{read}
use Rattle.kt_lexer.specs.declared.token.Token.{Token}
use Rattle.kt_lexer.specs.declared.token.TokenKind.{TokenKind}
use Rattle.kt_lexer.specs.declared.token.TokenKind.TheVariants as kind
use Rattle.kt_lexer.specs.declared.token.Keyword.{Keyword}
use Rattle.kt_lexer.specs.declared.token.Keyword.TheVariants as keyword
use Rattle.kt_lexer.specs.declared.token.Operator.{Operator}
use Rattle.kt_lexer.specs.declared.token.Operator.TheVariants as operator
use Rattle.kc_tree.specs.declared.fault.Span.{Span}
use Rattle.kc_tree.specs.declared.expr.Expr.{Expr}
use Rattle.kc_tree.specs.declared.expr.Arg.{Arg}
use Rattle.kc_tree.specs.declared.expr.ExprKind.{ExprKind}
use Rattle.kc_tree.specs.declared.expr.ExprKind.TheVariants as e
use Rattle.kc_tree.specs.declared.expr.BinaryOp.TheVariants as binary_op
use Rattle.kc_tree.specs.declared.expr.PrefixOp.TheVariants as prefix_op
use Rattle.kc_tree.specs.declared.expr.AssignOp.TheVariants as assign_op
use Rattle.kc_tree.specs.declared.types.TypeKind.TheVariants as type_kind
use Rattle.kc_tree.specs.declared.types.TypeArgKind.TheVariants as argument_kind
use Rattle.kt_grammar.specs.TypesBuilt.{no_span}
use Rattle.kt_grammar.specs.Built.{expression_of, statement_of}
use Rattle.kt_grammar.specs.Rows.{Row, grammar, expression, statement, statements, type_}

abbrev pub token : TokenKind → Token
token k = record { kind = k; span = record { file = 0; start = 0; end = 0 }; marked = false }

-- on a line of its own
abbrev pub line : Token → Token
line t = record t { marked = true }

abbrev pub o : Operator → Token
o k = token (kind.Op k)

abbrev pub w : Keyword → Token
w k = token (kind.Word k)

abbrev pub a : Token
a = token (kind.Name 30)

abbrev pub b : Token
b = token (kind.Name 31)

abbrev pub c : Token
c = token (kind.Name 32)

abbrev pub d : Token
d = token (kind.Name 33)

abbrev label_d : Token
label_d = token (kind.Label 33)

abbrev catch_word : Token
catch_word = token (kind.Name 0)

abbrev finally_word : Token
finally_word = token (kind.Name 1)

abbrev one : Token
one = token (kind.Number 1 false)

abbrev pub in_round : List Token → List Token
in_round ts = o operator.OpenRound ∷ (ts ++ (o operator.CloseRound ∷ []))

abbrev pub in_braces : List Token → List Token
in_braces ts = o operator.OpenBrace ∷ (ts ++ (o operator.CloseBrace ∷ []))

abbrev left_in : Option (Cst Token × List Token) → Option ℕ
left_in None = None
left_in (Some k) = Some (length k.1)

-- the number of tokens that the row leaves
abbrev pub left : Row → List Token → Option ℕ
left n ts = left_in (read grammar 2000 (row n) ts)

-- operators and lines
abbrev pub OperatorsRead : Type 0
OperatorsRead =
    (left expression (a ∷ o operator.Plus ∷ b ∷ o operator.Times ∷ c ∷ []) ≡ Some 0)
    × (left expression (a ∷ line (o operator.Plus) ∷ b ∷ []) ≡ Some 2)
    × (left expression (a ∷ line (o operator.And) ∷ b ∷ []) ≡ Some 0)
    × (left expression (a ∷ o operator.Plus ∷ []) ≡ None)
    × (left expression (a ∷ b ∷ c ∷ []) ≡ Some 0)
    × (left expression (a ∷ b ∷ []) ≡ None)
    × (left expression (a ∷ line b ∷ []) ≡ Some 1)
    × (left expression (a ∷ o operator.Less ∷ b ∷ o operator.Less ∷ c ∷ []) ≡ Some 2)

-- calls
abbrev pub CallsRead : Type 0
CallsRead =
    (left expression (a ∷ in_round (b ∷ o operator.Comma ∷ c ∷ o operator.Comma ∷ [])) ≡ Some 0)
    × (left expression (a ∷ line (o operator.OpenRound) ∷ b ∷ o operator.CloseRound ∷ []) ≡ Some 3)
    × (left expression (a ∷ in_round (b ∷ o operator.Assign ∷ c ∷ [])) ≡ Some 0)
    × (left expression (a ∷ (in_round [] ++ in_braces (b ∷ o operator.Arrow ∷ c ∷ []))) ≡ Some 0)

-- type arguments, comparisons and casts
abbrev pub TypeArgumentsRead : Type 0
TypeArgumentsRead =
    (left expression (a ∷ o operator.Less ∷ b ∷ o operator.Greater ∷ in_round (c ∷ [])) ≡ Some 0)
    × (left expression (a ∷ o operator.Less ∷ b ∷ o operator.Greater ∷ c ∷ []) ≡ Some 2)
    × (left expression (a ∷ w keyword.As ∷ b ∷ o operator.Less ∷ c ∷ []) ≡ Some 0)
    × (left expression (a ∷ w keyword.As ∷ b ∷ o operator.Less ∷ c ∷ o operator.Greater ∷ []) ≡ Some 0)
    × (left type_ (in_round (a ∷ o operator.Comma ∷ b ∷ []) ++ (o operator.Arrow ∷ c ∷ o operator.Question ∷ [])) ≡ Some 0)
    × (left type_ (in_round []) ≡ None)

-- `if` with and without `else`, also in branches of a `when`
abbrev pub ElsesRead : Type 0
ElsesRead =
    (left expression (w keyword.If ∷ (in_round (a ∷ []) ++ (w keyword.If ∷ (in_round (b ∷ []) ++ (one ∷ w keyword.Else ∷ one ∷ []))))) ≡ Some 0)
    × (left expression (w keyword.If ∷ (in_round (a ∷ []) ++ (b ∷ o operator.Semicolon ∷ w keyword.Else ∷ c ∷ []))) ≡ Some 0)
    × (left expression (w keyword.If ∷ (in_round (a ∷ []) ++ (b ∷ o operator.Semicolon ∷ c ∷ []))) ≡ Some 2)
    × (left expression (w keyword.When ∷ in_braces (a ∷ o operator.Arrow ∷ w keyword.If ∷ (in_round (b ∷ []) ++ (c ∷ w keyword.Else ∷ o operator.Arrow ∷ one ∷ [])))) ≡ Some 0)
    × (left expression (w keyword.When ∷ (in_round (a ∷ []) ++ in_braces (w keyword.Is ∷ (in_round (b ∷ []) ++ (o operator.Arrow ∷ c ∷ []))))) ≡ Some 0)

-- statements, assignments, `try`, and words that are names elsewhere
abbrev pub StatementsRead : Type 0
StatementsRead =
    (left statements (a ∷ line b ∷ line c ∷ []) ≡ Some 0)
    × (left statements (a ∷ o operator.Semicolon ∷ o operator.Semicolon ∷ c ∷ []) ≡ Some 0)
    × (left statements (o operator.Semicolon ∷ a ∷ []) ≡ Some 2)
    × (left expression (w keyword.When ∷ in_braces (o operator.Semicolon ∷ a ∷ o operator.Arrow ∷ b ∷ [])) ≡ None)
    × (left expression (w keyword.When ∷ in_braces (a ∷ o operator.Arrow ∷ b ∷ o operator.Semicolon ∷ [])) ≡ Some 0)
    × (left statement (a ∷ o operator.Dot ∷ b ∷ o operator.Assign ∷ c ∷ []) ≡ Some 0)
    × (left statement (a ∷ o operator.Plus ∷ b ∷ o operator.Assign ∷ c ∷ []) ≡ Some 2)
    × (left expression (w keyword.Try ∷ (in_braces [] ++ (catch_word ∷ (in_round (a ∷ o operator.Colon ∷ b ∷ []) ++ in_braces [])))) ≡ Some 0)
    × (left expression (w keyword.Try ∷ in_braces []) ≡ None)
    × (left expression (catch_word ∷ finally_word ∷ catch_word ∷ []) ≡ Some 0)
    × (left statement (w keyword.Do ∷ (a ∷ w keyword.While ∷ in_round (b ∷ []))) ≡ Some 0)
    × (left statement (w keyword.For ∷ (in_round (a ∷ w keyword.In ∷ b ∷ []) ++ in_braces [])) ≡ Some 0)

-- function types before the arrow of a branch or of a lambda's parameters
abbrev pub FunctionTypesRead : Type 0
FunctionTypesRead =
    (left expression (in_braces (a ∷ o operator.Colon ∷ (in_round (b ∷ []) ++ (o operator.Arrow ∷ c ∷ o operator.Comma ∷ d ∷ o operator.Colon ∷ b ∷ o operator.Arrow ∷ a ∷ [])))) ≡ Some 0)
    × (left expression (w keyword.When ∷ (in_round (a ∷ []) ++ in_braces (w keyword.Is ∷ (in_round (b ∷ []) ++ (o operator.Arrow ∷ c ∷ o operator.Comma ∷ w keyword.Is ∷ b ∷ o operator.Arrow ∷ d ∷ []))))) ≡ Some 0)
    × (left expression (w keyword.When ∷ (in_round (a ∷ []) ++ in_braces (w keyword.Is ∷ (in_round (b ∷ []) ++ (o operator.Arrow ∷ c ∷ o operator.Arrow ∷ d ∷ []))))) ≡ Some 0)
    × (left expression (w keyword.When ∷ in_braces (a ∷ w keyword.Is ∷ (in_round (b ∷ []) ++ (o operator.Arrow ∷ c ∷ [])))) ≡ None)

-- what must stand on the same line, and what need not
abbrev pub MarksRead : Type 0
MarksRead =
    (left expression (a ∷ line (o operator.OpenSquare) ∷ b ∷ o operator.CloseSquare ∷ []) ≡ Some 3)
    × (left expression (a ∷ (in_round [] ++ (line (o operator.OpenBrace) ∷ b ∷ o operator.CloseBrace ∷ []))) ≡ Some 3)
    × (left expression (a ∷ (in_round [] ++ (line label_d ∷ in_braces []))) ≡ Some 3)
    × (left expression (a ∷ line (o operator.Less) ∷ b ∷ o operator.Greater ∷ in_round (c ∷ [])) ≡ Some 6)
    × (left expression (a ∷ line (o operator.NotNull) ∷ []) ≡ Some 1)
    × (left expression (a ∷ line (w keyword.As) ∷ b ∷ []) ≡ Some 2)
    × (left expression (a ∷ b ∷ line c ∷ []) ≡ None)
    × (left expression (w keyword.Return ∷ line a ∷ []) ≡ Some 1)
    × (left expression (w keyword.Throw ∷ line a ∷ []) ≡ Some 0)
    × (left statement (a ∷ line (o operator.Assign) ∷ b ∷ []) ≡ Some 2)
    × (left statement (w keyword.Val ∷ a ∷ o operator.Colon ∷ b ∷ line (o operator.Assign) ∷ c ∷ []) ≡ Some 0)

-- commas behind the last of a list, and labels behind calls
abbrev pub ListsRead : Type 0
ListsRead =
    (left expression (a ∷ o operator.Less ∷ b ∷ o operator.Comma ∷ o operator.Greater ∷ in_round (c ∷ [])) ≡ Some 0)
    × (left expression (a ∷ o operator.OpenSquare ∷ b ∷ o operator.Comma ∷ o operator.CloseSquare ∷ []) ≡ Some 0)
    × (left expression (w keyword.When ∷ in_braces (a ∷ o operator.Comma ∷ o operator.Arrow ∷ b ∷ [])) ≡ Some 0)
    × (left expression (in_braces (a ∷ o operator.Comma ∷ o operator.Arrow ∷ b ∷ [])) ≡ Some 0)
    × (left expression (a ∷ in_round (o operator.Comma ∷ [])) ≡ None)
    × (left expression (a ∷ o operator.OpenSquare ∷ o operator.CloseSquare ∷ []) ≡ None)
    × (left expression (a ∷ (in_round [] ++ (label_d ∷ in_braces []))) ≡ Some 0)
    × (left expression (a ∷ label_d ∷ in_braces []) ≡ Some 0)
    × (left expression (a ∷ (in_round [] ++ (label_d ∷ []))) ≡ None)

-- `<` in a list of arguments, and tokens that form no type arguments after all
abbrev pub ComparisonsRead : Type 0
ComparisonsRead =
    (left expression (a ∷ in_round (b ∷ o operator.Less ∷ c ∷ o operator.Comma ∷ d ∷ o operator.Greater ∷ in_round (a ∷ []))) ≡ Some 0)
    × (left expression (a ∷ in_round (b ∷ o operator.Less ∷ c ∷ o operator.Comma ∷ d ∷ o operator.Greater ∷ a ∷ [])) ≡ Some 0)
    × (left expression (a ∷ in_round (b ∷ w keyword.As ∷ c ∷ o operator.Less ∷ d ∷ o operator.Comma ∷ a ∷ o operator.Greater ∷ in_round (b ∷ []))) ≡ None)
    × (left expression (a ∷ in_round (b ∷ w keyword.As ∷ (in_round (c ∷ []) ++ (o operator.Less ∷ d ∷ o operator.Comma ∷ a ∷ o operator.Greater ∷ in_round (b ∷ []))))) ≡ Some 0)
    × (left expression (a ∷ o operator.Less ∷ b ∷ o operator.Greater ∷ o operator.Semicolon ∷ []) ≡ Some 2)
    × (left expression (a ∷ o operator.Less ∷ b ∷ o operator.Question ∷ o operator.Semicolon ∷ []) ≡ Some 2)
    × (left expression (a ∷ o operator.Less ∷ o operator.Times ∷ []) ≡ None)

-- `try` without a clause, clauses cut short, and jumps
abbrev pub ClausesRead : Type 0
ClausesRead =
    (left expression (w keyword.Try ∷ (in_braces [] ++ (catch_word ∷ (in_round (a ∷ []) ++ in_braces [])))) ≡ None)
    × (left expression (w keyword.Try ∷ (in_braces [] ++ (finally_word ∷ in_braces []))) ≡ Some 0)
    × (left expression (w keyword.Try ∷ (in_braces [] ++ (catch_word ∷ (in_round (a ∷ o operator.Colon ∷ b ∷ []) ++ (in_braces [] ++ (catch_word ∷ in_round (c ∷ []))))))) ≡ Some 0)
    × (left expression (a ∷ in_round (w keyword.Throw ∷ [])) ≡ None)
    × (left expression (a ∷ in_round (w keyword.Break ∷ [])) ≡ Some 0)

-- ---- trees; the tokens all stand at the start of the source, and so do the nodes

abbrev built_in : (Cst Token → Expr) → Option (Cst Token × List Token) → Option Expr
built_in f None = None
built_in f (Some k) = Some (f k.0)

abbrev expression_at : List Token → Option Expr
expression_at ts = built_in expression_of (read grammar 2000 (row expression) ts)

abbrev statement_at : List Token → Option Expr
statement_at ts = built_in statement_of (read grammar 2000 (row statement) ts)

abbrev n : ExprKind → Expr
n k = record { span = no_span; kind = k }

abbrev name_a : Expr
name_a = n (e.Name 30)

abbrev name_b : Expr
name_b = n (e.Name 31)

abbrev name_c : Expr
name_c = n (e.Name 32)

abbrev value_of : Expr → Arg
value_of x = record { span = no_span; name = None; spread = false; trailing = false; value = x }

abbrev pub TreesBuilt : Type 0
TreesBuilt =
    (expression_at (a ∷ o operator.Plus ∷ b ∷ o operator.Times ∷ c ∷ []) ≡ Some (n (e.Binary binary_op.Plus no_span name_a (n (e.Binary binary_op.Times no_span name_b name_c)))))
    × (expression_at (a ∷ o operator.Minus ∷ b ∷ o operator.Minus ∷ c ∷ []) ≡ Some (n (e.Binary binary_op.Minus no_span (n (e.Binary binary_op.Minus no_span name_a name_b)) name_c)))
    × (expression_at (w keyword.If ∷ (in_round (a ∷ []) ++ (in_braces (b ∷ []) ++ (w keyword.Else ∷ in_braces (c ∷ []))))) ≡ Some (n (e.If name_a (n (e.Block (name_b ∷ []))) (Some (n (e.Block (name_c ∷ [])))))))
    × (expression_at (a ∷ (in_round (b ∷ []) ++ in_braces (c ∷ [])))
    ≡ Some (n (e.Call name_a no_span [] (value_of name_b ∷ record { span = no_span; name = None; spread = false; trailing = true; value = n (e.Lambda None [] false (name_c ∷ [])) } ∷ []))))
    × (expression_at (a ∷ o operator.Less ∷ b ∷ o operator.Greater ∷ in_round (c ∷ []))
    ≡ Some (n (e.Call name_a no_span (record { span = no_span; kind = argument_kind.Exact (record { span = no_span; kind = type_kind.Named (record { span = no_span; name = 31 } ∷ []) [] }) } ∷ []) (value_of name_c ∷ []))))
    × (statement_at (a ∷ o operator.PlusAssign ∷ b ∷ o operator.Plus ∷ c ∷ []) ≡ Some (n (e.Assign assign_op.Plus no_span name_a (n (e.Binary binary_op.Plus no_span name_b name_c)))))
    × (statement_at (a ∷ o operator.Or ∷ b ∷ []) ≡ Some (n (e.Binary binary_op.Or no_span name_a name_b)))
    × (statement_at (w keyword.Val ∷ a ∷ o operator.Assign ∷ b ∷ []) ≡ Some (n (e.Local false (record { name = record { span = no_span; name = 30 }; ty = None } ∷ []) false (Some name_b))))

-- ---- trees with places: each token is one unit long, and they stand without gaps

abbrev pub placed : ℕ → List Token → List Token
placed i [] = []
placed i (t ∷ ts) = record t { span = record { file = 0; start = i; end = suc i } } ∷ placed (suc i) ts

abbrev pub s : ℕ → ℕ → Span
s i j = record { file = 0; start = i; end = j }

abbrev pub at : ℕ → ℕ → ExprKind → Expr
at i j k = record { span = s i j; kind = k }

-- a call's place is that of its `(`; a body takes what stands behind its brace; levels
abbrev pub PlacesBuilt : Type 0
PlacesBuilt =
    (expression_at (placed 0 (in_round (a ∷ []) ++ (o operator.Less ∷ b ∷ o operator.Greater ∷ in_round (c ∷ []))))
    ≡ Some (at 0 9 (e.Call (at 0 3 (e.Paren (at 1 2 (e.Name 30)))) (s 6 7)
    (record { span = s 4 5; kind = argument_kind.Exact (record { span = s 4 5; kind = type_kind.Named (record { span = s 4 5; name = 31 } ∷ []) [] }) } ∷ [])
    (record { span = s 7 8; name = None; spread = false; trailing = false; value = at 7 8 (e.Name 32) } ∷ []))))
    × (expression_at (placed 0 (w keyword.If ∷ (in_round (a ∷ []) ++ (in_braces (b ∷ []) ++ (o operator.Dot ∷ c ∷ in_round [])))))
    ≡ Some (at 0 11 (e.If (at 2 3 (e.Name 30))
    (at 4 11 (e.Call (at 4 9 (e.Member (at 4 7 (e.Lambda None [] false (at 5 6 (e.Name 31) ∷ []))) false (record { span = s 8 9; name = 32 }))) (s 9 10) [] [])) None)))
    × (expression_at (placed 0 (a ∷ o operator.Elvis ∷ b ∷ d ∷ c ∷ []))
    ≡ Some (at 0 5 (e.Binary binary_op.Elvis (s 1 2) (at 0 1 (e.Name 30)) (at 2 5 (e.Infix (at 2 3 (e.Name 31)) (record { span = s 3 4; name = 33 }) (at 4 5 (e.Name 32)))))))
    × (expression_at (placed 0 (a ∷ w keyword.NotIn ∷ b ∷ w keyword.NotIs ∷ c ∷ []))
    ≡ Some (at 0 5 (e.Is true (at 0 3 (e.In true (s 1 2) (at 0 1 (e.Name 30)) (at 2 3 (e.Name 31)))) (record { span = s 4 5; kind = type_kind.Named (record { span = s 4 5; name = 32 } ∷ []) [] }))))
    × (statement_at (placed 0 (o operator.Minus ∷ a ∷ o operator.Plus ∷ b ∷ []))
    ≡ Some (at 0 4 (e.Binary binary_op.Plus (s 2 3) (at 0 2 (e.Prefix prefix_op.Minus (at 1 2 (e.Name 30)))) (at 3 4 (e.Name 31)))))
    × (expression_at (placed 0 (w keyword.Return ∷ a ∷ [])) ≡ Some (at 0 2 (e.Return None (Some (at 1 2 (e.Name 30))))))
    × (expression_at (placed 0 (a ∷ (in_round [] ++ (label_d ∷ in_braces (b ∷ [])))))
    ≡ Some (at 0 7 (e.Call (at 0 1 (e.Name 30)) (s 1 2) []
    (record { span = s 3 7; name = None; spread = false; trailing = true; value = at 4 7 (e.Lambda (Some (record { span = s 3 4; name = 33 })) [] false (at 5 6 (e.Name 31) ∷ [])) } ∷ []))))

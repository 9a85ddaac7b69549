-- The grammar of the form, by its derivations:
--   file    : 'fun' 'main' '(' ')' block
--   block   : '{' (stmt (end stmt)* ';'*)? '}'   where `end` is one `;` or more, or the end of a line
--   stmt    : ('val' | 'var') NAME '=' expr | NAME '=' expr | 'println' '(' expr ')'
--           | 'if' '(' expr ')' body (';'? 'else' body)? | 'while' '(' expr ')' body
--   body    : block | stmt
--   expr    : and ('||' and)*            and : eq ('&&' eq)*
--   eq      : cmp (('==' | '!=') cmp)*   cmp : add (('<' | '<=' | '>' | '>=') add)?
--   add     : mul (('+' | '-') mul)*     mul : prefix (('*' | '/' | '%') prefix)*
--   prefix  : ('-' | '!')* primary
--   primary : NUMBER | 'true' | 'false' | NAME | '(' expr ')'
-- An `else` belongs to the innermost `if` that can take it. A derivation leads from the tokens before it to those behind it.
-- A mark, which says that a line ends before the token, counts at four places: a binary operator has none, but for `&&` and `||`,
-- and inside round brackets, where lines don't count; the bracket of `println` has none; the `=` of an assignment has none; and a
-- statement that stands behind another one without a `;` has one. Elsewhere it is ignored.
use Rattle.std.specs.Prelude.{◌≡◌, ◌==◌, nat_lt, Bool, true, false, ◌&&◌, ◌||◌, not, if◌then◌else◌, List, [], ◌∷◌, Option, Some, None, pos, negsuc}
use Rattle.kc_core.specs.declared.tree.BinaryOp.TheVariants as op
use Rattle.kc_core.specs.declared.tree.Order.TheVariants as order
use Rattle.form_parser.specs.declared.tokens.TokenKind.{TokenKind}
use Rattle.form_parser.specs.declared.tokens.TokenKind.TheVariants as kind
use Rattle.form_parser.specs.declared.tokens.Token.{Token}
use Rattle.form_parser.specs.declared.tokens.Place.{Place}
use Rattle.form_parser.specs.declared.expressions.Expected.{Expected}
use Rattle.form_parser.specs.declared.expressions.Expected.TheVariants as expected
use Rattle.form_parser.specs.declared.operators.Level.{Level}
use Rattle.form_parser.specs.declared.operators.Level.TheVariants as level
use Rattle.form_parser.specs.declared.operators.Operator.{Operator}
use Rattle.form_parser.specs.declared.operators.Operator.TheVariants as operator
use Rattle.form_parser.specs.declared.operators.Prefix.{Prefix}
use Rattle.form_parser.specs.declared.operators.Prefix.TheVariants as sign
use Rattle.form_parser.specs.declared.parser.Standing.{Standing}
use Rattle.form_parser.specs.declared.parser.Standing.TheVariants as standing
use Rattle.form_parser.specs.declared.surface.Expression.{Expression}
use Rattle.form_parser.specs.declared.surface.ExpressionKind.{ExpressionKind}
use Rattle.form_parser.specs.declared.surface.ExpressionKind.TheVariants as expr
use Rattle.form_parser.specs.declared.surface.Body.{Body}
use Rattle.form_parser.specs.declared.surface.Statement.{Statement, out-Statement}
use Rattle.form_parser.specs.declared.surface.Statement.TheOpen.{Statement-F}
use Rattle.form_parser.specs.declared.surface.Statement.TheVariants as statement
use Rattle.form_parser.specs.declared.surface.Source.{Source}

-- from the start of one place to the end of another
abbrev pub joined : Place → Place → Place
joined first last = record { start = first.start; end = last.end }

-- ---- single tokens

-- the kind of a token that rows ask for
abbrev pub kind_of : Expected → TokenKind
kind_of expected.Fun = kind.Fun
kind_of expected.Main = kind.Main
kind_of expected.Name = kind.Name
kind_of expected.Assign = kind.Assign
kind_of expected.OpenRound = kind.OpenRound
kind_of expected.CloseRound = kind.CloseRound
kind_of expected.OpenBrace = kind.OpenBrace

abbrev pub is_fun : TokenKind → Bool
is_fun kind.Fun = true
is_fun _ = false

abbrev pub is_main : TokenKind → Bool
is_main kind.Main = true
is_main _ = false

abbrev pub is_name : TokenKind → Bool
is_name kind.Name = true
is_name _ = false

abbrev pub is_assign : TokenKind → Bool
is_assign kind.Assign = true
is_assign _ = false

abbrev pub is_open_round : TokenKind → Bool
is_open_round kind.OpenRound = true
is_open_round _ = false

abbrev pub is_close_round : TokenKind → Bool
is_close_round kind.CloseRound = true
is_close_round _ = false

abbrev pub is_open_brace : TokenKind → Bool
is_open_brace kind.OpenBrace = true
is_open_brace _ = false

-- whether a token is of that kind
abbrev pub is_kind : Expected → TokenKind → Bool
is_kind expected.Fun k = is_fun k
is_kind expected.Main k = is_main k
is_kind expected.Name k = is_name k
is_kind expected.Assign k = is_assign k
is_kind expected.OpenRound k = is_open_round k
is_kind expected.CloseRound k = is_close_round k
is_kind expected.OpenBrace k = is_open_brace k

abbrev pub is_widest : TokenKind → Bool
is_widest (kind.Number n) = n == 2147483648
is_widest _ = false

-- ---- operators

abbrev pub equality_of : TokenKind → Option Operator
equality_of kind.Equal = Some (operator.Equality true)
equality_of kind.NotEqual = Some (operator.Equality false)
equality_of _ = None

abbrev pub comparison_of : TokenKind → Option Operator
comparison_of kind.Less = Some (operator.Compare order.Less)
comparison_of kind.LessEqual = Some (operator.Compare order.LessEqual)
comparison_of kind.Greater = Some (operator.Compare order.Greater)
comparison_of kind.GreaterEqual = Some (operator.Compare order.GreaterEqual)
comparison_of _ = None

abbrev pub additive_of : TokenKind → Option Operator
additive_of kind.Plus = Some (operator.Binary op.Plus)
additive_of kind.Minus = Some (operator.Binary op.Minus)
additive_of _ = None

abbrev pub multiplicative_of : TokenKind → Option Operator
multiplicative_of kind.Times = Some (operator.Binary op.Times)
multiplicative_of kind.Divide = Some (operator.Binary op.Div)
multiplicative_of kind.Remainder = Some (operator.Binary op.Rem)
multiplicative_of _ = None

abbrev pub or_of : TokenKind → Option Operator
or_of kind.Or = Some operator.Or
or_of _ = None

abbrev pub and_of : TokenKind → Option Operator
and_of kind.And = Some operator.And
and_of _ = None

-- the operators of a level
abbrev pub operator_of : Level → TokenKind → Option Operator
operator_of level.Or k = or_of k
operator_of level.And k = and_of k
operator_of level.Equality k = equality_of k
operator_of level.Comparison k = comparison_of k
operator_of level.Additive k = additive_of k
operator_of level.Multiplicative k = multiplicative_of k

-- `&&` and `||` may stand on a line of their own
abbrev pub may_begin_line : Level → Bool
may_begin_line level.Or = true
may_begin_line level.And = true
may_begin_line _ = false

-- a token as an operator behind an operand
abbrev pub operator_at : Level → Bool → Token → Option Operator
operator_at l inside t = if t.marked && not (inside || may_begin_line l) then None else operator_of l t.kind

abbrev pub first_operator : Level → Bool → List Token → Option Operator
first_operator l inside [] = None
first_operator l inside (t ∷ _) = operator_at l inside t

abbrev pub prefix_of : TokenKind → Option Prefix
prefix_of kind.Minus = Some sign.Minus
prefix_of kind.Not = Some sign.Not
prefix_of _ = None

-- ---- the trees

abbrev pub binary_kind : Operator → Expression → Expression → ExpressionKind
binary_kind (operator.Binary o) a b = expr.Binary o a b
binary_kind (operator.Compare o) a b = expr.Compare o a b
binary_kind (operator.Equality equal) a b = expr.Equality equal a b
binary_kind operator.And a b = expr.And a b
binary_kind operator.Or a b = expr.Or a b

abbrev pub binary : Operator → Expression → Expression → Expression
binary o a b = record { place = joined a.place b.place; kind = binary_kind o a b }

abbrev pub prefixed_kind : Prefix → Expression → ExpressionKind
prefixed_kind sign.Minus a = expr.Negation a
prefixed_kind sign.Not a = expr.Not a

abbrev pub prefixed : Token → Prefix → Expression → Expression
prefixed t o a = record { place = joined t.place a.place; kind = prefixed_kind o a }

-- the widest number with its sign is the least Int
abbrev pub least : Token → Token → Expression
least t u = record { place = joined t.place u.place; kind = expr.Number (negsuc 2147483647) }

abbrev pub leaf : Place → TokenKind → Option Expression
leaf p (kind.Number n) = if nat_lt n 2147483648 then Some (record { place = p; kind = expr.Number (pos n) }) else None
leaf p kind.True = Some (record { place = p; kind = expr.Truth true })
leaf p kind.False = Some (record { place = p; kind = expr.Truth false })
leaf p kind.Name = Some (record { place = p; kind = expr.Name p })
leaf p _ = None

-- a token that is an expression by itself
abbrev pub leaf_of : Token → Option Expression
leaf_of t = leaf t.place t.kind

-- brackets leave no node of their own, and count to the place of what they hold
abbrev pub bracketed : Token → Expression → Token → Expression
bracketed t a u = record { place = joined t.place u.place; kind = a.kind }

-- ---- expressions

-- the rows that give an expression
pub data Row : Type 0 where
  chain : Level → Row  -- operands, joined by the operators of a level: from `expr` to `mul`
  more : Level → Expression → Row  -- the rest of one, behind the operands that are read as this expression
  nothing : Expression → Row  -- no more of this expression
  prefix : Row
  primary : Row

abbrev pub operand : Level → Row
operand level.Or = chain level.And
operand level.And = chain level.Equality
operand level.Equality = chain level.Comparison
operand level.Comparison = chain level.Additive
operand level.Additive = chain level.Multiplicative
operand level.Multiplicative = prefix

-- what may follow two operands that are joined: nothing of the level, where they are compared
abbrev pub behind : Level → Expression → Row
behind level.Comparison a = nothing a
behind l a = more l a

-- `inside` says that the innermost open bracket is a round one
pub data Reads : (inside : Bool) → Row → List Token → Expression → List Token → Type 0 where
  a_chain : {i : Bool} {l : Level} {ts us vs : List Token} {a b : Expression}
      → Reads i (operand l) ts a us → Reads i (more l a) us b vs → Reads i (chain l) ts b vs
  one_more : {i : Bool} {l : Level} {t : Token} {ts us vs : List Token} {a b c : Expression} {o : Operator}
      → operator_at l i t ≡ Some o → Reads i (operand l) ts b us → Reads i (behind l (binary o a b)) us c vs
      → Reads i (more l a) (t ∷ ts) c vs
  no_more : {i : Bool} {l : Level} {ts : List Token} {a : Expression} → first_operator l i ts ≡ None → Reads i (more l a) ts a ts
  ended : {i : Bool} {ts : List Token} {a : Expression} → Reads i (nothing a) ts a ts
  a_prefix : {i : Bool} {t : Token} {ts us : List Token} {a : Expression} {o : Prefix}
      → prefix_of t.kind ≡ Some o → Reads i prefix ts a us → Reads i prefix (t ∷ ts) (prefixed t o a) us
  the_least : {i : Bool} {t u : Token} {ts : List Token}
      → t.kind ≡ kind.Minus → u.kind ≡ kind.Number 2147483648 → Reads i prefix (t ∷ u ∷ ts) (least t u) ts
  unsigned : {i : Bool} {ts us : List Token} {a : Expression} → Reads i primary ts a us → Reads i prefix ts a us
  a_leaf : {i : Bool} {t : Token} {ts : List Token} {a : Expression} → leaf_of t ≡ Some a → Reads i primary (t ∷ ts) a ts
  brackets : {i : Bool} {t u : Token} {ts us : List Token} {a : Expression}
      → t.kind ≡ kind.OpenRound → Reads true (chain level.Or) ts a (u ∷ us) → u.kind ≡ kind.CloseRound
      → Reads i primary (t ∷ ts) (bracketed t a u) us

-- ---- statements

-- `val` and `var`
abbrev pub is_var : TokenKind → Option Bool
is_var kind.Val = Some false
is_var kind.Var = Some true
is_var _ = None

-- the tokens behind a token, where it is an `else`
abbrev pub else_of : TokenKind → List Token → Option (List Token)
else_of kind.Else ts = Some ts
else_of _ ts = None

abbrev pub first_else : List Token → Option (List Token)
first_else [] = None
first_else (t ∷ ts) = else_of t.kind ts

abbrev pub branch_of : TokenKind → List Token → Option (List Token)
branch_of kind.Else ts = Some ts
branch_of kind.Semicolon ts = first_else ts
branch_of _ ts = None

-- the tokens behind an `else`, or behind a `;` and an `else`
abbrev pub behind_else : List Token → Option (List Token)
behind_else [] = None
behind_else (t ∷ ts) = branch_of t.kind ts

abbrev pub place_in : Statement-F Statement Body → Place
place_in (Statement-F.Declare p v n a) = p
place_in (Statement-F.Assign p n a) = p
place_in (Statement-F.Print p a) = p
place_in (Statement-F.If p a h f) = p
place_in (Statement-F.While p a b) = p

abbrev pub place_of : Statement → Place
place_of s = place_in (out-Statement s)

-- the one statement of a body without braces
abbrev pub alone_in : Statement → Body
alone_in s = record { place = place_of s; statements = s ∷ [] }

abbrev pub block_of : Token → List Statement → Place → Body
block_of t ss close = record { place = joined t.place close; statements = ss }

-- a statement may begin here: as the first one, behind a `;`, or on a line of its own
abbrev pub may_begin : Standing → Token → Bool
may_begin standing.First t = true
may_begin standing.Behind t = t.marked
may_begin standing.Separated t = true

-- a `;` may stand behind a statement, and behind another `;`
abbrev pub may_separate : Standing → Bool
may_separate standing.First = false
may_separate standing.Behind = true
may_separate standing.Separated = true

-- a test in its brackets
pub data ReadsTest : List Token → Expression → List Token → Type 0 where
  a_test : {o u : Token} {ts us : List Token} {a : Expression}
      → o.kind ≡ kind.OpenRound → Reads true (chain level.Or) ts a (u ∷ us) → u.kind ≡ kind.CloseRound → ReadsTest (o ∷ ts) a us

mutual
  pub data ReadsStatement : List Token → Statement → List Token → Type 0 where
    a_declaration : {t n e : Token} {v : Bool} {ts us : List Token} {a : Expression}
        → is_var t.kind ≡ Some v → n.kind ≡ kind.Name → e.kind ≡ kind.Assign → Reads false (chain level.Or) ts a us
        → ReadsStatement (t ∷ n ∷ e ∷ ts) (statement.Declare (joined t.place a.place) v n.place a) us
    an_assignment : {t e : Token} {ts us : List Token} {a : Expression}
        → t.kind ≡ kind.Name → e.kind ≡ kind.Assign → e.marked ≡ false → Reads false (chain level.Or) ts a us
        → ReadsStatement (t ∷ e ∷ ts) (statement.Assign (joined t.place a.place) t.place a) us
    -- the bracket of a call stands on the line of what is called
    a_print : {t o u : Token} {ts us : List Token} {a : Expression}
        → t.kind ≡ kind.Println → o.kind ≡ kind.OpenRound → o.marked ≡ false
        → Reads true (chain level.Or) ts a (u ∷ us) → u.kind ≡ kind.CloseRound
        → ReadsStatement (t ∷ o ∷ ts) (statement.Print (joined t.place u.place) a) us
    an_if : {t : Token} {ts us vs : List Token} {a : Expression} {held : Body}
        → t.kind ≡ kind.If → ReadsTest ts a us → ReadsBody us held vs → behind_else vs ≡ None
        → ReadsStatement (t ∷ ts) (statement.If (joined t.place held.place) a held None) vs
    an_if_else : {t : Token} {ts us vs ws xs : List Token} {a : Expression} {held failed : Body}
        → t.kind ≡ kind.If → ReadsTest ts a us → ReadsBody us held vs → behind_else vs ≡ Some ws → ReadsBody ws failed xs
        → ReadsStatement (t ∷ ts) (statement.If (joined t.place failed.place) a held (Some failed)) xs
    a_while : {t : Token} {ts us vs : List Token} {a : Expression} {body : Body}
        → t.kind ≡ kind.While → ReadsTest ts a us → ReadsBody us body vs
        → ReadsStatement (t ∷ ts) (statement.While (joined t.place body.place) a body) vs

  pub data ReadsBody : List Token → Body → List Token → Type 0 where
    a_block : {t : Token} {ts us : List Token} {ss : List Statement} {close : Place}
        → t.kind ≡ kind.OpenBrace → ReadsStatements standing.First ts ss close us → ReadsBody (t ∷ ts) (block_of t ss close) us
    alone : {ts us : List Token} {s : Statement} → ReadsStatement ts s us → ReadsBody ts (alone_in s) us

  -- statements up to a closing brace, and the brace's place
  pub data ReadsStatements : Standing → List Token → List Statement → Place → List Token → Type 0 where
    closed : {st : Standing} {t : Token} {ts : List Token} → t.kind ≡ kind.CloseBrace → ReadsStatements st (t ∷ ts) [] t.place ts
    separated : {st : Standing} {t : Token} {ts us : List Token} {ss : List Statement} {close : Place}
        → t.kind ≡ kind.Semicolon → may_separate st ≡ true → ReadsStatements standing.Separated ts ss close us
        → ReadsStatements st (t ∷ ts) ss close us
    another : {st : Standing} {t : Token} {ts us vs : List Token} {s : Statement} {ss : List Statement} {close : Place}
        → may_begin st t ≡ true → ReadsStatement (t ∷ ts) s us → ReadsStatements standing.Behind us ss close vs
        → ReadsStatements st (t ∷ ts) (s ∷ ss) close vs

pub data Derives : List Token → Source → Type 0 where
  one : {a b c d e : Token} {ts : List Token} {ss : List Statement} {close : Place}
      → a.kind ≡ kind.Fun → b.kind ≡ kind.Main → c.kind ≡ kind.OpenRound → d.kind ≡ kind.CloseRound
      → e.kind ≡ kind.OpenBrace → ReadsStatements standing.First ts ss close []
      → Derives (a ∷ b ∷ c ∷ d ∷ e ∷ ts) (record { name = b.place; body = joined e.place close; statements = ss })

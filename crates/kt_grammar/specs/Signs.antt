-- Tokens that stand for operators, and the rows of operators that may stand between any number of operands.
use Rattle.std.specs.Prelude.{◌≡◌, ℕ, max, Bool, true, false, ◌||◌, List, drop, Option, Some, None, Result, Ok, Err}
use denote.Ref.{Bor}
use Rattle.grammars.specs.Grammar.{Part, next, one, row, both, many, guard, Cst, node, first, test}
use Rattle.kc_text.specs.declared.errors.Fail.{Fail}
use Rattle.kc_text.specs.declared.errors.Fail.TheVariants.{Found}
use Rattle.kc_tree.specs.declared.expr.Expr.{Expr}
use Rattle.kt_lexer.specs.declared.token.Token.{Token}
use Rattle.kt_lexer.specs.declared.token.Operator.TheVariants as operator
use Rattle.kt_grammar.specs.declared.cursor.Cursor.{Cursor}
use Rattle.kt_grammar.specs.declared.signs.Level.{Level}
use Rattle.kt_grammar.specs.declared.signs.Level.TheVariants as level
use Rattle.kt_grammar.specs.declared.signs.Sign.{Sign}
use Rattle.kt_grammar.specs.declared.signs.Sign.TheVariants as sign
use Rattle.kt_grammar.specs.Built as built
use Rattle.kt_grammar.specs.Parsed.{Taken}
use Rattle.kt_grammar.specs.Rows as rows
use Rattle.kt_grammar.specs.Rows.{Row}
use Rattle.kt_grammar.specs.Tokens as tokens
use Rattle.kt_grammar.specs.Tokens.{is_op, unmarked, begins_expression}

-- ---- levels

abbrev pub is_between : Level → Token → Bool
is_between level.Or = is_op operator.Or
is_between level.And = is_op operator.And
is_between level.Equality = unmarked tokens.is_equality
is_between level.Elvis = is_op operator.Elvis
is_between level.Range = unmarked tokens.is_range
is_between level.Sum = unmarked tokens.is_sum
is_between level.Product = unmarked tokens.is_product

-- the row of a level, and that of its operands
abbrev pub row_of : Level → Row
row_of level.Or = rows.expression
row_of level.And = rows.conjunction
row_of level.Equality = rows.equality
row_of level.Elvis = rows.elvis
row_of level.Range = rows.range
row_of level.Sum = rows.sum
row_of level.Product = rows.product

abbrev pub operand_row : Level → Row
operand_row level.Or = rows.conjunction
operand_row level.And = rows.equality
operand_row level.Equality = rows.comparison
operand_row level.Elvis = rows.infix_
operand_row level.Range = rows.sum
operand_row level.Sum = rows.product
operand_row level.Product = rows.cast

-- an operator and its right operand, any number of times
abbrev pub turns_of : Level → Part Row Token
turns_of l = many (next (is_between l)) (both (one (is_between l)) (row (operand_row l)))

abbrev pub tree_of : Level → Cst Token → Expr
tree_of level.Or = built.expression_of
tree_of level.And = built.conjunction_of
tree_of level.Equality = built.equality_of
tree_of level.Elvis = built.elvis_of
tree_of level.Range = built.range_of
tree_of level.Sum = built.sum_of
tree_of level.Product = built.product_of

abbrev pub operand_of : Level → Cst Token → Expr
operand_of level.Or = built.conjunction_of
operand_of level.And = built.equality_of
operand_of level.Equality = built.comparison_of
operand_of level.Elvis = built.infix_of
operand_of level.Range = built.sum_of
operand_of level.Sum = built.product_of
operand_of level.Product = built.cast_of

-- what is built of the first operand and the turns behind it
abbrev pub all_of : Level → Expr → Cst Token → Expr
all_of level.Or = built.or_turns_of
all_of level.And = built.and_turns_of
all_of level.Equality = built.equality_turns_of
all_of level.Elvis = built.elvis_turns_of
all_of level.Range = built.range_turns_of
all_of level.Sum = built.sum_turns_of
all_of level.Product = built.product_turns_of

-- what stands behind the name of a function
abbrev pub infix_operand : Part Row Token
infix_operand = guard (next (unmarked begins_expression)) (row rows.range)

abbrev pub infix_operand_of : Cst Token → Expr
infix_operand_of (node c) = built.range_of c
infix_operand_of _ = built.no_expression

-- ---- one token

abbrev pub is_sign : Sign → Token → Bool
is_sign (sign.Between l) = is_between l
is_sign sign.Comparison = unmarked tokens.is_comparison
is_sign sign.Name = unmarked tokens.is_name
is_sign sign.In = unmarked tokens.is_in
is_sign sign.Is = unmarked tokens.is_is
is_sign sign.Cast = unmarked tokens.is_as
is_sign sign.Prefix = tokens.is_prefix
is_sign sign.Assignment = unmarked tokens.is_assignment
is_sign sign.Atom = tokens.is_atom
is_sign sign.Jump = tokens.is_jump

abbrev pub is_relation : Token → Bool
is_relation = unmarked (λ t. tokens.is_in t || tokens.is_is t)

-- the token at a place, where the test holds of it
abbrev pub TokenAt : (Token → Bool) → Option Token → Option (Bor Token) → Type 0
TokenAt f o None = test f o ≡ false
TokenAt f None (Some t) = ⊥
TokenAt f (Some u) (Some t) = (f u ≡ true) × (t.now ≡ u)

-- a token that the test holds of, from one place to the next
pub record TokenTaken (f : Token → Bool) (ts : List Token) (start end : Cursor) (t : Token) : Type 0 where
  pub taken : Taken f ts start.at end.at
  pub so_far : end.looked ≡ start.looked
  pub same : t ≡ taken.token

abbrev pub EatsToken : (Token → Bool) → List Token → Cursor → Option (Bor Token × Cursor) → Type 0
EatsToken f ts start (Some p) = TokenTaken f ts start p.1 p.0.now
EatsToken f ts start None = test f (first (drop start.at ts)) ≡ false

abbrev pub ExpectsToken : (Token → Bool) → List Token → Cursor → Result (Bor Token × Cursor) (Fail ℕ) → Type 0
ExpectsToken f ts start (Ok p) = TokenTaken f ts start p.1 p.0.now
ExpectsToken f ts start (Err e) = (test f (first (drop start.at ts)) ≡ false) × (e ≡ Found (max start.looked start.at))

-- Operators: of those that stand in front of a text the longest counts.
use Rattle.std.specs.Prelude.{ℕ, if◌then◌else◌, List, [], ◌∷◌, Option, Some, None, codes}
use Rattle.kt_lexer.specs.Characters.{is_front}
use Rattle.kt_lexer.specs.declared.token.Operator.{Operator}
use Rattle.kt_lexer.specs.declared.token.Operator.TheVariants as operator

abbrev pub of_three : List (List ℕ × Operator)
of_three =
    (codes "===", operator.Identical) ∷ (codes "!==", operator.NotIdentical) ∷ (codes "..<", operator.RangeUntil) ∷ []

abbrev pub assignments : List (List ℕ × Operator)
assignments =
    (codes "==", operator.EqualEqual) ∷ (codes "!=", operator.NotEqual) ∷ (codes "<=", operator.LessEqual)
    ∷ (codes ">=", operator.GreaterEqual) ∷ (codes "+=", operator.PlusAssign) ∷ (codes "-=", operator.MinusAssign)
    ∷ (codes "*=", operator.TimesAssign) ∷ (codes "/=", operator.DivideAssign)
    ∷ (codes "%=", operator.RemainderAssign) ∷ []

abbrev pub other_pairs : List (List ℕ × Operator)
other_pairs =
    (codes "&&", operator.And) ∷ (codes "||", operator.Or) ∷ (codes "++", operator.Increment)
    ∷ (codes "--", operator.Decrement) ∷ (codes "!!", operator.NotNull) ∷ (codes "?.", operator.SafeDot)
    ∷ (codes "?:", operator.Elvis) ∷ (codes "->", operator.Arrow) ∷ (codes "..", operator.Range) ∷ []

abbrev pub signs : List (List ℕ × Operator)
signs =
    (codes "+", operator.Plus) ∷ (codes "-", operator.Minus) ∷ (codes "*", operator.Times)
    ∷ (codes "/", operator.Divide) ∷ (codes "%", operator.Remainder) ∷ (codes "=", operator.Assign)
    ∷ (codes "<", operator.Less) ∷ (codes ">", operator.Greater) ∷ (codes "!", operator.Not)
    ∷ (codes "?", operator.Question) ∷ (codes ":", operator.Colon) ∷ (codes ".", operator.Dot)
    ∷ (codes ",", operator.Comma) ∷ (codes ";", operator.Semicolon) ∷ (codes "@", operator.At) ∷ []

abbrev pub brackets : List (List ℕ × Operator)
brackets =
    (codes "(", operator.OpenRound) ∷ (codes ")", operator.CloseRound) ∷ (codes "[", operator.OpenSquare)
    ∷ (codes "]", operator.CloseSquare) ∷ (codes "{", operator.OpenBrace) ∷ (codes "}", operator.CloseBrace) ∷ []

abbrev pub find_front : {K : Type 0} → List ℕ → List (List ℕ × K) → Option K
find_front text [] = None
find_front text (e ∷ es) = if is_front e.0 text then Some e.1 else find_front text es

-- the first of the two, with its length, or else the other one
abbrev pub with_length : ℕ → Option Operator → Option (Operator × ℕ) → Option (Operator × ℕ)
with_length n (Some k) other = Some (k, n)
with_length n None other = other

-- the longest operator in front, and its length
abbrev pub operator_of : List ℕ → Option (Operator × ℕ)
operator_of text =
    with_length 3 (find_front text of_three) (
    with_length 2 (find_front text assignments) (
    with_length 2 (find_front text other_pairs) (
    with_length 1 (find_front text signs) (
    with_length 1 (find_front text brackets) None))))

-- The classes of tokens by which the grammar goes.
use Rattle.std.specs.Prelude.{ℕ, ◌+◌, nat_lt, Bool, false, not, ◌&&◌, ◌||◌, ◌==◌, if◌then◌else◌, List, [], ◌∷◌}
use Rattle.kt_lexer.specs.declared.token.Token.{Token}
use Rattle.kt_lexer.specs.declared.token.TokenKind.{TokenKind}
use Rattle.kt_lexer.specs.declared.token.TokenKind.TheVariants as kind
use Rattle.kt_lexer.specs.declared.token.Keyword.{Keyword}
use Rattle.kt_lexer.specs.declared.token.Keyword.TheVariants as keyword
use Rattle.kt_lexer.specs.declared.token.Operator.{Operator}
use Rattle.kt_lexer.specs.declared.token.Operator.TheVariants as operator

abbrev pub operator_class : Operator → ℕ
operator_class operator.Identical = 0
operator_class operator.NotIdentical = 1
operator_class operator.RangeUntil = 2
operator_class operator.EqualEqual = 3
operator_class operator.NotEqual = 4
operator_class operator.LessEqual = 5
operator_class operator.GreaterEqual = 6
operator_class operator.And = 7
operator_class operator.Or = 8
operator_class operator.Increment = 9
operator_class operator.Decrement = 10
operator_class operator.PlusAssign = 11
operator_class operator.MinusAssign = 12
operator_class operator.TimesAssign = 13
operator_class operator.DivideAssign = 14
operator_class operator.RemainderAssign = 15
operator_class operator.NotNull = 16
operator_class operator.SafeDot = 17
operator_class operator.Elvis = 18
operator_class operator.Arrow = 19
operator_class operator.Range = 20
operator_class operator.Plus = 21
operator_class operator.Minus = 22
operator_class operator.Times = 23
operator_class operator.TimesBehindDot = 24
operator_class operator.Divide = 25
operator_class operator.Remainder = 26
operator_class operator.Assign = 27
operator_class operator.Less = 28
operator_class operator.Greater = 29
operator_class operator.Not = 30
operator_class operator.Question = 31
operator_class operator.Colon = 32
operator_class operator.Dot = 33
operator_class operator.Comma = 34
operator_class operator.Semicolon = 35
operator_class operator.At = 36
operator_class operator.OpenRound = 37
operator_class operator.CloseRound = 38
operator_class operator.OpenSquare = 39
operator_class operator.CloseSquare = 40
operator_class operator.OpenBrace = 41
operator_class operator.CloseBrace = 42

abbrev pub keyword_class : Keyword → ℕ
keyword_class keyword.As = 43
keyword_class keyword.AsSafe = 44
keyword_class keyword.Break = 45
keyword_class keyword.Class = 46
keyword_class keyword.Continue = 47
keyword_class keyword.Do = 48
keyword_class keyword.Else = 49
keyword_class keyword.False = 50
keyword_class keyword.For = 51
keyword_class keyword.Fun = 52
keyword_class keyword.If = 53
keyword_class keyword.In = 54
keyword_class keyword.NotIn = 55
keyword_class keyword.Interface = 56
keyword_class keyword.Is = 57
keyword_class keyword.NotIs = 58
keyword_class keyword.Null = 59
keyword_class keyword.Object = 60
keyword_class keyword.Package = 61
keyword_class keyword.Return = 62
keyword_class keyword.Super = 63
keyword_class keyword.This = 64
keyword_class keyword.Throw = 65
keyword_class keyword.True = 66
keyword_class keyword.Try = 67
keyword_class keyword.Typealias = 68
keyword_class keyword.Typeof = 69
keyword_class keyword.Val = 70
keyword_class keyword.Var = 71
keyword_class keyword.When = 72
keyword_class keyword.While = 73

-- The words that mean something at some places have classes of their own, in the order of their numbers; all further names have one.
abbrev pub name_class : ℕ → ℕ
name_class n = if nat_lt n 26 then 84 + n else 110

abbrev pub class_of : TokenKind → ℕ
class_of (kind.Op k) = operator_class k
class_of (kind.Word k) = keyword_class k
class_of (kind.Name n) = name_class n
class_of (kind.Label n) = 74
class_of (kind.LabelUse n) = 75
class_of (kind.Number value long) = 76
class_of (kind.CharLiteral u) = 77
class_of kind.StringOpen = 78
class_of (kind.StringText text) = 79
class_of (kind.StringName n) = 80
class_of kind.HoleOpen = 81
class_of kind.HoleClose = 82
class_of kind.StringClose = 83

-- ---- tests of one token

abbrev pub is_one_of : List ℕ → ℕ → Bool
is_one_of [] n = false
is_one_of (c ∷ cs) n = n == c || is_one_of cs n

abbrev pub is_op : Operator → Token → Bool
is_op k t = class_of t.kind == operator_class k

abbrev pub is_word : Keyword → Token → Bool
is_word k t = class_of t.kind == keyword_class k

abbrev pub is_name : Token → Bool
is_name t = nat_lt 83 (class_of t.kind)

abbrev pub is_of : ℕ → Token → Bool
is_of n t = class_of t.kind == n

abbrev pub is_catch : Token → Bool
is_catch t = class_of t.kind == 84

abbrev pub is_finally : Token → Bool
is_finally t = class_of t.kind == 85

abbrev pub is_out : Token → Bool
is_out t = class_of t.kind == 86

-- the words of members and files
abbrev pub is_get : Token → Bool
is_get t = class_of t.kind == 87

abbrev pub is_set : Token → Bool
is_set t = class_of t.kind == 88

abbrev pub is_init : Token → Bool
is_init t = class_of t.kind == 89

abbrev pub is_constructor : Token → Bool
is_constructor t = class_of t.kind == 90

abbrev pub is_import : Token → Bool
is_import t = class_of t.kind == 91

abbrev pub is_abstract : Token → Bool
is_abstract t = class_of t.kind == 97

abbrev pub is_enum : Token → Bool
is_enum t = class_of t.kind == 100

-- `out`, and the words from `public` to `reified`
abbrev pub is_modifier_name : Token → Bool
is_modifier_name t = is_out t || (nat_lt 91 (class_of t.kind) && nat_lt (class_of t.kind) 110)

abbrev pub is_modifier : Token → Bool
is_modifier t = is_word keyword.In t || is_modifier_name t

abbrev pub is_label : Token → Bool
is_label t = class_of t.kind == 74

abbrev pub is_label_use : Token → Bool
is_label_use t = class_of t.kind == 75

abbrev pub unmarked : (Token → Bool) → Token → Bool
unmarked f t = f t && not t.marked

abbrev pub marked : (Token → Bool) → Token → Bool
marked f t = f t && t.marked

-- numbers, characters, `true`, `false`, `null`, `this`
abbrev pub is_atom : Token → Bool
is_atom t = is_one_of (76 ∷ 77 ∷ 66 ∷ 50 ∷ 59 ∷ 64 ∷ []) (class_of t.kind)

abbrev pub is_string_open : Token → Bool
is_string_open t = class_of t.kind == 78

abbrev pub is_string_text : Token → Bool
is_string_text t = class_of t.kind == 79

abbrev pub is_string_name : Token → Bool
is_string_name t = class_of t.kind == 80

abbrev pub is_hole_open : Token → Bool
is_hole_open t = class_of t.kind == 81

abbrev pub is_hole_close : Token → Bool
is_hole_close t = class_of t.kind == 82

abbrev pub is_string_close : Token → Bool
is_string_close t = class_of t.kind == 83

abbrev pub is_piece : Token → Bool
is_piece t = is_one_of (79 ∷ 80 ∷ 81 ∷ []) (class_of t.kind)

-- `return`, `break`, `continue`, `throw`
abbrev pub is_jump : Token → Bool
is_jump t = is_one_of (62 ∷ 45 ∷ 47 ∷ 65 ∷ []) (class_of t.kind)

-- `break`, `continue`
abbrev pub is_break : Token → Bool
is_break t = is_one_of (45 ∷ 47 ∷ []) (class_of t.kind)

-- `-`, `+`, `!`, `++`, `--`
abbrev pub is_prefix : Token → Bool
is_prefix t = is_one_of (22 ∷ 21 ∷ 30 ∷ 9 ∷ 10 ∷ []) (class_of t.kind)

-- `++`, `--`, `!!`
abbrev pub is_postfix : Token → Bool
is_postfix t = is_one_of (9 ∷ 10 ∷ 16 ∷ []) (class_of t.kind)

-- `.`, `?.`
abbrev pub is_dot : Token → Bool
is_dot t = is_one_of (33 ∷ 17 ∷ []) (class_of t.kind)

-- `==`, `!=`, `===`, `!==`
abbrev pub is_equality : Token → Bool
is_equality t = is_one_of (3 ∷ 4 ∷ 0 ∷ 1 ∷ []) (class_of t.kind)

-- `<`, `>`, `<=`, `>=`
abbrev pub is_comparison : Token → Bool
is_comparison t = is_one_of (28 ∷ 29 ∷ 5 ∷ 6 ∷ []) (class_of t.kind)

-- `in`, `!in`
abbrev pub is_in : Token → Bool
is_in t = is_one_of (54 ∷ 55 ∷ []) (class_of t.kind)

-- `is`, `!is`
abbrev pub is_is : Token → Bool
is_is t = is_one_of (57 ∷ 58 ∷ []) (class_of t.kind)

-- `as`, `as?`
abbrev pub is_as : Token → Bool
is_as t = is_one_of (43 ∷ 44 ∷ []) (class_of t.kind)

-- `..`, `..<`
abbrev pub is_range : Token → Bool
is_range t = is_one_of (20 ∷ 2 ∷ []) (class_of t.kind)

-- `+`, `-`
abbrev pub is_sum : Token → Bool
is_sum t = is_one_of (21 ∷ 22 ∷ []) (class_of t.kind)

-- `*`, `/`, `%`
abbrev pub is_product : Token → Bool
is_product t = is_one_of (23 ∷ 25 ∷ 26 ∷ []) (class_of t.kind)

-- `=`, `+=`, `-=`, `*=`, `/=`, `%=`
abbrev pub is_assignment : Token → Bool
is_assignment t = is_one_of (27 ∷ 11 ∷ 12 ∷ 13 ∷ 14 ∷ 15 ∷ []) (class_of t.kind)

-- `val`, `var`
abbrev pub is_local : Token → Bool
is_local t = is_one_of (70 ∷ 71 ∷ []) (class_of t.kind)

-- a label, `for`, `while`, `do`
abbrev pub is_loop : Token → Bool
is_loop t = is_one_of (74 ∷ 51 ∷ 73 ∷ 48 ∷ []) (class_of t.kind)

-- ---- with which tokens rows begin

abbrev pub begins_type : Token → Bool
begins_type t = is_name t || is_op operator.OpenRound t

abbrev pub begins_type_argument : Token → Bool
begins_type_argument t = begins_type t || (is_op operator.Times t || is_word keyword.In t)

-- what may stand behind the prefix operators: literals, strings, names, `(`, `super`, `if`, `when`, `try`, `{`, jumps
abbrev pub begins_postfix : Token → Bool
begins_postfix t = is_atom t || (is_name t || (is_jump t || is_one_of (78 ∷ 37 ∷ 63 ∷ 53 ∷ 72 ∷ 67 ∷ 41 ∷ []) (class_of t.kind)))

abbrev pub begins_expression : Token → Bool
begins_expression t = is_prefix t || begins_postfix t

abbrev pub begins_statement : Token → Bool
begins_statement t = is_local t || (is_loop t || begins_expression t)

abbrev pub begins_argument : Token → Bool
begins_argument t = is_op operator.Times t || begins_expression t

abbrev pub begins_condition : Token → Bool
begins_condition t = is_in t || (is_is t || begins_expression t)

-- a lambda behind a call, with its label
abbrev pub begins_trailing : Token → Bool
begins_trailing t = is_label t || is_op operator.OpenBrace t

-- modifiers, `class`, `interface`, `object`, `fun`, `val`, `var`
abbrev pub begins_declaration : Token → Bool
begins_declaration t = is_modifier t || is_one_of (46 ∷ 56 ∷ 60 ∷ 52 ∷ 70 ∷ 71 ∷ []) (class_of t.kind)

-- of a function or of a type: its modifiers or its name
abbrev pub begins_parameter : Token → Bool
begins_parameter t = is_word keyword.In t || is_name t

-- Tokens of one class that have the same mark look alike to every test of the next token. So a condition on all tokens is computed over
-- one of each class, with and without a mark.
use Rattle.std.proofs.Common.{◌≡◌, ℕ, zero, suc, ◌+◌, ◌<◌, ◌==◌, nat_lt, Bool, true, false, not, ◌&&◌, ◌||◌, if◌then◌else◌, List, [], ◌∷◌, ◌++◌, Option, Some, None, refl, sym, ap, subst, ◌∙◌, arith}
use Rattle.std.proofs.lemmas.Bool.{ltb-true}
use Rattle.kt_lexer.specs.declared.token.Token.{Token}
use Rattle.kt_lexer.specs.declared.token.Keyword.{Keyword}
use Rattle.kt_lexer.specs.declared.token.Keyword.TheVariants as keyword
use Rattle.kt_lexer.specs.declared.token.Operator.{Operator}
use Rattle.kt_lexer.specs.declared.token.Operator.TheVariants as operator
use Rattle.kt_lexer.specs.declared.token.TokenKind.{TokenKind}
use Rattle.kt_lexer.specs.declared.token.TokenKind.TheVariants as kind
use Rattle.kt_grammar.specs.Tokens.{operator_class, keyword_class, name_class, class_of, is_one_of}
use Rattle.bound_grammars.proofs.Checks.{Sight, all, Covers}

abbrev name_like : ℕ → ℕ
name_like n = if nat_lt n 26 then n else 26

abbrev kind_like : TokenKind → TokenKind
kind_like (kind.Op k) = kind.Op k
kind_like (kind.Word k) = kind.Word k
kind_like (kind.Name n) = kind.Name (name_like n)
kind_like (kind.Label n) = kind.Label 0
kind_like (kind.LabelUse n) = kind.LabelUse 0
kind_like (kind.Number value long) = kind.Number 0 false
kind_like (kind.CharLiteral u) = kind.CharLiteral 0
kind_like kind.StringOpen = kind.StringOpen
kind_like (kind.StringText text) = kind.StringText []
kind_like (kind.StringName n) = kind.StringName 0
kind_like kind.HoleOpen = kind.HoleOpen
kind_like kind.HoleClose = kind.HoleClose
kind_like kind.StringClose = kind.StringClose

abbrev token : TokenKind → Bool → Token
token k m = record { kind = k; span = record { file = 0; start = 0; end = 0 }; marked = m }

abbrev pub like : Token → Token
like t = token (kind_like t.kind) t.marked

abbrev pub Seen : Type 0
Seen = Sight like

same_name : (n : ℕ) (b : Bool) → nat_lt n 26 ≡ b → (if b then 84 + n else 110) ≡ name_class (if b then n else 26)
same_name n true e = ap (λ m. if m then 84 + n else 110) (sym e)
same_name n false e = refl

pub same_kind : (k : TokenKind) → class_of k ≡ class_of (kind_like k)
same_kind (kind.Op k) = refl
same_kind (kind.Word k) = refl
same_kind (kind.Name n) = same_name n (nat_lt n 26) refl
same_kind (kind.Label n) = refl
same_kind (kind.LabelUse n) = refl
same_kind (kind.Number value long) = refl
same_kind (kind.CharLiteral u) = refl
same_kind kind.StringOpen = refl
same_kind (kind.StringText text) = refl
same_kind (kind.StringName n) = refl
same_kind kind.HoleOpen = refl
same_kind kind.HoleClose = refl
same_kind kind.StringClose = refl

-- ---- tests by classes

abbrev pub of_class : (ℕ → Bool) → Seen
of_class f = record { sees = λ t. f (class_of t.kind); blind = λ t. ap f (same_kind t.kind) }

pub same_both : {a b c d : Bool} (f : Bool → Bool → Bool) → a ≡ b → c ≡ d → f a c ≡ f b d
same_both f p q = cc

abbrev pub unmarked : Seen → Seen
unmarked s = record { sees = λ t. s.sees t && not t.marked; blind = λ t. ap (λ b. b && not t.marked) (s.blind t) }

abbrev pub marked : Seen → Seen
marked s = record { sees = λ t. s.sees t && t.marked; blind = λ t. ap (λ b. b && t.marked) (s.blind t) }

abbrev pub either : Seen → Seen → Seen
either s u = record { sees = λ t. s.sees t || u.sees t; blind = λ t. same_both (λ a b. a || b) (s.blind t) (u.blind t) }

abbrev pub but_not : Seen → Seen → Seen
but_not s u = record { sees = λ t. s.sees t && not (u.sees t); blind = λ t. same_both (λ a b. a && not b) (s.blind t) (u.blind t) }

abbrev pub none_seen : Seen
none_seen = record { sees = λ t. false; blind = λ t. refl }

abbrev pub is_op : Operator → Seen
is_op k = of_class (λ c. c == operator_class k)

abbrev pub is_word : Keyword → Seen
is_word k = of_class (λ c. c == keyword_class k)

abbrev pub is_name : Seen
is_name = of_class (λ c. nat_lt 83 c)

abbrev pub is_catch : Seen
is_catch = of_class (λ c. c == 84)

abbrev pub is_finally : Seen
is_finally = of_class (λ c. c == 85)

abbrev pub is_out : Seen
is_out = of_class (λ c. c == 86)

abbrev pub is_get : Seen
is_get = of_class (λ c. c == 87)

abbrev pub is_set : Seen
is_set = of_class (λ c. c == 88)

abbrev pub is_init : Seen
is_init = of_class (λ c. c == 89)

abbrev pub is_constructor : Seen
is_constructor = of_class (λ c. c == 90)

abbrev pub is_import : Seen
is_import = of_class (λ c. c == 91)

abbrev pub is_abstract : Seen
is_abstract = of_class (λ c. c == 97)

abbrev pub is_enum : Seen
is_enum = of_class (λ c. c == 100)

abbrev pub is_modifier_name : Seen
is_modifier_name = either is_out (of_class (λ c. (nat_lt 91 c) && (nat_lt c 110)))

abbrev pub is_modifier : Seen
is_modifier = either (is_word keyword.In) is_modifier_name

abbrev pub is_label : Seen
is_label = of_class (λ c. c == 74)

abbrev pub is_label_use : Seen
is_label_use = of_class (λ c. c == 75)

abbrev pub is_atom : Seen
is_atom = of_class (λ c. is_one_of (76 ∷ 77 ∷ 66 ∷ 50 ∷ 59 ∷ 64 ∷ []) c)

abbrev pub is_string_open : Seen
is_string_open = of_class (λ c. c == 78)

abbrev pub is_string_text : Seen
is_string_text = of_class (λ c. c == 79)

abbrev pub is_string_name : Seen
is_string_name = of_class (λ c. c == 80)

abbrev pub is_hole_open : Seen
is_hole_open = of_class (λ c. c == 81)

abbrev pub is_hole_close : Seen
is_hole_close = of_class (λ c. c == 82)

abbrev pub is_string_close : Seen
is_string_close = of_class (λ c. c == 83)

abbrev pub is_piece : Seen
is_piece = of_class (λ c. is_one_of (79 ∷ 80 ∷ 81 ∷ []) c)

abbrev pub is_jump : Seen
is_jump = of_class (λ c. is_one_of (62 ∷ 45 ∷ 47 ∷ 65 ∷ []) c)

abbrev pub is_break : Seen
is_break = of_class (λ c. is_one_of (45 ∷ 47 ∷ []) c)

abbrev pub is_prefix : Seen
is_prefix = of_class (λ c. is_one_of (22 ∷ 21 ∷ 30 ∷ 9 ∷ 10 ∷ []) c)

abbrev pub is_postfix : Seen
is_postfix = of_class (λ c. is_one_of (9 ∷ 10 ∷ 16 ∷ []) c)

abbrev pub is_dot : Seen
is_dot = of_class (λ c. is_one_of (33 ∷ 17 ∷ []) c)

abbrev pub is_equality : Seen
is_equality = of_class (λ c. is_one_of (3 ∷ 4 ∷ 0 ∷ 1 ∷ []) c)

abbrev pub is_comparison : Seen
is_comparison = of_class (λ c. is_one_of (28 ∷ 29 ∷ 5 ∷ 6 ∷ []) c)

abbrev pub is_in : Seen
is_in = of_class (λ c. is_one_of (54 ∷ 55 ∷ []) c)

abbrev pub is_is : Seen
is_is = of_class (λ c. is_one_of (57 ∷ 58 ∷ []) c)

abbrev pub is_as : Seen
is_as = of_class (λ c. is_one_of (43 ∷ 44 ∷ []) c)

abbrev pub is_range : Seen
is_range = of_class (λ c. is_one_of (20 ∷ 2 ∷ []) c)

abbrev pub is_sum : Seen
is_sum = of_class (λ c. is_one_of (21 ∷ 22 ∷ []) c)

abbrev pub is_product : Seen
is_product = of_class (λ c. is_one_of (23 ∷ 25 ∷ 26 ∷ []) c)

abbrev pub is_assignment : Seen
is_assignment = of_class (λ c. is_one_of (27 ∷ 11 ∷ 12 ∷ 13 ∷ 14 ∷ 15 ∷ []) c)

abbrev pub is_local : Seen
is_local = of_class (λ c. is_one_of (70 ∷ 71 ∷ []) c)

abbrev pub is_loop : Seen
is_loop = of_class (λ c. is_one_of (74 ∷ 51 ∷ 73 ∷ 48 ∷ []) c)

abbrev pub begins_type : Seen
begins_type = either is_name (is_op operator.OpenRound)

abbrev pub begins_type_argument : Seen
begins_type_argument = either begins_type (either (is_op operator.Times) (is_word keyword.In))

abbrev pub begins_postfix : Seen
begins_postfix = either is_atom (either is_name (either is_jump (of_class (λ c. is_one_of (78 ∷ 37 ∷ 63 ∷ 53 ∷ 72 ∷ 67 ∷ 41 ∷ []) c))))

abbrev pub begins_expression : Seen
begins_expression = either is_prefix begins_postfix

abbrev pub begins_statement : Seen
begins_statement = either is_local (either is_loop begins_expression)

abbrev pub begins_argument : Seen
begins_argument = either (is_op operator.Times) begins_expression

abbrev pub begins_condition : Seen
begins_condition = either is_in (either is_is begins_expression)

abbrev pub begins_trailing : Seen
begins_trailing = either is_label (is_op operator.OpenBrace)

abbrev pub begins_declaration : Seen
begins_declaration = either is_modifier (of_class (λ c. is_one_of (46 ∷ 56 ∷ 60 ∷ 52 ∷ 70 ∷ 71 ∷ []) c))

abbrev pub begins_parameter : Seen
begins_parameter = either (is_word keyword.In) is_name

-- ---- one token of each class, with and without a mark

abbrev kinds : List TokenKind
kinds = kind.Op operator.Identical ∷ kind.Op operator.NotIdentical ∷ kind.Op operator.RangeUntil ∷ kind.Op operator.EqualEqual
    ∷ kind.Op operator.NotEqual ∷ kind.Op operator.LessEqual ∷ kind.Op operator.GreaterEqual ∷ kind.Op operator.And
    ∷ kind.Op operator.Or ∷ kind.Op operator.Increment ∷ kind.Op operator.Decrement ∷ kind.Op operator.PlusAssign
    ∷ kind.Op operator.MinusAssign ∷ kind.Op operator.TimesAssign ∷ kind.Op operator.DivideAssign ∷ kind.Op operator.RemainderAssign
    ∷ kind.Op operator.NotNull ∷ kind.Op operator.SafeDot ∷ kind.Op operator.Elvis ∷ kind.Op operator.Arrow
    ∷ kind.Op operator.Range ∷ kind.Op operator.Plus ∷ kind.Op operator.Minus ∷ kind.Op operator.Times
    ∷ kind.Op operator.TimesBehindDot ∷ kind.Op operator.Divide ∷ kind.Op operator.Remainder ∷ kind.Op operator.Assign
    ∷ kind.Op operator.Less ∷ kind.Op operator.Greater ∷ kind.Op operator.Not ∷ kind.Op operator.Question
    ∷ kind.Op operator.Colon ∷ kind.Op operator.Dot ∷ kind.Op operator.Comma ∷ kind.Op operator.Semicolon
    ∷ kind.Op operator.At ∷ kind.Op operator.OpenRound ∷ kind.Op operator.CloseRound ∷ kind.Op operator.OpenSquare
    ∷ kind.Op operator.CloseSquare ∷ kind.Op operator.OpenBrace ∷ kind.Op operator.CloseBrace ∷ kind.Word keyword.As
    ∷ kind.Word keyword.AsSafe ∷ kind.Word keyword.Break ∷ kind.Word keyword.Class ∷ kind.Word keyword.Continue
    ∷ kind.Word keyword.Do ∷ kind.Word keyword.Else ∷ kind.Word keyword.False ∷ kind.Word keyword.For
    ∷ kind.Word keyword.Fun ∷ kind.Word keyword.If ∷ kind.Word keyword.In ∷ kind.Word keyword.NotIn
    ∷ kind.Word keyword.Interface ∷ kind.Word keyword.Is ∷ kind.Word keyword.NotIs ∷ kind.Word keyword.Null
    ∷ kind.Word keyword.Object ∷ kind.Word keyword.Package ∷ kind.Word keyword.Return ∷ kind.Word keyword.Super
    ∷ kind.Word keyword.This ∷ kind.Word keyword.Throw ∷ kind.Word keyword.True ∷ kind.Word keyword.Try
    ∷ kind.Word keyword.Typealias ∷ kind.Word keyword.Typeof ∷ kind.Word keyword.Val ∷ kind.Word keyword.Var
    ∷ kind.Word keyword.When ∷ kind.Word keyword.While ∷ kind.Label 0 ∷ kind.LabelUse 0
    ∷ kind.Number 0 false ∷ kind.CharLiteral 0 ∷ kind.StringOpen ∷ kind.StringText []
    ∷ kind.StringName 0 ∷ kind.HoleOpen ∷ kind.HoleClose ∷ kind.StringClose ∷ []

abbrev names : ℕ → ℕ → List TokenKind
names zero n = []
names (suc k) n = kind.Name n ∷ names k (suc n)

abbrev twice : List TokenKind → List Token
twice [] = []
twice (k ∷ ks) = token k false ∷ token k true ∷ twice ks

abbrev pub tokens : List Token
tokens = twice (kinds ++ names 27 0)

abbrev nth : ℕ → List TokenKind → Option TokenKind
nth n [] = None
nth zero (k ∷ ks) = Some k
nth (suc n) (k ∷ ks) = nth n ks

module _ (f : Token → Bool) where
  abbrev seen_twice : TokenKind → Bool
  seen_twice k = f (token k false) && f (token k true)

  first_true : (a b : Bool) → (a && b) ≡ true → a ≡ true
  first_true true b h = refl
  first_true false b h = h

  second_true : (a b : Bool) → (a && b) ≡ true → b ≡ true
  second_true true b h = h
  second_true false b h = absurd (cc)

  both_true : (a b : Bool) → a ≡ true → b ≡ true → (a && b) ≡ true
  both_true true b p q = q
  both_true false b p q = p

  three : (a b c : Bool) → (a && (b && c)) ≡ true → ((a && b) && c) ≡ true
  three true b c h = h
  three false b c h = h

  pairwise : (ks : List TokenKind) → all f (twice ks) ≡ true → all seen_twice ks ≡ true
  pairwise [] h = refl
  pairwise (k ∷ ks) h = both_true (seen_twice k) (all seen_twice ks) (first_true _ _ (three (f (token k false)) (f (token k true)) (all f (twice ks)) h)) (pairwise ks (second_true (seen_twice k) _ (three (f (token k false)) (f (token k true)) (all f (twice ks)) h)))

  at_mark : (k : TokenKind) (m : Bool) → seen_twice k ≡ true → f (token k m) ≡ true
  at_mark k true h = second_true (f (token k false)) _ h
  at_mark k false h = first_true _ (f (token k true)) h

  at_nth : (ks ls : List TokenKind) (n : ℕ) (k : TokenKind) → all seen_twice (ks ++ ls) ≡ true → nth n ks ≡ Some k → seen_twice k ≡ true
  at_nth [] ls n k h e = absurd (cc)
  at_nth (l ∷ ks) ls zero k h e = let i : l ≡ k = cc in ap (λ m. seen_twice m) (sym i) ∙ first_true _ (all seen_twice (ks ++ ls)) h
  at_nth (l ∷ ks) ls (suc n) k h e = at_nth ks ls n k (second_true (seen_twice l) _ h) e

  behind_first : (ks ls : List TokenKind) → all seen_twice (ks ++ ls) ≡ true → all seen_twice ls ≡ true
  behind_first [] ls h = h
  behind_first (l ∷ ks) ls h = behind_first ks ls (second_true (seen_twice l) _ h)

  at_name : (n k m : ℕ) → all seen_twice (names k m) ≡ true → n < k → seen_twice (kind.Name (m + n)) ≡ true
  at_name n zero m h l = absurd (omega (arith, l))
  at_name zero (suc k) m h l = subst (λ i. seen_twice (kind.Name i) ≡ true) (omega arith) (first_true _ (all seen_twice (names k (suc m))) h)
  at_name (suc n) (suc k) m h l = subst (λ i. seen_twice (kind.Name i) ≡ true) (omega arith) (at_name n k (suc m) (second_true (seen_twice (kind.Name m)) _ h) (omega (arith, l)))

  small_name : (n : ℕ) (b : Bool) → nat_lt n 26 ≡ b → (if b then n else 26) < 27
  small_name n true e = omega (arith, ltb-true n 26 e)
  small_name n false e = omega arith

at_op : (k : Operator) → nth (operator_class k) kinds ≡ Some (kind.Op k)
at_op operator.Identical = refl
at_op operator.NotIdentical = refl
at_op operator.RangeUntil = refl
at_op operator.EqualEqual = refl
at_op operator.NotEqual = refl
at_op operator.LessEqual = refl
at_op operator.GreaterEqual = refl
at_op operator.And = refl
at_op operator.Or = refl
at_op operator.Increment = refl
at_op operator.Decrement = refl
at_op operator.PlusAssign = refl
at_op operator.MinusAssign = refl
at_op operator.TimesAssign = refl
at_op operator.DivideAssign = refl
at_op operator.RemainderAssign = refl
at_op operator.NotNull = refl
at_op operator.SafeDot = refl
at_op operator.Elvis = refl
at_op operator.Arrow = refl
at_op operator.Range = refl
at_op operator.Plus = refl
at_op operator.Minus = refl
at_op operator.Times = refl
at_op operator.TimesBehindDot = refl
at_op operator.Divide = refl
at_op operator.Remainder = refl
at_op operator.Assign = refl
at_op operator.Less = refl
at_op operator.Greater = refl
at_op operator.Not = refl
at_op operator.Question = refl
at_op operator.Colon = refl
at_op operator.Dot = refl
at_op operator.Comma = refl
at_op operator.Semicolon = refl
at_op operator.At = refl
at_op operator.OpenRound = refl
at_op operator.CloseRound = refl
at_op operator.OpenSquare = refl
at_op operator.CloseSquare = refl
at_op operator.OpenBrace = refl
at_op operator.CloseBrace = refl

at_word : (k : Keyword) → nth (keyword_class k) kinds ≡ Some (kind.Word k)
at_word keyword.As = refl
at_word keyword.AsSafe = refl
at_word keyword.Break = refl
at_word keyword.Class = refl
at_word keyword.Continue = refl
at_word keyword.Do = refl
at_word keyword.Else = refl
at_word keyword.False = refl
at_word keyword.For = refl
at_word keyword.Fun = refl
at_word keyword.If = refl
at_word keyword.In = refl
at_word keyword.NotIn = refl
at_word keyword.Interface = refl
at_word keyword.Is = refl
at_word keyword.NotIs = refl
at_word keyword.Null = refl
at_word keyword.Object = refl
at_word keyword.Package = refl
at_word keyword.Return = refl
at_word keyword.Super = refl
at_word keyword.This = refl
at_word keyword.Throw = refl
at_word keyword.True = refl
at_word keyword.Try = refl
at_word keyword.Typealias = refl
at_word keyword.Typeof = refl
at_word keyword.Val = refl
at_word keyword.Var = refl
at_word keyword.When = refl
at_word keyword.While = refl

pub covers : Covers like tokens
covers f h t = at_mark f (kind_like t.kind) t.marked (seen t.kind)
  where
    every : all (λ k. f (token k false) && f (token k true)) (kinds ++ names 27 0) ≡ true
    every = pairwise f (kinds ++ names 27 0) h

    there_is : (n : ℕ) (k : TokenKind) → nth n kinds ≡ Some k → (f (token k false) && f (token k true)) ≡ true
    there_is n k e = at_nth f kinds (names 27 0) n k every e

    seen : (k : TokenKind) → (f (token (kind_like k) false) && f (token (kind_like k) true)) ≡ true
    seen (kind.Op k) = there_is (operator_class k) (kind.Op k) (at_op k)
    seen (kind.Word k) = there_is (keyword_class k) (kind.Word k) (at_word k)
    seen (kind.Name n) = subst (λ i. (f (token (kind.Name i) false) && f (token (kind.Name i) true)) ≡ true) (omega arith) (at_name f (name_like n) 27 0 (behind_first f kinds (names 27 0) every) (small_name f n (nat_lt n 26) refl))
    seen (kind.Label n) = there_is 74 (kind.Label 0) refl
    seen (kind.LabelUse n) = there_is 75 (kind.LabelUse 0) refl
    seen (kind.Number value long) = there_is 76 (kind.Number 0 false) refl
    seen (kind.CharLiteral u) = there_is 77 (kind.CharLiteral 0) refl
    seen kind.StringOpen = there_is 78 kind.StringOpen refl
    seen (kind.StringText text) = there_is 79 (kind.StringText []) refl
    seen (kind.StringName n) = there_is 80 (kind.StringName 0) refl
    seen kind.HoleOpen = there_is 81 kind.HoleOpen refl
    seen kind.HoleClose = there_is 82 kind.HoleClose refl
    seen kind.StringClose = there_is 83 kind.StringClose refl

-- Lists that are derived and not read: the rules are needed.
use Rattle.std.specs.Prelude.{List, [], ◌∷◌}
use Rattle.grammars.specs.Grammar.{row, Cst, Derives, Reads}
use Rattle.kt_lexer.specs.declared.token.Token.{Token}
use Rattle.kt_lexer.specs.declared.token.TokenKind.TheVariants as kind
use Rattle.kt_lexer.specs.declared.token.Keyword.TheVariants as keyword
use Rattle.kt_lexer.specs.declared.token.Operator.TheVariants as operator
use Rattle.kt_grammar.specs.Examples.{token, o, w, a, b, c}
use Rattle.kt_grammar.specs.Rows.{Row, grammar, expression, branch}

-- return a b
abbrev pub value_of_return : List Token
value_of_return = w keyword.Return ∷ a ∷ b ∷ []

-- c as () -> a < b
abbrev pub less_behind_cast : List Token
less_behind_cast = c ∷ w keyword.As ∷ o operator.OpenRound ∷ o operator.CloseRound ∷ o operator.Arrow ∷ a ∷ o operator.Less ∷ b ∷ []

-- c is (a) -> b
abbrev pub arrow_behind_check : List Token
arrow_behind_check = c ∷ w keyword.Is ∷ o operator.OpenRound ∷ a ∷ o operator.CloseRound ∷ o operator.Arrow ∷ b ∷ []

-- try { } catch (a: b) { } finally { a -> b }
abbrev pub lambda_of_finally : List Token
lambda_of_finally =
    w keyword.Try ∷ o operator.OpenBrace ∷ o operator.CloseBrace
    ∷ token (kind.Name 0) ∷ o operator.OpenRound ∷ a ∷ o operator.Colon ∷ b ∷ o operator.CloseRound ∷ o operator.OpenBrace ∷ o operator.CloseBrace
    ∷ token (kind.Name 1) ∷ o operator.OpenBrace ∷ a ∷ o operator.Arrow ∷ b ∷ o operator.CloseBrace ∷ []

-- if (c) val a: b < c
abbrev pub less_behind_local : List Token
less_behind_local =
    w keyword.If ∷ o operator.OpenRound ∷ c ∷ o operator.CloseRound ∷ w keyword.Val ∷ a ∷ o operator.Colon ∷ b ∷ o operator.Less ∷ c ∷ []

-- if (c) a is (b) < c > ()
abbrev pub arguments_behind_check : List Token
arguments_behind_check =
    w keyword.If ∷ o operator.OpenRound ∷ c ∷ o operator.CloseRound ∷ a ∷ w keyword.Is ∷ o operator.OpenRound ∷ b ∷ o operator.CloseRound
    ∷ o operator.Less ∷ c ∷ o operator.Greater ∷ o operator.OpenRound ∷ o operator.CloseRound ∷ []

-- the whole list has a derivation by the row, and neither it nor a front of it has a reading
abbrev pub IsUnread : Row → List Token → Type 0
IsUnread n ts = ((x : Cst Token) × Derives grammar (row n) ts x []) × ((y : Cst Token) (r : List Token) → Reads grammar (row n) ts y r → ⊥)

abbrev pub RulesDecide : Type 0
RulesDecide = IsUnread expression value_of_return × IsUnread expression less_behind_cast × IsUnread branch arrow_behind_check × IsUnread expression lambda_of_finally
    × IsUnread expression less_behind_local × IsUnread expression arguments_behind_check
